-- Values taken one after another, for any judge of a value and a place and any rule on places (01, port order 5).
use Rattle.std.specs.Prelude.{ℕ, ◌+◌, List, [], ◌∷◌, ◌++◌, Bool, cond}
use Rattle.verdict.specs.declared.Verdict.{Verdict}
use Rattle.walk.specs.declared.Walked.{Walked}
use Rattle.walk.specs.declared.Walked.TheVariants.{Found, Stopped, RanOut}
use Rattle.walk.specs.Walk.{walk_from, walk_back}

-- positions of a match, at most: the cursor and 63 values of input, or 64 values of a context
abbrev pub slots : ℕ
slots = 64

-- forward over so many glyphs, or backward
pub data Way : Type 0 where
  ahead : ℕ → Way
  behind : Way

-- the walk from p: forward p is the next place to test, backward the place after it
abbrev pub walk_by : Way → (ℕ → Verdict) → ℕ → Walked
walk_by (ahead len) v p = walk_from v len p
walk_by behind v p = walk_back v p

-- from where the next walk goes on when the place q was taken
abbrev pub past : Way → ℕ → ℕ
past (ahead len) q = q + 1
past behind q = q

-- the places taken; or the extent of the walk that failed; or a place was found that the rule turns down
pub data Outcome : Type 0 where
  taken : List ℕ → Outcome
  lost : ℕ → Outcome
  unlike : Outcome

-- with places taken before
abbrev pub having : List ℕ → Outcome → Outcome
having qs (taken rs) = taken (qs ++ rs)
having qs (lost extent) = lost extent
having qs unlike = unlike

-- what a walk's answer makes of the rest
abbrev pub on_walked : (ℕ → Bool) → Walked → (ℕ → Outcome) → Outcome
on_walked ok (Found q) rest = cond (ok q) (having (q ∷ []) (rest q)) unlike
on_walked ok (Stopped extent) rest = lost extent
on_walked ok (RanOut extent) rest = lost extent

-- each value, of whatever kind, takes the place that the walk for it finds, and the rule is asked before the next value
unfoldable pub takes : {X : Type 0} → Way → (X → ℕ → Verdict) → (ℕ → Bool) → ℕ → List X → Outcome
takes way v ok p [] = taken []
takes way v ok p (x ∷ xs) = on_walked ok (walk_by way (v x) p) (λ q. takes way v ok (past way q) xs)

-- from where a walk would go on after these places: forward the last and one more, backward the last; with none, where it began
unfoldable pub reached : Way → ℕ → List ℕ → ℕ
reached way p [] = p
reached way p (q ∷ qs) = reached way (past way q) qs
