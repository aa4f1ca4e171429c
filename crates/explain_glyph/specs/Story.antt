-- The turns of the glyphs after the cursor, one after another, are the match: what is told glyph by glyph decides the answer.
-- By induction on the glyphs left; a walk a place at a time is the walk.
use Prim.Native.Nat.{ℕ, zero, suc, ◌+◌, ◌-◌, ◌<◌}
use Rattle.std.specs.Prelude.{◌≡◌, Bool, true, false, length, get_or}
use Rattle.std.proofs.Math.Path.{refl, ap}
use Rattle.std.proofs.Common.{sym, ◌∙◌, arith}
use mathlib.Core.List.{List, [], ◌∷◌}
use Rattle.glyph.specs.declared.Glyph.{Glyph}
use Rattle.glyph.specs.Glyph.{blank}
use Rattle.verdict.specs.declared.Matcher.{Matcher}
use Rattle.verdict.specs.declared.Test.{Test}
use Rattle.verdict.specs.Verdict.{value_by}
use Rattle.verdict.specs.declared.Verdict.{Verdict}
use Rattle.verdict.specs.declared.Verdict.TheVariants.{Match, NotMatch, Skip}
use Rattle.walk.specs.declared.Walked.{Walked}
use Rattle.walk.specs.Walk.{on_verdict, walk_from}
use Rattle.walk.specs.Steps.{walk_on, walk_end}
use Rattle.matching.specs.Take.{ahead, Outcome, taken, lost, unlike, having, on_walked, takes}
use Rattle.matching.specs.Matchers.{judge, joins, input_by}
use Rattle.explain_glyph.specs.declared.Turn.{Turn}
use Rattle.explain_glyph.specs.declared.Turn.TheVariants.{Passed, Taken, Stopped, Unlike}
use Rattle.explain_glyph.specs.Told.{turn_by, told_of}

-- what a turn at place p makes of the match: `same` is how it goes on with the same value due, `next` with the next
abbrev pub on_turn : Turn → ℕ → Outcome → Outcome → Outcome
on_turn Passed p same next = same
on_turn Taken p same next = having (p ∷ []) next
on_turn Stopped p same next = lost (p + 1)
on_turn Unlike p same next = unlike

-- n glyphs from place p on, each told for the value then due; with no value due the match is made, with no glyph left it is lost
unfoldable pub story_of : (ℕ → ℕ → Turn) → ℕ → ℕ → List ℕ → Outcome
story_of turn n p [] = taken []
story_of turn zero p (x ∷ xs) = lost p
story_of turn (suc n) p (x ∷ xs) = on_turn (turn x p) p (story_of turn n (p + 1) (x ∷ xs)) (story_of turn n (p + 1) xs)

module _ (v : ℕ → ℕ → Verdict) (ok : ℕ → Bool) (len : ℕ) where
  abbrev turn : ℕ → ℕ → Turn
  turn x p = turn_by (v x p) (ok p)

  on_turn_lem : (p : ℕ) (r : Verdict) (b : Bool) (same next : Outcome) (w : Walked) (rest : ℕ → Outcome) → ok p ≡ b → same ≡ on_walked ok w rest
      → next ≡ rest p → on_turn (turn_by r b) p same next ≡ on_walked ok (on_verdict r p w) rest
  on_turn_lem p Match true same next w rest e s n = rw (e, n)
  on_turn_lem p Match false same next w rest e s n = rw e
  on_turn_lem p NotMatch b same next w rest e s n = refl
  on_turn_lem p Skip b same next w rest e s n = s

  story_takes : (n p : ℕ) (values : List ℕ) → p + n ≡ len → story_of turn n p values ≡ takes (ahead len) v ok p values
  unfolding story_of takes
  story_takes n p [] e = refl
  story_takes zero p (x ∷ xs) e = rw (walk_end (v x) len p (omega arith))
  story_takes (suc n) p (x ∷ xs) e =
      on_turn_lem p (v x p) (ok p) (story_of turn n (p + 1) (x ∷ xs)) (story_of turn n (p + 1) xs) (walk_from (v x) len (p + 1))
      (λ q. takes (ahead len) v ok (q + 1) xs) refl (story_takes n (p + 1) (x ∷ xs) (omega arith)) (story_takes n (p + 1) xs (omega arith))
      ∙ ap (λ (w : Walked). on_walked ok w (λ q. takes (ahead len) v ok (q + 1) xs)) (sym (walk_on (v x) len p (omega arith)))

-- the turn that is told of place p for a value
abbrev pub turn_at : Matcher → List ℕ → Test → List Glyph → List Glyph → ℕ → ℕ → ℕ → Turn
turn_at m sets test searched gs idx x p =
    (told_of m sets (record { test = test; value = x }) (get_or gs idx blank) (get_or gs p blank) searched).turn

-- input matching is the story of the glyphs after the cursor
pub input_story : (m : Matcher) (sets : List ℕ) (test : Test) (searched gs : List Glyph) (idx : ℕ) (values : List ℕ) → idx < length gs
    → input_by m sets (value_by test []) searched gs idx values ≡ story_of (turn_at m sets test searched gs idx) (length gs - (idx + 1)) (idx + 1)
    values
unfolding input_by
input_story m sets test searched gs idx values h =
    sym (story_takes (judge m sets (value_by test []) (get_or gs idx blank).syllable gs) (joins m sets searched gs idx) (length gs)
    (length gs - (idx + 1)) (idx + 1) values (omega arith))
