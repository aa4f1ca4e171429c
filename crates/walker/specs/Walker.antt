-- A walker, where it stands after a step, and the answer of several steps in a row (01, port order 4: the walker that keeps the row it walks).
-- A step's answer is the walk's own, on the walker's row and place.
use Rattle.std.specs.Prelude.{ℕ, zero, suc, List, Result, Ok, Err}
use Rattle.std.specs.Borrow.{Bor}
use Rattle.glyph.specs.declared.IllShaped.{IllShaped}
use Rattle.verdict.specs.declared.Matcher.{Matcher}
use Rattle.verdict.specs.Verdict.{Asked}
use Rattle.walk.specs.declared.Walked.{Walked}
use Rattle.walk.specs.declared.Walked.TheVariants.{Found, Stopped, RanOut}
use Rattle.walk.specs.Calls.{forward_of}
use Rattle.walker.specs.declared.Walker.{Walker}

-- the walker of a row that stands at a place
abbrev pub standing : Bor (List ℕ) → ℕ → Walker
standing row place = record { row = row; place = place }

-- at the place found, and else where it stood
abbrev pub place_after : ℕ → Result Walked IllShaped → ℕ
place_after place (Ok (Found q)) = q
place_after place (Ok (Stopped extent)) = place
place_after place (Ok (RanOut extent)) = place
place_after place (Err e) = place

-- where a place was found, what is answered from there; any other answer stands
abbrev pub onward : Result Walked IllShaped → (ℕ → Result Walked IllShaped) → Result Walked IllShaped
onward (Ok (Found q)) rest = rest q
onward (Ok (Stopped extent)) rest = Ok (Stopped extent)
onward (Ok (RanOut extent)) rest = Ok (RanOut extent)
onward (Err e) rest = Err e

-- the match after n others, or the answer of the first step that finds none
unfoldable pub nth_of : List ℕ → ℕ → ℕ → ℕ → Matcher → Asked → ℕ → List ℕ → Result Walked IllShaped
nth_of row len place zero m sign syllable sets = forward_of row len place m sign syllable sets
nth_of row len place (suc n) m sign syllable sets =
    onward (forward_of row len place m sign syllable sets) (λ q. nth_of row len q n m sign syllable sets)
