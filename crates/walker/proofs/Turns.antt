-- What a turn of the code's loop does, by the answer of its step. Assumes nothing.
use Rattle.std.specs.Prelude.{◌≡◌, refl, ℕ, ◌-◌, ◌<◌, List, Result, Ok, Err}
use Rattle.std.specs.Result.{IsErr}
use Rattle.std.proofs.Common.{ap, sym, ◌∙◌, arith}
use Rattle.glyph.specs.declared.IllShaped.{IllShaped}
use Rattle.verdict.specs.declared.Matcher.{Matcher}
use Rattle.verdict.specs.Verdict.{Asked}
use Rattle.walk.specs.declared.Walked.{Walked}
use Rattle.walk.specs.declared.Walked.TheVariants.{Found, Stopped, RanOut}
use Rattle.walk.specs.Calls.{forward_of}
use Rattle.walker.specs.Walker.{onward, nth_of}
use Rattle.walker.specs.Nth.{nth_on, nth_end}

-- an answer that isn't a place found stands
stands : (w : Walked) (rest : ℕ → Result Walked IllShaped) → ((q : ℕ) → w ≡ Found q → ⊥) → onward (Ok w) rest ≡ Ok w
stands (Found q) rest h = absurd (h q refl)
stands (Stopped extent) rest h = refl
stands (RanOut extent) rest h = refl

module _ (row : List ℕ) (len place n : ℕ) (m : Matcher) (asked : Asked) (syllable : ℕ) (sets : List ℕ) (h : 0 < n) where
  abbrev rest : ℕ → Result Walked IllShaped
  rest q = nth_of row len q (n - 1) m asked syllable sets

  by_step : (r : Result Walked IllShaped) → forward_of row len place m asked syllable sets ≡ r
      → nth_of row len place n m asked syllable sets ≡ onward r rest
  by_step r e = nth_on row len place m asked syllable sets n (n - 1) (omega arith) ∙ ap (λ (r : Result Walked IllShaped). onward r rest) e

  pub nth_next : (q k : ℕ) → forward_of row len place m asked syllable sets ≡ Ok (Found q) → k ≡ n - 1
      → nth_of row len place n m asked syllable sets ≡ nth_of row len q k m asked syllable sets
  nth_next q k e s = by_step (Ok (Found q)) e ∙ ap (λ (j : ℕ). nth_of row len q j m asked syllable sets) (sym s)

  pub nth_stands : (w : Walked) → forward_of row len place m asked syllable sets ≡ Ok w → ((q : ℕ) → w ≡ Found q → ⊥)
      → nth_of row len place n m asked syllable sets ≡ Ok w
  nth_stands w e k = by_step (Ok w) e ∙ stands w rest k

  pub nth_bad : (e : IllShaped) → forward_of row len place m asked syllable sets ≡ Err e → nth_of row len place n m asked syllable sets ≡ Err e
  nth_bad x e = by_step (Err x) e

-- there is one refusal
pub only : (r : Result Walked IllShaped) (e : IllShaped) → IsErr r → r ≡ Err e
only (Ok w) x h = absurd cc
only (Err e) x h = refl

pub ruleset turns = (nth_next, nth_stands, nth_bad, nth_end, only)
