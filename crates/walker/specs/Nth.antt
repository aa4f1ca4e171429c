-- Several steps a step at a time: what a turn of the code's loop does, and where it ends.
use Rattle.std.specs.Prelude.{ℕ, suc, ◌≡◌, List}
use Rattle.std.proofs.Math.Path.{ap}
use Rattle.verdict.specs.declared.Matcher.{Matcher}
use Rattle.verdict.specs.Verdict.{Asked}
use Rattle.walk.specs.Calls.{forward_of}
use Rattle.walker.specs.Walker.{onward, nth_of}

module _ (row : List ℕ) (len place : ℕ) (m : Matcher) (asked : Asked) (syllable : ℕ) (sets : List ℕ) where
  pub nth_on : (n k : ℕ) → n ≡ suc k
      → nth_of row len place n m asked syllable sets
      ≡ onward (forward_of row len place m asked syllable sets) (λ q. nth_of row len q k m asked syllable sets)
  unfolding nth_of
  nth_on n k e = ap (λ (j : ℕ). nth_of row len place j m asked syllable sets) e

  pub nth_end : (n : ℕ) → n ≡ 0 → nth_of row len place n m asked syllable sets ≡ forward_of row len place m asked syllable sets
  unfolding nth_of
  nth_end n e = ap (λ (j : ℕ). nth_of row len place j m asked syllable sets) e
