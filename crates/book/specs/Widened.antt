-- Filling a table of slots with values, one a turn.
use Rattle.std.specs.Prelude.{◌≡◌, List, ℕ, ◌+◌, ◌-◌, ◌≤◌, ◌<◌, length, get_or, take, set}
use Rattle.std.proofs.Common.{sym, ap, ◌∙◌, zero-add, add-one, arith, take_all}
use Rattle.std.proofs.lemmas.List.{length-replicate, drop-replicate}
use Rattle.std.proofs.Math.Seq.{take-append_seam, paste, paste-suc}
use Rattle.book.specs.Book.{most_side}
use Rattle.bits.specs.Bits.{zeros}
use Rattle.book.specs.Places.{widened}

-- a turn
pub widen_more : (m : ℕ) (values : List ℕ) (k : ℕ) → k < m → k < length values
    → set (paste (zeros m) 0 values k) k (get_or values k 0) ≡ paste (zeros m) 0 values (k + 1)
widen_more m values k h l =
    let e : 0 + k < length (zeros m) = omega (arith, length-replicate {A = ℕ} m 0) in
    ap (λ (n : ℕ). set (paste (zeros m) 0 values k) n (get_or values k 0)) (sym (zero-add k))
    ∙ rw add-one (paste-suc (zeros m) 0 values k 0 e l)

-- the end
pub widened_is : (values : List ℕ) (k : ℕ) → k ≡ length values → length values ≤ most_side → paste (zeros most_side) 0 values k ≡ widened values
widened_is values k e h =
    ap (paste (zeros most_side) 0 values) e
    ∙ rw (take_all (length values) values (omega arith), zero-add (length values), drop-replicate {X = ℕ} (length values) most_side 0)

-- a matcher is handed the first slots
pub widened_values : (values : List ℕ) → take (length values) (widened values) ≡ values
widened_values values = take-append_seam values (zeros (most_side - length values))
