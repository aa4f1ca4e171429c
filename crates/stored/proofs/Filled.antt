-- A list of which the first k elements have been filled from a rule, and the rest stand. Assumes nothing.
use Rattle.std.proofs.Common.{◌≡◌, ℕ, ◌+◌, ◌<◌, Bool, true, false, cond, eqb, ltb, List, length, get_or, set, ap, ◌∙◌, arith}
use Rattle.std.proofs.Common.{get_or-set_other, get_or-set_same, lt-ltb, eqb-true}
use borrow.Author.Tests.{eqb-false}
use Rattle.bits.proofs.Laws.{ltb_same}

module _ (xs ys : List ℕ) (f : ℕ → ℕ) (k v : ℕ) (h : k < length xs) (e : (j : ℕ) → get_or xs j 0 ≡ cond (ltb j k) (f j) (get_or ys j 0))
    (g : v ≡ f k) where
  filled_by : (j : ℕ) (t : Bool) → eqb j k ≡ t → get_or (set xs k v) j 0 ≡ cond (ltb j (k + 1)) (f j) (get_or ys j 0)
  filled_by j true s =
      let same : j ≡ k = eqb-true j k s in
      rw (same, get_or-set_same xs k v 0 h, lt-ltb k (k + 1) (omega arith)) g
  filled_by j false s =
      let n = eqb-false j k s in
      get_or-set_other xs k j v 0 n
      ∙ e j
      ∙ ap (λ (t : Bool). cond t (f j) (get_or ys j 0)) (ltb_same j k j (k + 1) (λ l. below l n) (λ l. omega arith))
    where
      below : j < k + 1 → (j ≡ k → ⊥) → j < k
      below l n = omega arith

  -- one element more
  pub filled_more : (j : ℕ) → get_or (set xs k v) j 0 ≡ cond (ltb j (k + 1)) (f j) (get_or ys j 0)
  filled_more j = filled_by j (eqb j k) mathlib.Core.Path.refl
