-- Of each charge (01, port order 2): what was taken plus what remains is what was there before it, Exhausted takes nothing, and taking 0 always
-- succeeds.
use Rattle.std.specs.Prelude.{Bool, cond, ⊤, Result, Ok, Err, ◌≡◌, ℕ, ◌+◌, ◌-◌, ◌*◌, ◌≤◌, ◌<◌, ltb, leb}
use Rattle.std.proofs.Math.Bool.{true, false}
use Rattle.std.proofs.Math.Path.{refl}
use native.Mathlib.Omega.{arith}
use Rattle.std.proofs.Common.{le_trans, lt_of_le_of_lt}
use Rattle.std.proofs.Math.Nat.{sub-zero}
use borrow.Author.Tests.{le-leb, lt-leb, le-ltb, lt-ltb, leb-true, leb-false, ltb-true}
use Rattle.allowance.specs.declared.Budget.{Budget}
use Rattle.allowance.specs.declared.Exhausted.{Exhausted}
use Rattle.allowance.specs.Allowance.{most, budget_with, charge_taken, charge_exhausted, worked, allocated}

module _ (b : Budget) where
  -- no more than remains
  pub worked_within : (n : ℕ) → n ≤ b.work → worked n b ≡ charge_taken (budget_with (b.work - n) b.bytes)
  unfolding worked
  worked_within n h = rw (le-leb n b.work h)

  pub worked_past : (n : ℕ) → b.work < n → worked n b ≡ charge_exhausted b
  unfolding worked
  worked_past n h = rw (lt-leb n b.work h)

  either_way : (t : Bool) → cond t (charge_exhausted b) (charge_exhausted b) ≡ charge_exhausted b
  either_way true = refl
  either_way false = refl

  pub allocated_past : (n s : ℕ) → b.bytes < n * s → allocated n s b ≡ charge_exhausted b
  unfolding allocated
  allocated_past n s h = rw (lt-leb (n * s) b.bytes h) (either_way (ltb most (n * s)))

  pub allocated_within : (n s : ℕ) → n * s ≤ b.bytes → b.bytes ≤ most → allocated n s b ≡ charge_taken (budget_with b.work (b.bytes - n * s))
  unfolding allocated
  allocated_within n s h l = rw (le-ltb most (n * s) (le_trans h l), le-leb (n * s) b.bytes h)

  -- taking 0 always succeeds, and takes nothing
  pub worked_none : worked 0 b ≡ charge_taken b
  worked_none = rw (worked_within 0 (omega arith), sub-zero b.work)

  -- of bytes too: no things, or things of no size
  pub allocated_none : (n s : ℕ) → n * s ≡ 0 → allocated n s b ≡ charge_taken b
  unfolding allocated
  allocated_none n s e = rw (e, le-leb 0 b.bytes (omega arith), sub-zero b.bytes)

  -- a product that passes 64 bits is Exhausted, whatever remains
  pub product_past : (n s : ℕ) → most < n * s → allocated n s b ≡ charge_exhausted b
  unfolding allocated
  product_past n s h = rw (lt-ltb most (n * s) h)

-- ---- by the answer: what was taken plus what remains is what was there, and Exhausted changes nothing

-- a charge of n on the counter `from`, beside another one
abbrev pub Balances : Result ⊤ Exhausted → ℕ → ℕ → ℕ → ℕ → ℕ → Type 0
Balances (Ok u) n from to other other' = (n + to ≡ from) × (other' ≡ other)
Balances (Err e) n from to other other' = (from < n) × (to ≡ from) × (other' ≡ other)

module _ (b : Budget) where
  worked_by : (n : ℕ) (t : Bool) → leb n b.work ≡ t → let r = worked n b in
      Balances r.charge n b.work r.left.work b.bytes r.left.bytes
  unfolding worked
  worked_by n true e = let h = leb-true n b.work e in rw e (omega arith, refl)
  worked_by n false e = rw e (leb-false n b.work e, refl, refl)

  pub worked_kept : (n : ℕ) → let r = worked n b in Balances r.charge n b.work r.left.work b.bytes r.left.bytes
  worked_kept n = worked_by n (leb n b.work) refl

  allocated_by : (n s : ℕ) (t u : Bool) → b.bytes ≤ most → ltb most (n * s) ≡ t → leb (n * s) b.bytes ≡ u
      → let r = allocated n s b in Balances r.charge (n * s) b.bytes r.left.bytes b.work r.left.work
  unfolding allocated
  allocated_by n s true u l e f = let h = ltb-true most (n * s) e in rw e (lt_of_le_of_lt l h, refl, refl)
  allocated_by n s false true l e f = let h = leb-true (n * s) b.bytes f in rw (e, f) (omega arith, refl)
  allocated_by n s false false l e f = rw (e, f) (leb-false (n * s) b.bytes f, refl, refl)

  pub allocated_kept : (n s : ℕ) → b.bytes ≤ most → let r = allocated n s b in
      Balances r.charge (n * s) b.bytes r.left.bytes b.work r.left.work
  allocated_kept n s l = allocated_by n s (ltb most (n * s)) (leb (n * s) b.bytes) l refl refl
