-- The walks a place at a time: what a turn of the code's loops does, and where they end.
use Prim.Native.Nat.{ℕ, suc, ◌+◌, ◌-◌, ◌≤◌, ◌<◌}
use Rattle.std.specs.Prelude.{◌≡◌}
use Rattle.std.proofs.Math.Path.{ap}
use Rattle.std.proofs.Common.{◌∙◌}
use native.Mathlib.Omega.{arith}
use Rattle.verdict.specs.declared.Verdict.{Verdict}
use Rattle.walk.specs.declared.Walked.TheVariants.{RanOut}
use Rattle.walk.specs.Walk.{on_verdict, walk, walk_from, on_verdict_back, walk_back}

module _ (v : ℕ → Verdict) (len next : ℕ) where
  pub walk_on : next < len → walk_from v len next ≡ on_verdict (v next) next (walk_from v len (next + 1))
  unfolding walk_from walk
  walk_on h =
      let left : len - next ≡ suc (len - (next + 1)) = omega arith in
      ap (λ (n : ℕ). walk v n next) left

  -- a turn whose verdict is r
  pub walk_on_by : next < len → (r : Verdict) → v next ≡ r → walk_from v len next ≡ on_verdict r next (walk_from v len (next + 1))
  walk_on_by h r e = walk_on h ∙ ap (λ (r : Verdict). on_verdict r next (walk_from v len (next + 1))) e

  pub walk_end : len ≤ next → walk_from v len next ≡ RanOut next
  unfolding walk_from walk
  walk_end h =
      let left : len - next ≡ 0 = omega arith in
      ap (λ (n : ℕ). walk v n next) left

module _ (v : ℕ → Verdict) (place : ℕ) where
  pub back_on_lem : (p : ℕ) → place ≡ suc p → walk_back v place ≡ on_verdict_back (v p) p (walk_back v p)
  unfolding walk_back
  back_on_lem p e = ap (walk_back v) e

  pub back_on_by : (p : ℕ) → place ≡ suc p → (r : Verdict) → v p ≡ r → walk_back v place ≡ on_verdict_back r p (walk_back v p)
  back_on_by p h r e = back_on_lem p h ∙ ap (λ (r : Verdict). on_verdict_back r p (walk_back v p)) e

  pub back_end : place ≡ 0 → walk_back v place ≡ RanOut 0
  unfolding walk_back
  back_end e = ap (walk_back v) e
