-- Each of the three shifts is below 32. Assumes nothing.
use Rattle.std.proofs.Common.{ℕ, zero, suc, ◌<◌, arith, rules}
use Rattle.digest.specs.Digest.{shift}
use Rattle.digest.proofs.shifted.Goals as goal

small : (i : ℕ) → i < 3 → shift i < 32
small zero h = omega arith
small (suc zero) h = omega arith
small (suc (suc zero)) h = omega arith
small (suc (suc (suc i))) h = absurd (omega arith)

pub overflow_shr-result : goal.overflow_shr-result
overflow_shr-result c = small c.args.i (search rules)
