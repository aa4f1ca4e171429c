use Rattle.std.proofs.Common.{◌≡◌, true, get_or}
use Rattle.bits.specs.Bits.{bit, every}
use Rattle.digest.proofs.SetDigest.is_full.Given as goal

abbrev pub invariant-loop-i : goal.invariant-loop-i
invariant-loop-i l = every l.i (λ j. every 64 (λ k. bit k (get_or l.self.masks j 0))) ≡ true
