use Rattle.std.proofs.Common.{◌≡◌, true, ◌&&◌, get_or}
use Rattle.bits.specs.Bits.{bit, every, some}
use Rattle.digest.proofs.SetDigest.may_intersect.Given as goal

abbrev pub invariant-loop-i : goal.invariant-loop-i
invariant-loop-i l = every l.i (λ j. some 64 (λ k. bit k (get_or l.masks j 0) && bit k (get_or l.others j 0))) ≡ true
