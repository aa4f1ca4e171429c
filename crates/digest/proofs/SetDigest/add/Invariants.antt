use Rattle.std.proofs.Common.{◌≡◌, length, get_or}
use Rattle.bits.specs.Bits.{bit}
use Rattle.digest.specs.Digest.{added}
use Rattle.digest.proofs.Masks.{Made}
use Rattle.digest.proofs.SetDigest.add.Given as goal

abbrev pub invariant-loop-i : goal.invariant-loop-i
invariant-loop-i l = record {
  three : length l.masks ≡ 3;
  made : Made l.i l.masks (added l.g (λ j k. bit k (get_or l.old j 0)));
}
