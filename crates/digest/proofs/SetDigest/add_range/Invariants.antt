use Rattle.std.proofs.Common.{◌≡◌, not, length, get_or}
use Rattle.bits.specs.Bits.{bit, every}
use Rattle.digest.specs.Digest.{wide, ranged}
use Rattle.digest.proofs.Masks.{Made}
use Rattle.digest.proofs.SetDigest.add_range.Given as goal

abbrev pub invariant-loop-i : goal.invariant-loop-i
invariant-loop-i l = record {
  three : length l.masks ≡ 3;
  noted : l.yes ≡ not (every l.i (λ j. wide j l.a l.b));
  made : Made l.i l.masks (ranged l.a l.b (λ j k. bit k (get_or l.old j 0)));
}
