use Rattle.std.proofs.Common.{drop}
use Rattle.digest.specs.Digest.{bits_of, added_all}
use Rattle.digest.specs.Laws.{SameBits}
use Rattle.digest.proofs.SetDigest.add_array.Given as goal

abbrev pub invariant-loop-g : goal.invariant-loop-g
invariant-loop-g l = SameBits (added_all (drop l.g-index l.array) (bits_of l.digest)) (added_all l.array (bits_of l.initial.digest))
