use Rattle.std.proofs.Common.{◌≡◌}
use lib.Seq.{paste}
use Rattle.book.specs.Book.{most_side}
use Rattle.bits.specs.Bits.{zeros}
use Rattle.book.proofs.widen.Given as goal

abbrev pub invariant-loop-k : goal.invariant-loop-k
invariant-loop-k l = l.out ≡ paste (zeros most_side) 0 l.values l.k
