-- After k turns the first k values stand in the first k slots. Assumes nothing.
use Rattle.std.proofs.Common.{arith}
use Rattle.book.specs.Book.{most_side}
use Rattle.book.specs.Widened.{widen_more}
use Rattle.book.proofs.widen.Goals as goal

pub loop-k-preserved : goal.loop-k-preserved
loop-k-preserved c =
    let l = c.loop-k in rw l.invariant (widen_more most_side c.args.values.now l.k (omega arith) (omega arith))
