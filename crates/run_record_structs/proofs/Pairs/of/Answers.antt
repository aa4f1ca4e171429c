-- A turn reads a record and adds its pair to the array. Assumes nothing.
use Rattle.std.proofs.Common.{arith}
use Rattle.run_record_structs.specs.Laws.{filled_none, filled_more}
use Rattle.run_record_structs.proofs.Pairs.of.Goals as goal

pub loop-i-init : goal.loop-i-init
loop-i-init c = filled_none c.args.records.now

pub loop-i-preserved : goal.loop-i-preserved
loop-i-preserved c =
    rw (c.push.ensures, c.record_at.ensures)
    (filled_more c.args.records.now c.loop-i.i c.loop-i.pairs (omega arith) (omega arith) c.loop-i.invariant)
