-- The array begins with the words of the records before place i.
use Rattle.std.proofs.Common.{take}
use Rattle.run_record_structs.specs.Array.{Filled}
use Rattle.run_record_structs.proofs.Pairs.of.Given as goal

abbrev pub invariant-loop-i : goal.invariant-loop-i
invariant-loop-i l = Filled (take l.i l.records) l.pairs
