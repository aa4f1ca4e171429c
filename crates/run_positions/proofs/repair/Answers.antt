-- The record's own position isn't past the end. Assumes nothing.
use Rattle.run_positions.specs.Repairs.{own_before}
use Rattle.run_positions.proofs.repair.Goals as goal

pub shrunk-requires : goal.shrunk-requires
shrunk-requires c = let a = c.args in own_before a.lv c.requires.0 c.requires.1 a.i c.requires.2
