use Rattle.std.proofs.Common.{◌≤◌}
use Rattle.glyph.specs.Glyph.{glyphs_of}
use Rattle.walk_stretch.specs.Stretch.{Crossed}
use Rattle.walk_stretch.specs.Outside.{outside_at}
use Rattle.walk_stretch.proofs.Stretch.past_outside.Given as goal

abbrev pub invariant-loop-rest : goal.invariant-loop-rest
invariant-loop-rest l = (l.least ≤ l.rest) × Crossed (outside_at l.set l.sets (glyphs_of l.self.row.now)) l.self.back l.self.len l.self.left l.rest
