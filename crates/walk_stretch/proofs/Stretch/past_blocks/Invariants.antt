use Rattle.std.proofs.Common.{◌≤◌}
use Rattle.glyph.specs.Glyph.{glyphs_of}
use Rattle.walk_stretch.specs.Stretch.{Crossed}
use Rattle.walk_stretch.specs.Blocks.{shown_at}
use Rattle.walk_stretch.proofs.Stretch.past_blocks.Given as goal

abbrev pub invariant-loop-rest : goal.invariant-loop-rest
invariant-loop-rest l = (l.rest ≤ l.self.left)
    × Crossed (shown_at l.asked l.class (glyphs_of l.self.row.now)) l.self.back l.self.len l.self.left l.rest

abbrev pub decreases-loop-rest : goal.decreases-loop-rest
decreases-loop-rest l = l.rest
