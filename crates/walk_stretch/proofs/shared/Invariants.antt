use Rattle.std.proofs.Common.{◌+◌}
use Rattle.glyph.specs.Glyph.{glyphs_of}
use Rattle.walk_stretch.specs.Blocks.{flipped_at, Common}
use Rattle.walk_stretch.proofs.shared.Given as goal

abbrev pub invariant-loop-k : goal.invariant-loop-k
invariant-loop-k l = Common (flipped_at l.class (glyphs_of l.row)) l.all l.p (l.p + l.k)
