use Rattle.std.proofs.Common.{length, ◌≡◌, ◌≤◌}
use Rattle.glyph.specs.Glyph.{glyphs_of}
use Rattle.ligature.specs.Ligature.{base_before}
use Rattle.ligature.proofs.find_base.Given as goal

abbrev pub invariant-loop-j : goal.invariant-loop-j
invariant-loop-j l = (l.j ≤ length (glyphs_of l.row)) × (base_before l.id (glyphs_of l.row) (length (glyphs_of l.row))
    ≡ base_before l.id (glyphs_of l.row) l.j)

abbrev pub decreases-loop-j : goal.decreases-loop-j
decreases-loop-j l = l.j
