-- None, where a look says so; else the places that are left fall, and those between are skip Yes, seen in the row's first len glyphs.
-- Assumes nothing.
use Rattle.std.proofs.Common.{arith, ◌-◌}
use Rattle.glyph.specs.Glyph.{glyphs_of}
use Rattle.walk_stretch.specs.Stretch.{part_yes}
use Rattle.walk_stretch.proofs.cross_ahead.Goals as goal

pub returns : goal.returns
returns c = let a = c.args in
    let gs = glyphs_of a.row.now in
    let rest = c.left_after.result in
    let seen = rw (c.anew.ensures, c.first.ensures) at c.left_after.ensures in (
      omega (arith, seen.0),
      omega arith,
      λ i l g. part_yes a.asked a.sets.now gs a.len (a.len - (a.len - a.next)) (a.len - rest) (omega arith) seen.1 i (omega arith) g,
    )
