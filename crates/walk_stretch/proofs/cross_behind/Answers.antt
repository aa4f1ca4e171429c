-- None, where a look says so; else the places that are left fall, and those between are skip Yes, seen in the glyphs before the place.
-- Assumes nothing.
use Rattle.std.proofs.Common.{arith}
use Rattle.glyph.specs.Glyph.{glyphs_of}
use Rattle.walk_stretch.specs.Stretch.{part_yes}
use Rattle.walk_stretch.proofs.cross_behind.Goals as goal

pub returns : goal.returns
returns c = let a = c.args in
    let rest = c.left_after.result in
    let seen = rw (c.anew.ensures, c.first.ensures) at c.left_after.ensures in
    (seen.0, part_yes a.asked a.sets.now (glyphs_of a.row.now) a.place rest a.place (omega arith) seen.1)
