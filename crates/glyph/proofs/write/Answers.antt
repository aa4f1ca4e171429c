-- The words of g, one by one, are stored where glyph i's words stand, and they are read as g. Assumes nothing.
use Rattle.std.proofs.Common.{arith, rules}
use Rattle.glyph.specs.Glyph.{words_of, Fields}
use Rattle.glyph.specs.Laws.{length-glyphs_of}
use Rattle.glyph.specs.WriteLaws.{put_glyph}
use Rattle.glyph.proofs.write.Goals as goal

pub returns : goal.returns
unfolding words_of
returns c = let a = c.args in
    let f : Fields a.g = search rules in
    put_glyph a.row.now a.i a.g (omega (arith, length-glyphs_of a.row.now)) f
