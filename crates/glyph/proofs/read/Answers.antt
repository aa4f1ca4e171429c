use Rattle.std.proofs.Common.{arith}
use Rattle.glyph.specs.Laws.{length-glyphs_of, read_glyph}
use Rattle.glyph.proofs.read.Goals as goal

pub returns : goal.returns
returns c = let a = c.args in
    let w = a.row.now in
    read_glyph w a.i (omega (arith, length-glyphs_of w))
