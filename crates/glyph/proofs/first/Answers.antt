-- Glyph k begins at word WORDS * k, so the words before it are the first k glyphs. Assumes nothing.
use Rattle.std.proofs.Common.{arith, sym, ◌*◌, ◌-◌, ◌≡◌}
use Rattle.glyph.specs.Glyph.{words}
use Rattle.glyph.specs.Laws.{length-glyphs_of, take-glyphs_of}
use Rattle.glyph.proofs.first.Goals as goal

pub returns : goal.returns
returns c = let w = c.args.row.now in let k = c.args.k in
    let e : words * k - 0 ≡ words * k = omega arith in
    rw e (sym (take-glyphs_of k w (omega (arith, length-glyphs_of w))))
