-- Glyph k begins at word WORDS * k, so the words from there on are the glyphs from k on. Assumes nothing.
use Rattle.std.proofs.Common.{ap, arith, drop, length, length-drop, sym, take_all, ◌*◌, ◌-◌, ◌∙◌}
use Rattle.glyph.specs.Glyph.{words, glyphs_of}
use Rattle.glyph.specs.Laws.{length-glyphs_of, drop-glyphs_of}
use Rattle.glyph.proofs.onward.Goals as goal

pub returns : goal.returns
returns c = let w = c.args.row.now in let k = c.args.k in
    ap glyphs_of (take_all (length w - words * k) (drop (words * k) w) (simp length-drop (omega arith)))
    ∙ sym (drop-glyphs_of k w (omega (arith, length-glyphs_of w)))
