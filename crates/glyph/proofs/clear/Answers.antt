-- The words cleared are those of the n glyphs. Assumes nothing.
use Rattle.std.proofs.Common.{ap, arith, ◌*◌, ◌+◌, ◌-◌, ◌∙◌, ◌≡◌}
use Rattle.std.proofs.Math.Seq.{paste}
use Rattle.std.proofs.lemmas.Grind.{common_steps}
use borrow.Rule.Slice.PartMut.{put_mid}
use Rattle.bits.specs.Bits.{zeros}
use Rattle.glyph.specs.Glyph.{words, glyphs_of}
use Rattle.glyph.specs.Laws.{length-glyphs_of}
use Rattle.glyph.specs.WriteLaws.{cleared_glyphs_of}
use Rattle.glyph.proofs.clear.Goals as goal

pub returns : goal.returns
returns c =
    let a = c.args in
    let w = a.row.now in
    let x = words * a.j in
    let n = words * a.n in
    let h = c.fill.ensures.after (λ y e. e) in
    let e : put_mid x (x + n - x) w c.fill.new.self ≡ paste w x (zeros n) n = grind (arith, common_steps, h) in
    ap glyphs_of e
    ∙ cleared_glyphs_of w a.j a.n (omega (arith, length-glyphs_of w))
