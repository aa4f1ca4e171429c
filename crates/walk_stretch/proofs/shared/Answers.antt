-- What the first k glyphs of the block have in common. Each turn takes one more. Assumes nothing.
use Rattle.std.proofs.Common.{ap, arith, ◌*◌, ◌+◌}
use lib.Bits.{bit_xor}
use Rattle.glyph.specs.declared.Glyph.{Glyph}
use Rattle.glyph.specs.Glyph.{glyphs_of}
use Rattle.walk_stretch.specs.Blocks.{flipped_at, common_more}
use Rattle.walk_stretch.proofs.shared.Goals as goal

pub loop-k-preserved : goal.loop-k-preserved
loop-k-preserved c =
    let a = c.args in
    let l = c.loop-k in
    common_more (flipped_at a.class (glyphs_of a.row.now)) a.p (a.p + l.k) l.all _ _
    (ap (λ (g : Glyph). bit_xor g.props (a.class * 256)) c.read.ensures) (omega arith) l.invariant
