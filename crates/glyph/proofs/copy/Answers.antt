-- A turn copies one word more. Assumes nothing.
use Rattle.std.proofs.Common.{ap, arith, drop, length-set, refl, ◌*◌, ◌∙◌, ◌≡◌}
use Rattle.std.proofs.Math.Seq.{paste, paste-zero}
use Rattle.glyph.specs.Glyph.{words, glyphs_of}
use Rattle.glyph.specs.Laws.{length-glyphs_of}
use Rattle.glyph.specs.WriteLaws.{paste_more, copied_glyphs_of}
use Rattle.glyph.proofs.copy.Goals as goal

pub loop-k-init : goal.loop-k-init
loop-k-init c = let a = c.args in (
  refl,
  omega (arith, length-glyphs_of a.to.now),
  omega (arith, length-glyphs_of a.from.now),
  paste-zero a.to.now (words * a.j) (drop (words * a.i) a.from.now),
)

pub loop-k-preserved : goal.loop-k-preserved
loop-k-preserved c = let a = c.args in let l = c.loop-k in (
  simp length-set l.invariant.0,
  l.invariant.1,
  l.invariant.2,
  rw l.invariant.3 (paste_more a.to.now a.from.now (words * a.j) (words * a.i) l.k (omega arith) (omega arith)),
)

pub returns : goal.returns
returns c = let a = c.args in let l = c.loop-k in
    let e : l.k ≡ words * a.n = omega arith in
    ap glyphs_of (l.invariant.3 ∙ ap (paste a.to.now (words * a.j) (drop (words * a.i) a.from.now)) e)
    ∙ copied_glyphs_of a.to.now a.from.now a.j a.i a.n l.invariant.1 l.invariant.2
