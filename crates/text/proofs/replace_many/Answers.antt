-- After k turns the first k copies stand from glyph d on; after all they are the replaced text. Assumes nothing.
use Rattle.std.proofs.Common.{arith, get_or, length, ◌∙◌, ◌≡◌}
use Rattle.glyph.specs.Glyph.{glyphs_of, blank}
use Rattle.text.specs.Text.{written}
use Rattle.text.specs.Laws.{sizes, copies_more, replaced_is}
use Rattle.text.proofs.replace_many.Goals as goal

pub loop-k-preserved : goal.loop-k-preserved
loop-k-preserved c =
    let a = c.args in
    let l = c.loop-k in
    let y = c.write in
    let z = sizes a.done.now a.coming.now a.s c.requires.0 in
    record {
      kept = y.auto.to ∙ l.invariant.kept;
      made = y.ensures
          ∙ rw l.invariant.made (copies_more written (glyphs_of a.done.now) a.s.d l.k a.ids.now
          (get_or (glyphs_of a.coming.now) a.s.idx blank) (omega arith) (omega arith));
    }

pub returns : goal.returns
returns c = let a = c.args in let l = c.loop-k in
    let e : l.k ≡ length a.ids.now = omega arith in
    replaced_is a.done.now a.coming.now a.s c.requires.0 written l.done a.ids.now l.invariant.kept c.requires.1 c.requires.2
    (rw e at l.invariant.made)
