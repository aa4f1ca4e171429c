-- One glyph written is one id's copy of the glyph at the cursor. Assumes nothing.
use Rattle.std.proofs.Common.{[], arith, get_or, ◌∙◌, ◌∷◌}
use Rattle.glyph.specs.Glyph.{glyphs_of, blank}
use Rattle.text.specs.Text.{written}
use Rattle.text.specs.Laws.{sizes, copied_one, replaced_is}
use Rattle.text.proofs.replace_one.Goals as goal

pub returns : goal.returns
returns c = let a = c.args in let y = c.write in
    let z = sizes a.done.now a.coming.now a.s c.requires.0 in
    replaced_is a.done.now a.coming.now a.s c.requires.0 written y.new.to (a.id ∷ []) y.auto.to c.requires.1 (omega arith)
    (y.ensures ∙ copied_one written (glyphs_of a.done.now) a.s.d a.id (get_or (glyphs_of a.coming.now) a.s.idx blank) (omega arith))
