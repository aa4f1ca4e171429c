-- The base found stands in the row. Assumes nothing.
use Rattle.std.proofs.Common.{length, sym, ◌∙◌}
use Rattle.glyph.specs.Glyph.{glyphs_of}
use Rattle.ligature.specs.Laws.{base_found}
use Rattle.explain.proofs.tell_base.Goals as goal

pub read-g-requires : goal.read-g-requires
read-g-requires c = let a = c.args in
    let gs = glyphs_of a.searched.now in
    ((base_found a.id gs (length gs) c.in-Some.j).0 (sym c.find_base.ensures
    ∙ c.in-Some.is)).inside
