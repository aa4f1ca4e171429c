-- The slots that the matcher is handed are the values. Assumes nothing.
use Rattle.glyph.specs.Glyph.{glyphs_of}
use Rattle.verdict.specs.Verdict.{value_by}
use Rattle.run_chain_match.specs.Laws.{input_told_lem}
use Rattle.run_chain_match.proofs.Search.match_values.Goals as goal

pub returns : goal.returns
returns c =
    let a = c.args in
    input_told_lem a.self.terms a.self.sets.now (value_by a.test a.self.book.now) (glyphs_of a.coming.now) a.values.now c.widen.result
    c.widen.ensures (glyphs_of a.before.now) a.idx c.input.result c.input.ensures
