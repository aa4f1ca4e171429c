-- No values are always there; else the slots that the matcher is handed are the values. Assumes nothing.
use Rattle.std.proofs.Common.{sym, ◌∙◌, eqb-true}
use Rattle.glyph.specs.Glyph.{glyphs_of}
use Rattle.verdict.specs.Verdict.{value_by}
use Rattle.run_chain_match.specs.Laws.{back_told, no_back}
use Rattle.run_chain_match.proofs.Search.is_behind.Goals as goal

pub returns-then-is_empty : goal.returns-then-is_empty
returns-then-is_empty c = let a = c.args in
    no_back a.self.terms a.self.sets.now (value_by a.test a.self.book.now) (glyphs_of a.before.now) a.syllable a.values.now
    (eqb-true _ _ (sym c.is_empty.ensures ∙ c.if-is_empty.true))

pub returns : goal.returns
returns c =
    let a = c.args in
    back_told a.self.terms a.self.sets.now (value_by a.test a.self.book.now) (glyphs_of a.before.now) a.values.now c.widen.result
    c.widen.ensures a.syllable c.backtrack.result c.is_ok.result c.backtrack.ensures
    c.is_ok.ensures.value
