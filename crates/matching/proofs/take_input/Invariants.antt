use Rattle.std.proofs.Common.{get_or}
use Rattle.glyph.specs.Glyph.{glyphs_of, blank}
use Rattle.verdict.specs.Verdict.{value_by}
use Rattle.ligature.specs.Ligature.{base_skips}
use Rattle.ligature.specs.Laws.{Known}
use Rattle.matching.specs.Matchers.{judge, joins}
use Rattle.matching.specs.Going.{Going}
use Rattle.matching.proofs.take_input.Given as goal

abbrev pub invariant-loop-i : goal.invariant-loop-i
invariant-loop-i l = Going (glyphs_of l.text) (judge l.m l.sets (value_by l.test l.lists) (get_or (glyphs_of l.text) l.idx blank).syllable
    (glyphs_of l.text))
    (joins l.m l.sets (glyphs_of l.searched) (glyphs_of l.text) l.idx) l.idx l.values l.positions l.total l.next l.i
    × Known l.base (base_skips l.m l.sets l.first.lig (glyphs_of l.searched))
