use Rattle.std.proofs.Common.{drop, length, ◌+◌, ◌≡◌, ◌≤◌}
use Rattle.glyph.specs.Glyph.{glyphs_of}
use Rattle.verdict.specs.Verdict.{value_by}
use Rattle.matching.specs.Take.{ahead}
use Rattle.matching.specs.Matchers.{judge}
use Rattle.matching.specs.Going.{told}
use Rattle.matching_context.proofs.lookahead.Given as goal

abbrev pub invariant-loop-value : goal.invariant-loop-value
invariant-loop-value l =
    (l.next ≤ l.len)
    × (told (ahead (length (glyphs_of l.text))) (judge l.matcher l.sets (value_by l.test l.lists) l.syllable (glyphs_of l.text)) l.start l.values
    ≡ told (ahead (length (glyphs_of l.text))) (judge l.matcher l.sets (value_by l.test l.lists) l.syllable (glyphs_of l.text))
    (l.start + l.next) (drop l.value-index l.values))
