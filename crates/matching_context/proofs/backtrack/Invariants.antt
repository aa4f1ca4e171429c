use Rattle.std.proofs.Common.{drop, length, ◌≡◌, ◌≤◌}
use Rattle.glyph.specs.Glyph.{glyphs_of}
use Rattle.verdict.specs.Verdict.{value_by}
use Rattle.matching.specs.Take.{behind}
use Rattle.matching.specs.Matchers.{judge}
use Rattle.matching.specs.Going.{told}
use Rattle.matching_context.proofs.backtrack.Given as goal

abbrev pub invariant-loop-value : goal.invariant-loop-value
invariant-loop-value l = (l.place ≤ length (glyphs_of l.row))
    × (told behind (judge l.m l.sets (value_by l.test l.lists) l.syllable (glyphs_of l.row)) (length (glyphs_of l.row)) l.values
    ≡ told behind (judge l.m l.sets (value_by l.test l.lists) l.syllable (glyphs_of l.row)) l.place (drop l.value-index l.values))
