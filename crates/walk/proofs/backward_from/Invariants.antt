use Rattle.std.proofs.Common.{◌+◌, ◌<◌, ◌≡◌}
use Rattle.glyph.specs.Glyph.{glyphs_of}
use Rattle.verdict.specs.Verdict.{value_of, judge_at}
use Rattle.walk.specs.Walk.{walk_back}
use Rattle.walk.proofs.backward_from.Given as goal

abbrev pub invariant-loop-m : goal.invariant-loop-m
invariant-loop-m l = (l.p < l.place) × (walk_back (judge_at l.m (value_of l.sign l.lists) l.syllable l.sets (glyphs_of l.row)) l.place
    ≡ walk_back (judge_at l.m (value_of l.sign l.lists) l.syllable l.sets (glyphs_of l.row)) (l.p + 1))

abbrev pub decreases-loop-m : goal.decreases-loop-m
decreases-loop-m l = l.p
