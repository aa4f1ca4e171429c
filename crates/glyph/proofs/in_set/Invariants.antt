use Rattle.std.proofs.Common.{drop, ◌*◌, ◌||◌, ◌≡◌}
use Rattle.glyph.specs.Sets.{in_set}
use Rattle.glyph.proofs.in_set.Given as goal

abbrev pub invariant-loop-k : goal.invariant-loop-k
invariant-loop-k l = in_set l.sets l.set l.id ≡ (l.hit || in_set (drop (2 * l.k) l.sets) l.set l.id)
