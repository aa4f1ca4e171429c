-- After k turns k words of the row are copied.
use Rattle.std.proofs.Common.{drop, length, ◌+◌, ◌≡◌, ◌≤◌}
use Rattle.std.proofs.Math.Seq.{paste}
use Rattle.glyph.proofs.copy.Given as goal

abbrev pub invariant-loop-k : goal.invariant-loop-k
invariant-loop-k l = (length l.to ≡ length l.initial.to) × (l.x + l.end ≤ length l.initial.to) × (l.y + l.end ≤ length l.from)
    × (l.to ≡ paste l.initial.to l.x (drop l.y l.from) l.k)
