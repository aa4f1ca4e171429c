use Rattle.std.proofs.Common.{length, take, ◌+◌, ◌<◌, ◌≡◌, ◌≤◌, ◌⊎◌}
use Rattle.tape_answer.specs.Line.{most_answer}
use Rattle.tape_answer.specs.Feeding.{most_kept}
use Rattle.tape_answer.specs.TapeLaws.{FeedsOn}
use Rattle.tape_feed.proofs.feed.Given as goal

abbrev pub invariant-loop-at : goal.invariant-loop-at
invariant-loop-at l = (l.held ≤ most_kept)
    × (length l.kept ≡ most_kept)
    × (l.written ≤ length l.out)
    × FeedsOn l.piece l.from (take l.n l.initial.kept) l.initial.out l.m l.at (take l.held l.kept) l.out l.written
    × ((l.from < l.at) ⊎ (l.written + most_answer ≤ length l.out))
