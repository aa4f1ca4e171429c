use Rattle.std.proofs.Common.{OnOk, drop, length, ◌-◌, ◌≡◌, ◌≤◌}
use Rattle.tape_answer.specs.Feeding.{line_left}
use Rattle.bench_tape.specs.TakingLaws.{TakenSo}
use Rattle.bench_tape.proofs.take_piece.Given as goal

abbrev pub invariant-loop-at : goal.invariant-loop-at
invariant-loop-at g l = (l.at ≤ length l.piece)
    × (line_left l.kept (drop l.at l.piece) ≡ line_left l.initial.kept l.piece)
    × OnOk l.sent (TakenSo l.piece l.initial.kept l.at l.kept (g.W.Write.contents l.initial.stdout) (g.W.Write.contents l.stdout))

abbrev pub decreases-loop-at : goal.decreases-loop-at
decreases-loop-at g l = length l.piece - l.at
