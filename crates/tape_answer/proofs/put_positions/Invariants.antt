use Rattle.std.proofs.Common.{drop, ◌*◌, ◌+◌, ◌≡◌}
use Rattle.tape_frame.specs.Line.{digits_of}
use Rattle.tape_answer.specs.Line.{halves}
use Rattle.tape_frame.specs.Put.{put}
use Rattle.tape_answer.proofs.put_positions.Given as goal

abbrev pub invariant-loop-i : goal.invariant-loop-i
invariant-loop-i l = put l.out (l.at + 4 * l.i) (digits_of (halves (drop l.i l.positions)))
    ≡ put l.initial.out l.at (digits_of (halves l.positions))
