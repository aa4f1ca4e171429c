use Rattle.std.proofs.Common.{◌*◌, ◌+◌, ◌-◌, ◌≡◌}
use Rattle.tape_frame.specs.Frame.{words_at}
use Rattle.tape_frame.specs.Put.{put}
use Rattle.tape_frame.proofs.fill.Given as goal

abbrev pub invariant-loop-i : goal.invariant-loop-i
invariant-loop-i l = put l.out l.i (words_at (l.n - l.i) (l.at + 4 * l.i) l.b) ≡ put l.initial.out 0 (words_at l.n l.at l.b)
