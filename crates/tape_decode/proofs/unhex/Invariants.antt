use Rattle.std.proofs.Common.{drop, ◌*◌, ◌≡◌}
use Rattle.tape_frame.specs.Digits.{spells, bytes_of}
use Rattle.tape_frame.specs.Put.{put}
use Rattle.tape_decode.proofs.unhex.Given as goal

abbrev pub invariant-loop-i : goal.invariant-loop-i
invariant-loop-i l = (spells (drop (2 * l.i) l.line) ≡ spells l.line)
    × (put l.out l.i (bytes_of (drop (2 * l.i) l.line)) ≡ put l.initial.out 0 (bytes_of l.line))
