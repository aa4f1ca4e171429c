-- Two bytes after each other. Assumes nothing.
use Rattle.std.proofs.Common.{[], arith, refl, ◌%◌, ◌+◌, ◌/◌, ◌∷◌}
use Rattle.tape_frame.specs.Line.{digits_of}
use Rattle.tape_frame.specs.Put.{put_then}
use Rattle.tape_answer.proofs.put_half.Goals as goal

pub returns : goal.returns
unfolding digits_of
returns c =
    let a = c.args in
    put_then a.out.now a.at (a.at + 2) (digits_of (a.x / 256 % 256 ∷ [])) (digits_of (a.x % 256 ∷ []))
    c.put_byte.ensures refl c.put_byte-2.ensures (omega arith)
