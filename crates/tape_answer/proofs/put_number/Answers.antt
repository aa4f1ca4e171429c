-- A byte, and the line's end after it. Assumes nothing.
use Rattle.std.proofs.Common.{[], arith, refl, ◌+◌, ◌∷◌}
use Rattle.tape_frame.specs.Line.{digits_of}
use Rattle.tape_answer.specs.Line.{newline, with_newline}
use Rattle.tape_frame.specs.Put.{put_then}
use Rattle.tape_answer.proofs.put_number.Goals as goal

pub returns : goal.returns
unfolding digits_of with_newline
returns c =
    let a = c.args in
    record {
      stored =
          put_then a.out.now a.at (a.at + 2) (digits_of (a.x ∷ [])) (newline ∷ [])
          c.put_byte.ensures refl c.put_newline.ensures.stored (omega arith);
      ends = omega (arith, c.put_newline.ensures.ends);
    }
