-- The number, the extent and the line's end after each other. Assumes nothing.
use Rattle.std.proofs.Common.{[], arith, refl, ◌+◌, ◌∷◌}
use Rattle.tape_frame.specs.Line.{digits_of, half}
use Rattle.tape_answer.specs.Line.{newline, with_newline}
use Rattle.tape_frame.specs.Put.{put_then}
use Rattle.tape_answer.proofs.put_extent.Goals as goal

pub returns : goal.returns
unfolding digits_of with_newline
returns c =
    let a = c.args in
    let two =
    put_then a.out.now a.at (a.at + 2) (digits_of (4 ∷ [])) (digits_of (half a.extent))
    c.put_byte.ensures refl c.put_half.ensures (omega arith) in
    record {
      stored =
          put_then a.out.now a.at (a.at + 6) (digits_of (4 ∷ half a.extent)) (newline ∷ [])
          two refl c.put_newline.ensures.stored (omega arith);
      ends = omega (arith, c.put_newline.ensures.ends);
    }
