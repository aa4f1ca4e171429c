-- A line that is decoded keeps the limits of a frame. Assumes nothing.
use Rattle.tape_frame.specs.DecodingLaws.{frame_told, told_bounded}
use Rattle.tape_frame.specs.Frame.{frame_of}
use Rattle.explain.proofs.tell_line.Goals as goal

pub tell_frame-requires : goal.tell_frame-requires
tell_frame-requires c = let frame = c.args.frame.now in let h = c.in-Some.h in
    told_bounded frame h (frame_told (frame_of frame) h c.in-Some.ensures.answers)
