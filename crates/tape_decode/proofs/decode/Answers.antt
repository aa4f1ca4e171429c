-- A line over the limit is none, and so is one that spells nothing; else the bytes that it spells are read. Assumes nothing.
use Rattle.std.proofs.Common.{Bool, ap, arith, cond, length, replicate, take, ◌/◌, ◌≡◌}
use Rattle.tape_frame.specs.Put.{front_put}
use Rattle.tape_frame.specs.DigitLaws.{length_bytes}
use Rattle.tape_frame.specs.Digits.{bytes_of}
use Rattle.tape_frame.specs.Frame.{most_bytes, not_frame, read_bytes, frame_of}
use Rattle.tape_frame.specs.FrameLaws.{long_none}
use Rattle.tape_frame.specs.DecodingLaws.{decodes_none}
use Rattle.tape_decode.proofs.decode.Goals as goal

pub returns-then-line-gt-MOST_DIGITS : goal.returns-then-line-gt-MOST_DIGITS
returns-then-line-gt-MOST_DIGITS c = let line = c.args.line.now in
    decodes_none (frame_of line) c.args.lists.now (long_none line (omega arith))

pub returns-in_err-unhex : goal.returns-in_err-unhex
unfolding frame_of
returns-in_err-unhex c =
    let line = c.args.line.now in
    rw c.from_residual.ensures
    (decodes_none (frame_of line) c.args.lists.now
    (ap (λ (t : Bool). cond t (read_bytes (bytes_of line)) not_frame) c.in_err-unhex.ensures))

pub returns : goal.returns
unfolding frame_of
returns c =
    let line = c.args.line.now in
    let spelled = c.in_ok-unhex.ensures in
    let got : take (length line / 2) c.unhex.new.out ≡ bytes_of line =
    rw spelled.1 (front_put (replicate most_bytes 0) (bytes_of line) (length line / 2) (length_bytes line)
    (omega (arith, length_bytes line))) in
    rw (spelled.0, ← got) c.read_bytes.ensures
