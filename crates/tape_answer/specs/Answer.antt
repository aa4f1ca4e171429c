-- The answer to a line: FF for no frame, else what input matching says of the frame's text with no mark sets (01, "The bench tape").
use Rattle.std.specs.Prelude.{ℕ, List, [], length}
use Rattle.glyph.specs.Glyph.{glyphs_of}
use Rattle.verdict.specs.declared.Test.{Test}
use Rattle.verdict.specs.Verdict.{value_by}
use Rattle.matching.specs.declared.Terms.{Terms}
use Rattle.matching.specs.declared.InputMatch.{InputMatch}
use Rattle.matching.specs.Answers.{input_reply}
use Rattle.matching_calls.specs.Calls.{input_of}
use Rattle.tape_frame.specs.Frame.{Frame, LineRead, a_frame, not_frame, frame_of}
use Rattle.tape_answer.specs.Line.{answer_bytes, no_frame, with_newline}

abbrev pub frame_terms : Frame → Terms
frame_terms f = record { settings = f.settings; mask = f.mask; props = f.props }

-- every record of both rows counts, and a value matches an equal id
unfoldable pub frame_match : Frame → InputMatch
frame_match f =
    input_of f.done (length (glyphs_of f.done)) f.coming (length (glyphs_of f.coming)) f.cursor (frame_terms f) [] (value_by Test.Equal [])
    f.values

abbrev pub answer_to : LineRead → List ℕ
answer_to (a_frame f) = answer_bytes (input_reply (frame_match f))
answer_to not_frame = no_frame

-- with its 0A, to a line without
unfoldable pub answer_line : List ℕ → List ℕ
answer_line line = with_newline (answer_to (frame_of line))
