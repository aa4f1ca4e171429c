-- The code's side: what input matching says of a frame that is handed on as a head and its lists.
use Rattle.std.specs.Prelude.{ℕ, List, []}
use Rattle.verdict.specs.declared.Test.{Test}
use Rattle.verdict.specs.Verdict.{value_by}
use Rattle.matching.specs.declared.InputMatch.{InputMatch}
use Rattle.matching_calls.specs.Calls.{input_of}
use Rattle.tape_frame.specs.declared.Head.{Head}

-- `frameMatch`, of a frame's numbers and its lists
unfoldable pub asked : Head → List ℕ → List ℕ → List ℕ → InputMatch
asked h values done coming =
    input_of done h.done coming h.coming h.cursor
    (record { settings = h.settings; mask = h.mask; props = h.props }) [] (value_by Test.Equal []) values
