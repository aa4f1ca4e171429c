-- The code's side: answers by their cases, and how they are put together.
use Rattle.std.specs.Prelude.{ℕ, ◌+◌, Result, Ok, Err, List}
use Rattle.matching.specs.declared.Success.{Success}
use Rattle.matching.specs.declared.NoMatch.{NoMatch}
use Rattle.matching.specs.declared.InputMatch.{InputMatch}

-- how many positions an answer has: the cursor and one for each value
abbrev pub count_of : Result Success NoMatch → ℕ → ℕ
count_of (Ok s) n = n + 1
count_of (Err why) n = 0

-- an answer to n values, beside the slots
abbrev pub made_of : Result Success NoMatch → ℕ → List ℕ → InputMatch
made_of answer n positions = record { answer = answer; count = count_of answer n; positions = positions }
