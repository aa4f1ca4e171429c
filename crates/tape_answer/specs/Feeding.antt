-- The code's side: the tape a byte at a time with only the first bytes of a line kept, as it is read in pieces. Pieces.antt shows that it is answered
-- as the whole tape is.
use Rattle.std.specs.Prelude.{ℕ, ◌+◌, ◌-◌, ◌≡◌, List, [], ◌∷◌, ◌++◌, cond, eqb, leb, ltb, length}
use Rattle.tape_frame.specs.Frame.{most_digits}
use Rattle.tape_frame.specs.Put.{Puts}
use Rattle.tape_answer.specs.Answer.{answer_line}
use Rattle.tape_answer.specs.Line.{newline, most_answer}

-- the bytes of a line that are kept, at most: one more than the longest frame has tells that a line is longer
abbrev pub most_kept : ℕ
most_kept = most_digits + 1

abbrev pub longer : List ℕ → ℕ → List ℕ
longer line b = cond (ltb (length line) most_kept) (line ++ (b ∷ [])) line

-- the line after a byte, and what is answered at it
unfoldable pub line_after : List ℕ → ℕ → List ℕ
line_after line b = cond (eqb b newline) [] (longer line b)

unfoldable pub answer_at : List ℕ → ℕ → List ℕ
answer_at line b = cond (eqb b newline) (answer_line line) []

-- the line after a piece, and what is answered in it
unfoldable pub line_left : List ℕ → List ℕ → List ℕ
line_left line [] = line
line_left line (b ∷ rest) = line_left (line_after line b) rest

unfoldable pub answers_in : List ℕ → List ℕ → List ℕ
answers_in line [] = []
answers_in line (b ∷ rest) = answer_at line b ++ answers_in (line_after line b) rest

-- the bytes of a piece that are taken: each, as long as the longest answer has room
unfoldable pub bytes_taken : ℕ → List ℕ → List ℕ → List ℕ
bytes_taken room line [] = []
bytes_taken room line (b ∷ rest) =
    let onward = bytes_taken (room - length (answer_at line b)) (line_after line b) rest in
    cond (leb most_answer room) (b ∷ onward) []

-- what code that takes these bytes leaves: how far it came, the line then, and their answers, stored from m on
pub record Feeds (bytes : List ℕ) (at : ℕ) (kept out : List ℕ) (m at' : ℕ) (kept' out' : List ℕ) (m' : ℕ) : Type 0 where
  pub came : at' ≡ at + length bytes
  pub line : kept' ≡ line_left kept bytes
  pub answers : Puts out m (answers_in kept bytes) out' m'
