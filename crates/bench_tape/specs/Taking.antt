-- The code's side: a piece taken a part at a time, what is written of it, and the line that a tape leaves. What is kept of a line, and what is handed
-- to a write, is said whatever the write comes to. Where all is written and it is known what a writer holds, what it holds after is what it held
-- before and then the answers; else nothing is said of that.
use Rattle.std.specs.Prelude.{ℕ, ◌≤◌, ◌<◌, ◌≡◌, List, [], ◌++◌, Option, length, take, drop}
use Rattle.std.specs.Io.KnownBytes.{Appends}
use Rattle.tape_answer.specs.Feeding.{most_kept, line_left, answers_in}
use Rattle.tape_answer.specs.Tape.{tape_of}
use Rattle.bench_tape.specs.declared.Part.{Part}

-- bytes of a read, and of answers that are written at once
abbrev pub space : ℕ
space = 65536

-- What taking a part of a piece leaves, from a place on with a line so far. What is handed to a write, and after it the answers to the rest, are the
-- answers to all from that place on; and the rest leaves the line that all leaves.
pub record PartTaken (piece : List ℕ) (from : ℕ) (line : List ℕ) (p : Part) (line' out : List ℕ) : Type 0 where
  pub onward : from < p.at
  pub within : p.at ≤ length piece
  pub fits : length line' ≤ most_kept
  pub answers : take p.written out ++ answers_in line' (drop p.at piece) ≡ answers_in line (drop from piece)
  pub leaves : line_left line' (drop p.at piece) ≡ line_left line (drop from piece)

-- the whole piece: its answers are written, and it leaves the line that it leaves
pub record PieceTaken (piece line line' : List ℕ) (held held' : Option (List ℕ)) : Type 0 where
  pub writes : Appends held held' (answers_in line piece)
  pub leaves : line' ≡ line_left line piece

-- There is a tape that leaves this line. Which one was read no contract can say.
pub record LineOf (line : List ℕ) : Type 0 where
  pub input : List ℕ
  pub left : line ≡ line_left [] input

-- There is one, and its answers are written.
pub record Answered (line : List ℕ) (held held' : Option (List ℕ)) : Type 0 where
  pub input : List ℕ
  pub writes : Appends held held' (answers_in [] input)
  pub left : line ≡ line_left [] input

-- There is a tape whose answers are written, all of them.
pub record TapeOf (held held' : Option (List ℕ)) : Type 0 where
  pub input : List ℕ
  pub writes : Appends held held' (tape_of input)
