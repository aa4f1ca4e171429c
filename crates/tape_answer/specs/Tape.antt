-- The whole tape (01, "The bench tape"): its lines, of which the last may lack its 0A, and an answer to each.
use Rattle.std.specs.Prelude.{ℕ, List, [], ◌∷◌, ◌++◌, cond, eqb}
use Rattle.tape_answer.specs.Answer.{answer_line}
use Rattle.tape_answer.specs.Line.{newline}

-- no line, no answer
abbrev pub last_answer : List ℕ → List ℕ
last_answer [] = []
last_answer (b ∷ rest) = answer_line (b ∷ rest)

-- the answers to what is still to come, where `line` is the line so far
unfoldable pub answers_from : List ℕ → List ℕ → List ℕ
answers_from line [] = last_answer line
answers_from line (b ∷ rest) =
    let ended = answer_line line ++ answers_from [] rest in
    let longer = answers_from (line ++ (b ∷ [])) rest in
    cond (eqb b newline) ended longer

abbrev pub tape_of : List ℕ → List ℕ
tape_of input = answers_from [] input
