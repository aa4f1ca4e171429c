-- Examples of our own beside the cards: lookahead, backtrack and the ligature rule on small texts, in the numbers and values of their replies.
-- Those of runs, from RunExamples.antt, end the list.
use Rattle.std.specs.Prelude.{false, List, [], ◌∷◌, ℕ, length}
use Rattle.glyph.specs.declared.Glyph.{Glyph}
use Rattle.glyph.specs.Reply.{Reply}
use Rattle.glyph.specs.Signs.{glyph}
use Rattle.verdict.specs.declared.Table.{Table}
use Rattle.verdict.specs.declared.Table.TheVariants.{Gsub, Gpos}
use Rattle.verdict.specs.Verdict.{equal_to}
use Rattle.matching.specs.declared.Terms.{Terms}
use Rattle.matching.specs.Take.{ahead, behind}
use Rattle.matching.specs.Matchers.{input_on, ahead_on, back_on}
use Rattle.matching.specs.Answers.{input_told, context_told, input_reply, context_reply}
use Rattle.cards.specs.Card.{Card}
use Rattle.cards.specs.RunExamples.{run_examples}

abbrev lookup : Table → ℕ → Terms
lookup table props = record { settings = record { table = table; zwnj = false; zwj = false; syllables = false }; mask = 1; props = props }

abbrev spelled : Reply → List (List ℕ)
spelled r = (r.number ∷ []) ∷ r.values ∷ []

abbrev letter : ℕ → Glyph
letter id = glyph id 0 0 0 0 1

-- a mark attached to a component of a ligature, and the ligature
abbrev mark : ℕ → ℕ → ℕ → Glyph
mark id lig comp = glyph id 0 8 lig comp 1

abbrev ligature : ℕ → Glyph
ligature lig = glyph 40 0 4 lig 0 3

abbrev lookahead : List Glyph → ℕ → List ℕ → List (List ℕ)
lookahead text start values = spelled
    (context_reply (context_told (ahead (length text)) start (ahead_on (lookup Gsub 0) [] equal_to text start 0 values)))

abbrev backtrack : List Glyph → List ℕ → List (List ℕ)
backtrack row values = spelled (context_reply (context_told behind (length row) (back_on (lookup Gsub 0) [] equal_to row 0 values)))

-- the glyph at the cursor and then one with the id 8, after `done`, by a lookup that ignores ligatures
abbrev answers_after : Table → List Glyph → Glyph → Glyph → List (List ℕ)
answers_after table done first second =
    let text = first ∷ second ∷ [] in
    spelled (input_reply (input_told text 0 (input_on (lookup table 4) [] equal_to done text 0 (8 ∷ []))))

-- marks 7 and then 8, of these components of ligature 1
abbrev joined : Table → List Glyph → ℕ → ℕ → List (List ℕ)
joined table done first second = answers_after table done (mark 7 1 first) (mark 8 1 second)

abbrev says : ℕ → List ℕ → List (List ℕ)
says number values = (number ∷ []) ∷ values ∷ []

abbrev three : List Glyph
three = letter 1 ∷ letter 2 ∷ letter 3 ∷ []

abbrev both : List (List ℕ)
both = says 0 (2 ∷ 2 ∷ 2 ∷ 0 ∷ 1 ∷ [])

abbrev pub examples : List Card
examples =
    -- lookahead: the last place and one more; the start with no values; stopped at p: p + 1; nothing left: the length
    record { given = lookahead three 1 (2 ∷ 3 ∷ []); wanted = says 0 (3 ∷ []) } ∷
    record { given = lookahead three 1 []; wanted = says 0 (1 ∷ []) } ∷
    record { given = lookahead three 1 (2 ∷ 9 ∷ []); wanted = says 4 (3 ∷ []) } ∷
    record { given = lookahead three 3 (2 ∷ []); wanted = says 4 (3 ∷ []) } ∷
    -- backtrack: the last place; the row's length with no values; stopped at p: max(p,1) - 1; nothing left: 0
    record { given = backtrack three (3 ∷ 2 ∷ []); wanted = says 0 (1 ∷ []) } ∷
    record { given = backtrack three []; wanted = says 0 (3 ∷ []) } ∷
    record { given = backtrack three (2 ∷ []); wanted = says 4 (1 ∷ []) } ∷
    record { given = backtrack three (3 ∷ 2 ∷ 1 ∷ 0 ∷ []); wanted = says 4 (0 ∷ []) } ∷
    -- marks of one component match together, of two only past an ignored base
    record { given = joined Gsub [] 1 1; wanted = both } ∷
    record { given = joined Gsub [] 1 2; wanted = says 5 [] } ∷
    record { given = joined Gsub (ligature 1 ∷ []) 1 2; wanted = both } ∷
    record { given = joined Gsub (ligature 1 ∷ mark 6 1 1 ∷ []) 1 2; wanted = both } ∷
    record { given = joined Gsub (ligature 1 ∷ letter 6 ∷ []) 1 2; wanted = says 5 [] } ∷
    record { given = joined Gpos (ligature 1 ∷ []) 1 2; wanted = says 5 [] } ∷
    -- after a first glyph that isn't attached, an attached one only with the first's id; with component 0, or no id, any
    record { given = answers_after Gsub [] (letter 7) (mark 8 1 2); wanted = says 5 [] } ∷
    record { given = answers_after Gsub [] (mark 7 1 0) (mark 8 1 2); wanted = both } ∷
    record { given = answers_after Gsub [] (mark 7 1 0) (mark 8 2 1); wanted = says 5 [] } ∷
    record { given = answers_after Gsub [] (letter 7) (mark 8 1 0); wanted = both } ∷
    record { given = answers_after Gsub [] (mark 7 1 0) (mark 8 0 2); wanted = both } ∷
    run_examples
