-- An answer written down, as bytes and as capital digits (01, "The bench tape").
use Rattle.std.specs.Prelude.{ℕ, ◌+◌, ◌*◌, List, [], ◌∷◌, ◌++◌, cond, eqb, get_or, drop}
use Rattle.glyph.specs.Reply.{Reply}
use Rattle.tape_frame.specs.Frame.{most_glyphs}
use Rattle.tape_frame.specs.Line.{digits_of, half}

-- the byte 0A, which ends a line
abbrev pub newline : ℕ
newline = 10

-- numbers of two bytes each
unfoldable pub halves : List ℕ → List ℕ
halves [] = []
halves (x ∷ rest) = half x ++ halves rest

-- 00, end 2, total 2, count 1, positions 2 each
abbrev pub matched_bytes : List ℕ → List ℕ
matched_bytes v = half (get_or v 0 0) ++ half (get_or v 1 0) ++ (get_or v 2 0 ∷ []) ++ halves (drop 3 v)

-- after 00 the values of a match; after 04 the extent, 2; after another number nothing
unfoldable pub answer_bytes : Reply → List ℕ
answer_bytes r = r.number ∷ cond (eqb r.number 0) (matched_bytes r.values) (halves r.values)

-- FF
abbrev pub no_frame : List ℕ
no_frame = 255 ∷ []

-- the longest answer: 00, end, total and count, a position for each record of a row, and 0A
abbrev pub most_answer : ℕ
most_answer = 13 + 4 * most_glyphs

-- in capitals, 0A after it
unfoldable pub with_newline : List ℕ → List ℕ
with_newline bytes = digits_of bytes ++ (newline ∷ [])
