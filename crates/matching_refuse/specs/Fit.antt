-- What the three calls on rows of words are refused for: by 1, 2, 3 or 6 in this order (01, "When the desk says no").
use Rattle.std.specs.Prelude.{ℕ, ⊤, Result, Ok, Err, List, Bool, cond, ◌||◌, eqb, ltb, leb, length}
use Rattle.std.proofs.Math.Option.{Option, none, some}
use Rattle.glyph.specs.Glyph.{glyphs_of, ill_shaped}
use Rattle.glyph.specs.Sets.{odd_sets}
use Rattle.matching.specs.declared.Refusal.{Refusal}
use Rattle.matching.specs.declared.Refusal.TheVariants.{Shape, Cursor, Values, Start}
use Rattle.matching.specs.Take.{slots}
use Rattle.matching.specs.Answers.{refusal_number}

-- 1: a row not whole glyphs or over the limit, d or len past its row, odd mark sets
unfoldable pub bad_text : List ℕ → ℕ → List ℕ → ℕ → List ℕ → Bool
bad_text done d coming len sets =
    (((ill_shaped done || ltb (length (glyphs_of done)) d) || ill_shaped coming) || ltb (length (glyphs_of coming)) len) || odd_sets sets

-- 1 comes before 2: a cursor at or past len
abbrev pub on_text : Bool → ℕ → ℕ → Result ⊤ Refusal → Result ⊤ Refusal
on_text bad len idx rest = cond bad (Err Shape) (cond (leb len idx) (Err Cursor) rest)

-- 3: over 63 input or 64 context values
abbrev pub many_input : ℕ → Bool
many_input values = leb slots values

abbrev pub many_context : ℕ → Bool
many_context values = ltb slots values

unfoldable pub input_fit : List ℕ → ℕ → List ℕ → ℕ → ℕ → List ℕ → ℕ → Result ⊤ Refusal
input_fit done d coming len idx sets values =
    on_text (bad_text done d coming len sets) len idx (cond (many_input values) (Err Values) (Ok tt))

unfoldable pub back_fit : List ℕ → ℕ → List ℕ → ℕ → ℕ → List ℕ → ℕ → Result ⊤ Refusal
back_fit done d coming len idx sets values =
    on_text (bad_text done d coming len sets) len idx (cond (many_context values) (Err Values) (Ok tt))

-- a start past len is 1 too, and a start 0 is 6, also with no values
unfoldable pub ahead_fit : List ℕ → ℕ → List ℕ → ℕ → ℕ → ℕ → List ℕ → ℕ → Result ⊤ Refusal
ahead_fit done d coming len idx start sets values =
    on_text (bad_text done d coming len sets || ltb len start) len idx
    (cond (many_context values) (Err Values) (cond (eqb start 0) (Err Start) (Ok tt)))

-- the number of a refusal
abbrev pub fit_number : Result ⊤ Refusal → Option ℕ
fit_number (Ok fits) = none
fit_number (Err why) = some (refusal_number why)
