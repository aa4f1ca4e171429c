-- A call of a run, and what it leaves: what demands 1 and 3 are said of.
use Rattle.std.specs.Prelude.{◌≡◌, List, [], ◌∷◌, ◌⊎◌, ℕ, Result, Ok, length}
use Rattle.glyph.specs.Lossless.{Small}
use Rattle.glyph.specs.Order.{Line}
use Rattle.text.specs.declared.Place.{Place}
use Rattle.text.specs.Text.{Text, text_of}
use Rattle.book.specs.Encode.{Narrow}
use Rattle.run.specs.declared.RunRefusal.{RunRefusal}
use Rattle.run_calls.specs.declared.RunAnswer.{RunAnswer}
use Rattle.glyph.specs.Reply.{replies}
use Rattle.run_calls.specs.Calls.{Handed, Said, answer_place, run_reply}
use Rattle.run_calls.specs.Lines.{RunShaped, CursorInside, Limited, Legible, places_of, Usable}

-- ---- the lines of the refusals, of what is handed in

abbrev pub ShapedOf : Handed → Type 0
ShapedOf h = RunShaped h.done h.coming h.place h.sets h.records

-- the numbers in 01's order, each with what its line lets pass
abbrev pub run_lines : Handed → ℕ → ℕ → List Line
run_lines h allowance depth =
    record { number = 1; lets = ShapedOf h }
    ∷ record { number = 2; lets = CursorInside h.place }
    ∷ record { number = 12; lets = Limited allowance depth }
    ∷ record { number = 11; lets = Legible h.book }
    ∷ record { number = 7; lets = Usable h.place.idx h.match }
    ∷ []

-- each lets pass
pub record Acceptable (h : Handed) (allowance depth : ℕ) : Type 0 where
  pub shaped : ShapedOf h
  pub inside : CursorInside h.place
  pub limited : Limited allowance depth
  pub legible : Legible h.book
  pub usable : Usable h.place.idx h.match

-- ---- calls

-- two calls of the same text: its glyphs and its cursor; and the match's positions and end, and all else that a run looks at. Cells in neither part
-- may differ, and so may a match's total and its slots past the count
pub record SameText (h h' : Handed) : Type 0 where
  pub text : text_of h.done h.coming h.place ≡ text_of h'.done h'.coming h'.place
  pub done_long : length h.done ≡ length h'.done
  pub coming_long : length h.coming ≡ length h'.coming
  pub count : h.match.count ≡ h'.match.count
  pub positions : places_of h.match ≡ places_of h'.match
  pub end : (n total : ℕ) → h.match.answer ≡ Ok (record { end = n; total = total })
      → (total' : ℕ) × (h'.match.answer ≡ Ok (record { end = n; total = total' }))
  pub sets : h.sets ≡ h'.sets
  pub book : h.book ≡ h'.book
  pub records : h.records ≡ h'.records
  pub given : h.given ≡ h'.given

-- what a call leaves: its answer, and both rows afterwards
pub record Left : Type 0 where
  pub answer : Result RunAnswer RunRefusal
  pub done : List ℕ
  pub coming : List ℕ

-- where it left the rows parted, and the text that it left in them
abbrev pub place_left : Left → Place
place_left l = answer_place l.answer

abbrev pub text_after : Left → Text
text_after l = text_of l.done l.coming (place_left l)

abbrev pub left_number : Left → ℕ
left_number l = (run_reply l.answer).number

-- the number of a run that ended: Finished, Short, Deep or Full
abbrev pub Ends : ℕ → Type 0
Ends n = (n ≡ 0) ⊎ ((n ≡ 8) ⊎ ((n ≡ 9) ⊎ (n ≡ 10)))

abbrev pub RepliesAs : ℕ → List ℕ → Left → Type 0
RepliesAs number values l = run_reply l.answer ≡ replies number values

-- a call: what the contract says of it; and, which is no contract's to say but what their types hold, that the words of the rows afterwards have 32
-- bits and those of the book 16. Without it two rows that differ could be the same glyphs
pub record Called (h : Handed) (allowance depth : ℕ) (l : Left) : Type 0 where
  pub said : Said h allowance depth l.done l.coming l.answer
  pub done_words : Small l.done
  pub coming_words : Small l.coming
  pub book_words : Narrow h.book
