-- Demands 1 and 3 of the run on structs (01, "When the desk says no", "Nailing an answer down"), in its own terms: of records a list of structs, of
-- which at most 16 are let pass.
-- Said of any answer and rows that meet the contract of `run_record_structs::run`.
use Rattle.std.specs.Prelude.{◌≡◌, List, [], ◌∷◌, ◌↔◌, ℕ, ◌+◌, ◌-◌, ◌*◌, ◌%◌, ◌≤◌, length}
use Rattle.std.proofs.Common.{inl, inr, ⊎_elim, arith}
use Rattle.glyph.specs.Glyph.{words, limit}
use Rattle.glyph.specs.Order.{Line, RefusedBy}
use Rattle.text.specs.declared.Place.{Place}
use Rattle.matching.specs.declared.InputMatch.{InputMatch}
use Rattle.book.specs.Book.{most_records}
use Rattle.run.specs.declared.Given.{Given}
use Rattle.run_calls.specs.Calls.{Handed}
use Rattle.run_calls.specs.Lines.{CursorInside, Limited, Legible, Usable}
use Rattle.run_calls.specs.Handed.{ShapedOf, run_lines, SameText, Left, RepliesAs, Called}
use Rattle.run_calls.specs.Demand1.{Demand1, demand_1}
use Rattle.run_calls.specs.Demand3.{Demand3, demand_3}
use Rattle.run_record_structs.specs.declared.Record.{Record}
use Rattle.run_record_structs.specs.Records.{record_words}
use Rattle.run_record_structs.specs.Laws.{words-length}

-- what the call is handed: all but the allowance and the depth
pub record StructsHanded : Type 0 where
  pub done : List ℕ
  pub coming : List ℕ
  pub place : Place
  pub sets : List ℕ
  pub book : List ℕ
  pub records : List Record
  pub match : InputMatch
  pub given : Given

-- the same with the records in words
abbrev pub in_words : StructsHanded → Handed
in_words h = record {
  done = h.done;
  coming = h.coming;
  place = h.place;
  sets = h.sets;
  book = h.book;
  records = record_words h.records;
  match = h.match;
  given = h.given;
}

-- line 1: as of a run on words, but that records are always pairs
pub record StructsShaped (h : StructsHanded) : Type 0 where
  pub done_long : length h.done ≡ words * limit
  pub coming_long : length h.coming ≡ words * limit
  pub d_inside : h.place.d ≤ limit
  pub text_inside : h.place.d + (limit - h.place.idx) ≤ limit
  pub sets_paired : length h.sets % 2 ≡ 0
  pub records_few : length h.records ≤ most_records

-- the numbers in 01's order, each with what its line lets pass
abbrev pub structs_lines : StructsHanded → ℕ → ℕ → List Line
structs_lines h allowance depth =
    record { number = 1; lets = StructsShaped h }
    ∷ record { number = 2; lets = CursorInside h.place }
    ∷ record { number = 12; lets = Limited allowance depth }
    ∷ record { number = 11; lets = Legible h.book }
    ∷ record { number = 7; lets = Usable h.place.idx h.match }
    ∷ []

pub record StructsDemand1 (h : StructsHanded) (allowance depth : ℕ) (l : Left) : Type 0 where
  -- by 1, 2, 12, 11 or 7: the number of the first line that refuses
  pub refused : (n : ℕ) → RepliesAs n [] l ↔ RefusedBy n (structs_lines h allowance depth)
  -- and all else as the run on the same pairs in words: nothing else is refused, when it is 8, 9 and 10, and every word of the rows
  pub as_words : Demand1 (in_words h) allowance depth l

-- ---- a call keeps them

shaped_same : (h : StructsHanded) → ShapedOf (in_words h) ↔ StructsShaped h
shaped_same h =
    let n = words-length h.records in (
      λ s. record {
        done_long = s.done_long;
        coming_long = s.coming_long;
        d_inside = s.d_inside;
        text_inside = s.text_inside;
        sets_paired = s.sets_paired;
        records_few = omega (arith, s.records_few);
      },
      λ s. record {
        done_long = s.done_long;
        coming_long = s.coming_long;
        d_inside = s.d_inside;
        text_inside = s.text_inside;
        sets_paired = s.sets_paired;
        records_paired = omega arith;
        records_few = omega (arith, s.records_few);
      },
    )

-- lines of which the first lets the same pass refuse alike
first_same : (n k : ℕ) {A B : Type 0} (ls : List Line) → A ↔ B
    → RefusedBy n (record { number = k; lets = A } ∷ ls) ↔ RefusedBy n (record { number = k; lets = B } ∷ ls)
first_same n k ls s = (
  ⊎_elim (λ r. inl (r.0, λ b. r.1 (s.1 b))) (λ r. inr (s.0 r.0, r.1)),
  ⊎_elim (λ r. inl (r.0, λ b. r.1 (s.0 b))) (λ r. inr (s.1 r.0, r.1)),
)

lines_same : (h : StructsHanded) (a d n : ℕ) → RefusedBy n (run_lines (in_words h) a d) ↔ RefusedBy n (structs_lines h a d)
lines_same h a d n = first_same n 1
    (record { number = 2; lets = CursorInside h.place }
    ∷ record { number = 12; lets = Limited a d }
    ∷ record { number = 11; lets = Legible h.book }
    ∷ record { number = 7; lets = Usable h.place.idx h.match }
    ∷ [])
    (shaped_same h)

pub structs_demand_1 : (h : StructsHanded) (a d : ℕ) (l : Left) → Called (in_words h) a d l → StructsDemand1 h a d l
structs_demand_1 h a d l c =
    let room = demand_1 (in_words h) a d l c in
    record {
      refused = λ n. (
        λ r. (lines_same h a d n).0 ((room.refused n).0 r),
        λ r. (room.refused n).1 ((lines_same h a d n).1 r),
      );
      as_words = room;
    }

-- for every two calls of the same text
pub structs_demand_3 : (h h' : StructsHanded) → SameText (in_words h) (in_words h') → Demand3 (in_words h) (in_words h')
structs_demand_3 h h' s = demand_3 (in_words h) (in_words h') s
