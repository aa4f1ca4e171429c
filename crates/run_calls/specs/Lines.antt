-- What each line of the run's refusals lets pass (01, "When the desk says no"): the line refuses where that isn't so. That a
-- call is refused by exactly the first line that refuses: Demand1.
use Rattle.std.specs.Prelude.{◌≡◌, List, ◌⊎◌, ℕ, suc, ◌+◌, ◌-◌, ◌*◌, ◌%◌, ◌≤◌, ◌<◌, Ok, length, get_or, take}
use Rattle.glyph.specs.Glyph.{words, limit}
use Rattle.text.specs.declared.Place.{Place}
use Rattle.matching.specs.declared.InputMatch.{InputMatch}
use Rattle.matching.specs.Take.{slots}
use Rattle.book.specs.Book.{Lookup, most_records}
use Rattle.book.specs.Encode.{encode_all, Legal}
use Rattle.run.specs.Run.{most_allowance, most_depth}

-- line 1: both rows have a run's length, d is in its row, the text is at most the limit; mark sets and records are pairs, at most 16 records
pub record RunShaped (done coming : List ℕ) (p : Place) (sets records : List ℕ) : Type 0 where
  pub done_long : length done ≡ words * limit
  pub coming_long : length coming ≡ words * limit
  pub d_inside : p.d ≤ limit
  pub text_inside : p.d + (limit - p.idx) ≤ limit
  pub sets_paired : length sets % 2 ≡ 0
  pub records_paired : length records % 2 ≡ 0
  pub records_few : length records ≤ 2 * most_records

-- line 2: the cursor is before the row's end
abbrev pub CursorInside : Place → Type 0
CursorInside p = p.idx < limit

-- line 12
abbrev pub Limited : ℕ → ℕ → Type 0
Limited allowance depth = (allowance ≤ most_allowance) × (depth ≤ most_depth)

-- line 12, where it refuses
abbrev pub Beyond : ℕ → ℕ → Type 0
Beyond allowance depth = (most_allowance < allowance) ⊎ (most_depth < depth)

-- line 11: the book is the words of lookups that keep the limits, with no word over
abbrev pub Legible : List ℕ → Type 0
Legible book = (ls : List Lookup) × ((book ≡ encode_all ls) × Legal ls)

-- the positions that a match counts
abbrev pub places_of : InputMatch → List ℕ
places_of m = take m.count m.positions

-- line 7: a success with 1 to 64 positions, the first the cursor, each after the one before it, all below an end that is at most the row's
pub record Usable (idx : ℕ) (m : InputMatch) : Type 0 where
  pub end : ℕ
  pub total : ℕ
  pub success : m.answer ≡ Ok (record { end = end; total = total })
  pub some : 1 ≤ m.count
  pub few : m.count ≤ slots
  pub first : get_or m.positions 0 0 ≡ idx
  pub rising : (i : ℕ) → suc i < length (places_of m) → get_or (places_of m) i 0 < get_or (places_of m) (suc i) 0
  pub below : (i : ℕ) → i < length (places_of m) → get_or (places_of m) i 0 < end
  pub within : end ≤ limit
