-- What a run is refused for before it begins, its book aside (01, "When the desk says no"). All in their order: run_calls/Calls.
use Rattle.std.specs.Prelude.{⊤, Result, Ok, Err}
use Rattle.std.specs.Prelude.{Bool, true, cond, not, ◌&&◌, ◌||◌, List, [], ◌∷◌, ℕ, ◌+◌, ◌*◌, ◌%◌, eqb, leb, ltb, length, get_or, take}
use Rattle.glyph.specs.Glyph.{limit}
use Rattle.glyph.specs.Sets.{odd_sets}
use Rattle.text.specs.declared.Place.{Place}
use Rattle.text.specs.Text.{unfit, past_end}
use Rattle.matching.specs.declared.Success.{Success}
use Rattle.matching.specs.declared.NoMatch.{NoMatch}
use Rattle.matching.specs.declared.InputMatch.{InputMatch}
use Rattle.matching.specs.Take.{slots}
use Rattle.book.specs.Book.{most_records}
use Rattle.run.specs.Run.{most_allowance, most_depth}
use Rattle.run.specs.declared.RunRefusal.{RunRefusal}
use Rattle.run.specs.declared.RunRefusal.TheVariants.{Shape, Cursor, Limits, Match}

-- records that aren't pairs, or over 16 of them
abbrev pub bad_records : List ℕ → Bool
bad_records records = not (eqb (length records % 2) 0) || ltb (2 * most_records) (length records)

-- 1: rows, place, mark sets, records. 2: the cursor. 12: allowance and depth
unfoldable pub checked_first : List ℕ → List ℕ → Place → List ℕ → List ℕ → ℕ → ℕ → Result ⊤ RunRefusal
checked_first done coming p sets records allowance depth =
    cond (unfit done coming p || (odd_sets sets || bad_records records)) (Err Shape)
    (cond (past_end p) (Err Cursor)
    (cond (ltb most_allowance allowance || ltb most_depth depth) (Err Limits) (Ok tt)))

-- places from `low` on, each after the one before it, all below the end
unfoldable pub rises_to : ℕ → ℕ → List ℕ → Bool
rises_to low end [] = true
rises_to low end (p ∷ ps) = leb low p && (ltb p end && rises_to (p + 1) end ps)

-- a position, at most 64, an end in the row, the first the cursor, rising and below the end
abbrev pub good_places : ℕ → ℕ → ℕ → List ℕ → Bool
good_places idx end count places =
    not (eqb count 0) && (leb count slots && (leb end limit && (eqb (get_or places 0 0) idx && rises_to idx end (take count places))))

abbrev pub checked_places : ℕ → Result Success NoMatch → ℕ → List ℕ → Result ⊤ RunRefusal
checked_places idx (Ok s) count places = cond (good_places idx s.end count places) (Ok tt) (Err Match)
checked_places idx (Err why) count places = Err Match

-- 7: the match handed in; slots past its count aren't looked at
abbrev pub checked_match : ℕ → InputMatch → Result ⊤ RunRefusal
checked_match idx m = checked_places idx m.answer m.count m.positions
