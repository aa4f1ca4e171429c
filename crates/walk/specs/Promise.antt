-- What a walk promises, in 01's numbers (01, "Port order", 4, and "When the desk says no", lines 1 and 4): refused by 1 exactly when its row isn't
-- whole glyphs or is over the limit, len is past its row, the place is past len (backward: past its row), or mark sets are odd; else found, or 4 with
-- its extent, each exactly when Means says so.
use Rattle.std.specs.Prelude.{ℕ, ◌+◌, ◌%◌, ◌≤◌, ◌≡◌, List, [], ◌∷◌, ◌↔◌, ◌⊎◌, length, Result}
use Rattle.glyph.specs.declared.IllShaped.{IllShaped}
use Rattle.glyph.specs.Glyph.{limit, Row, glyphs_of}
use Rattle.glyph.specs.Reply.{replies}
use Rattle.glyph.specs.Order.{Line, RefusedBy}
use Rattle.verdict.specs.declared.Matcher.{Matcher}
use Rattle.verdict.specs.declared.Verdict.{Verdict}
use Rattle.verdict.specs.Verdict.{Asked, judge_at}
use Rattle.walk.specs.declared.Walked.{Walked}
use Rattle.walk.specs.Calls.{walk_reply}
use Rattle.walk.specs.Means.{Finds, Stops, RunsOut, FindsBack, StopsBack, RunsOutBack}

-- what line 1 lets pass
pub record Walkable (row : List ℕ) (len place : ℕ) (sets : List ℕ) : Type 0 where
  pub row_whole : Row (length (glyphs_of row)) row
  pub row_short : length (glyphs_of row) ≤ limit
  pub len_inside : len ≤ length (glyphs_of row)
  pub place_inside : place ≤ len
  pub sets_paired : length sets % 2 ≡ 0

-- a walk's one line
abbrev pub walk_lines : List ℕ → ℕ → ℕ → List ℕ → List Line
walk_lines row len place sets = record { number = 1; lets = Walkable row len place sets } ∷ []

module _ (row : List ℕ) where
  abbrev pub row_judge : Matcher → Asked → ℕ → List ℕ → ℕ → Verdict
  row_judge m asked syllable sets = judge_at m asked syllable sets (glyphs_of row)

  -- forward from a place: the next glyph tested is one later
  pub record ForwardPromise (len place : ℕ) (m : Matcher) (asked : Asked) (syllable : ℕ) (sets : List ℕ)
      (answer : Result Walked IllShaped) : Type 0 where
    pub refused : (n : ℕ) → (walk_reply answer ≡ replies n []) ↔ RefusedBy n (walk_lines row len place sets)
    pub found_0 : (q : ℕ) → (walk_reply answer ≡ replies 0 (q ∷ []))
        ↔ (Walkable row len place sets × Finds (row_judge m asked syllable sets) len (place + 1) q)
    pub lost_4 : (extent : ℕ) → (walk_reply answer ≡ replies 4 (extent ∷ []))
        ↔ (Walkable row len place sets
        × (Stops (row_judge m asked syllable sets) len (place + 1) extent ⊎ RunsOut (row_judge m asked syllable sets) len (place + 1) extent))

  -- backward: every glyph of the row counts
  pub record BackwardPromise (place : ℕ) (m : Matcher) (asked : Asked) (syllable : ℕ) (sets : List ℕ)
      (answer : Result Walked IllShaped) : Type 0 where
    pub refused : (n : ℕ) → (walk_reply answer ≡ replies n []) ↔ RefusedBy n (walk_lines row (length (glyphs_of row)) place sets)
    pub found_0 : (q : ℕ) → (walk_reply answer ≡ replies 0 (q ∷ []))
        ↔ (Walkable row (length (glyphs_of row)) place sets × FindsBack (row_judge m asked syllable sets) place q)
    pub lost_4 : (extent : ℕ) → (walk_reply answer ≡ replies 4 (extent ∷ []))
        ↔ (Walkable row (length (glyphs_of row)) place sets
        × (StopsBack (row_judge m asked syllable sets) place extent ⊎ RunsOutBack (row_judge m asked syllable sets) place extent))
