-- What the lines of the three calls' refusals let pass (01, "When the desk says no"), in their order: a line refuses where that isn't so. That
-- a call is refused by exactly the first line that refuses: Demand1. What a call that isn't refused promises: Kept.
use Rattle.std.specs.Prelude.{ℕ, ◌%◌, ◌≤◌, ◌<◌, ◌≡◌, List, [], ◌∷◌, length}
use Rattle.glyph.specs.Glyph.{limit, Row, glyphs_of}
use Rattle.glyph.specs.Order.{Line}

-- line 1: both rows are whole glyphs, at most the limit, d and len are in their rows, and mark sets are pairs
pub record Shaped (done : List ℕ) (d : ℕ) (coming : List ℕ) (len : ℕ) (sets : List ℕ) : Type 0 where
  pub done_whole : Row (length (glyphs_of done)) done
  pub done_short : length (glyphs_of done) ≤ limit
  pub d_inside : d ≤ length (glyphs_of done)
  pub coming_whole : Row (length (glyphs_of coming)) coming
  pub coming_short : length (glyphs_of coming) ≤ limit
  pub len_inside : len ≤ length (glyphs_of coming)
  pub sets_paired : length sets % 2 ≡ 0

-- each call's lines in 01's order, and what is so where each lets pass
module _ (done : List ℕ) (d : ℕ) (coming : List ℕ) (len idx : ℕ) (sets : List ℕ) (values : ℕ) where
  -- input: at most 63 values
  abbrev pub input_lines : List Line
  input_lines =
      record { number = 1; lets = Shaped done d coming len sets }
      ∷ record { number = 2; lets = idx < len }
      ∷ record { number = 3; lets = values ≤ 63 }
      ∷ []

  pub record InputAcceptable : Type 0 where
    pub shaped : Shaped done d coming len sets
    pub inside : idx < len
    pub few : values ≤ 63

  -- backtrack: at most 64
  abbrev pub back_lines : List Line
  back_lines =
      record { number = 1; lets = Shaped done d coming len sets }
      ∷ record { number = 2; lets = idx < len }
      ∷ record { number = 3; lets = values ≤ 64 }
      ∷ []

  pub record BackAcceptable : Type 0 where
    pub shaped : Shaped done d coming len sets
    pub inside : idx < len
    pub few : values ≤ 64

  -- lookahead: a start past len is 1 too, and a start of 0 is 6, also with no values
  module _ (start : ℕ) where
    abbrev pub ahead_lines : List Line
    ahead_lines =
        record { number = 1; lets = Shaped done d coming len sets × (start ≤ len) }
        ∷ record { number = 2; lets = idx < len }
        ∷ record { number = 3; lets = values ≤ 64 }
        ∷ record { number = 6; lets = 1 ≤ start }
        ∷ []

    pub record AheadAcceptable : Type 0 where
      pub shaped : Shaped done d coming len sets
      pub start_inside : start ≤ len
      pub inside : idx < len
      pub few : values ≤ 64
      pub begun : 1 ≤ start
