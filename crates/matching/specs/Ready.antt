-- The code's side: what input matching is handed once a call isn't refused, and the backward row of any d and idx.
use Rattle.std.specs.Prelude.{ℕ, ◌≤◌, ◌<◌, List, [], cond, ltb, length, take}
use Rattle.glyph.specs.declared.Glyph.{Glyph}
use Rattle.glyph.specs.Glyph.{limit}
use Rattle.verdict.specs.declared.Table.{Table}
use Rattle.matching.specs.Take.{slots}
use Rattle.matching.specs.Matchers.{backward_glyphs}

abbrev pub InputReady : List Glyph → ℕ → List ℕ → Type 0
InputReady coming idx values = (idx < length coming) × (length coming ≤ limit) × (length values < slots)

-- the first k glyphs; none where there are fewer
abbrev pub first_or_none : ℕ → List Glyph → List Glyph
first_or_none k gs = cond (ltb (length gs) k) [] (take k gs)

abbrev pub backward_row : Table → List Glyph → ℕ → List Glyph → ℕ → List Glyph
backward_row table done d coming idx = backward_glyphs table (first_or_none d done) (first_or_none idx coming)
