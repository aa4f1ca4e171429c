-- Parts of rows that have them: the first n glyphs, and the backward row. Assumes nothing.
use Rattle.std.proofs.Common.{List, ap, arith, length, length-take-le, take, ℕ, ◌<◌, ◌∙◌, ◌≡◌, ◌≤◌}
use borrow.Author.Tests.{le-ltb}
use Rattle.glyph.specs.declared.Glyph.{Glyph}
use Rattle.glyph.specs.Glyph.{glyphs_of}
use Rattle.verdict.specs.declared.Table.{Table}
use Rattle.matching.specs.Matchers.{backward_glyphs}
use Rattle.matching.specs.Ready.{InputReady, backward_row}
use Rattle.matching_calls.specs.Lines.{InputAcceptable}
use Rattle.matching_calls.specs.Table.{ahead_fits, back_fits}

module _ (gs text : List Glyph) (n k : ℕ) (part : text ≡ take n gs) (inside : n ≤ length gs) where
  pub part_place : k < n → k < length text
  part_place h = omega (arith, ap length part, length-take-le n gs inside)

  pub part_end : k ≤ n → k ≤ length text
  part_end h = omega (arith, ap length part, length-take-le n gs inside)

pub input_ready : (done : List ℕ) (d : ℕ) (coming : List ℕ) (len idx : ℕ) (sets values : List ℕ) (text : List Glyph)
    → text ≡ take len (glyphs_of coming) → InputAcceptable done d coming len idx sets (length values) → InputReady text idx values
input_ready done d coming len idx sets values text part a =
    let whole : length text ≡ len = ap length part ∙ length-take-le len (glyphs_of coming) a.shaped.len_inside in
    (omega (arith, whole, a.inside), omega (arith, whole, a.shaped.len_inside, a.shaped.coming_short), omega (arith, a.few))

pub backward_inside : (table : Table) (done coming : List Glyph) (d idx : ℕ) → d ≤ length done → idx ≤ length coming
    → backward_row table done d coming idx ≡ backward_glyphs table (take d done) (take idx coming)
backward_inside table done coming d idx h k = rw (le-ltb (length done) d h, le-ltb (length coming) idx k)

-- what the proofs of the two contexts' calls go by
pub ruleset ahead_laws = (ahead_fits, part_place, part_end)

pub ruleset back_laws = (back_fits, part_place, backward_inside)
