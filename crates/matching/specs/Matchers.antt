-- The three matchers over a text of glyphs: what stands before it, the glyphs that come, and the cursor among them
-- (01, "A glyph in four words" and port order 5). Each is `takes` with its judge, its rule and its way.
use Rattle.std.specs.Prelude.{ℕ, ◌+◌, List, [], Bool, true, false, length, get_or}
use Rattle.glyph.specs.declared.Glyph.{Glyph}
use Rattle.glyph.specs.Glyph.{blank}
use Rattle.verdict.specs.declared.Matcher.{Matcher}
use Rattle.verdict.specs.declared.Table.{Table}
use Rattle.verdict.specs.declared.Table.TheVariants.{Gsub, Gpos}
use Rattle.verdict.specs.declared.Verdict.{Verdict}
use Rattle.verdict.specs.Matcher.{matcher_of}
use Rattle.verdict.specs.Verdict.{Asked, judge_at}
use Rattle.matching.specs.declared.Terms.{Terms}
use Rattle.ligature.specs.Ligature.{may_join, base_skips}
use Rattle.matching.specs.Take.{Outcome, ahead, behind, takes}

-- the verdict on a value and a place; values are of any kind, and the test says what each asks of a glyph
abbrev pub judge : {X : Type 0} → Matcher → List ℕ → (X → Asked) → ℕ → List Glyph → X → ℕ → Verdict
judge m sets test syllable gs x = judge_at m (test x) syllable sets gs

-- the ligature rule on a place, from the cursor
abbrev pub joins : Matcher → List ℕ → List Glyph → List Glyph → ℕ → ℕ → Bool
joins m sets searched coming idx q =
    let first = get_or coming idx blank in
    may_join first (get_or coming q blank) (base_skips m sets first.lig searched)

-- no rule on places
abbrev pub anywhere : ℕ → Bool
anywhere q = true

-- input with a matcher; the starting syllable is the cursor glyph's, which is never tested
unfoldable pub input_by : {X : Type 0} → Matcher → List ℕ → (X → Asked) → List Glyph → List Glyph → ℕ → List X → Outcome
input_by m sets test searched coming idx values =
    takes (ahead (length coming)) (judge m sets test (get_or coming idx blank).syllable coming) (joins m sets searched coming idx) (idx + 1) values

-- the search for a base goes back over `done`, under GPOS over nothing
abbrev pub searched_glyphs : Table → List Glyph → List Glyph
searched_glyphs Gsub done = done
searched_glyphs Gpos done = []

abbrev pub input_matcher_of : Terms → Matcher
input_matcher_of lookup = matcher_of lookup.settings false lookup.mask lookup.props

abbrev pub context_matcher_of : Terms → Matcher
context_matcher_of lookup = matcher_of lookup.settings true lookup.mask lookup.props

-- ---- the three

unfoldable pub input_on : {X : Type 0} → Terms → List ℕ → (X → Asked) → List Glyph → List Glyph → ℕ → List X → Outcome
input_on lookup sets test done coming idx values =
    input_by (input_matcher_of lookup) sets test (searched_glyphs lookup.settings.table done) coming idx values

-- from a start, the nearest value first; the starting syllable is handed in
unfoldable pub ahead_on : {X : Type 0} → Terms → List ℕ → (X → Asked) → List Glyph → ℕ → ℕ → List X → Outcome
ahead_on lookup sets test coming start syllable values =
    takes (ahead (length coming)) (judge (context_matcher_of lookup) sets test syllable coming) anywhere start values

-- from the end of the backward row; the first value is for the glyph nearest the cursor (OpenType, chapter GSUB, types 5 and 6)
unfoldable pub back_on : {X : Type 0} → Terms → List ℕ → (X → Asked) → List Glyph → ℕ → List X → Outcome
back_on lookup sets test row syllable values =
    takes behind (judge (context_matcher_of lookup) sets test syllable row) anywhere (length row) values

-- ---- the backward row: `done` for GSUB and, for GPOS, what of `coming` is before the cursor

-- what comes before the text, or before the cursor in it
abbrev pub backward_glyphs : Table → List Glyph → List Glyph → List Glyph
backward_glyphs Gsub done before = done
backward_glyphs Gpos done before = before
