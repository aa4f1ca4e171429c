-- The three calls on rows of words: refused by 1, 2, 3 or 6 in this order, else what the matcher says of the glyphs (01, "When the desk says no").
use Rattle.std.specs.Prelude.{ℕ, ⊤, Result, Ok, Err, List, length, get_or, take}
use Rattle.glyph.specs.Glyph.{glyphs_of, blank}
use Rattle.verdict.specs.Verdict.{Asked}
use Rattle.matching.specs.declared.Terms.{Terms}
use Rattle.matching.specs.declared.Refusal.{Refusal}
use Rattle.matching.specs.declared.NoMatch.{NoMatch}
use Rattle.matching.specs.declared.InputMatch.{InputMatch}
use Rattle.matching.specs.declared.NoContext.{NoContext}
use Rattle.matching.specs.Take.{ahead, behind}
use Rattle.matching.specs.Matchers.{input_on, ahead_on, back_on, backward_glyphs}
use Rattle.matching.specs.Answers.{without, input_told, context_told}
use Rattle.matching_refuse.specs.Fit.{input_fit, ahead_fit, back_fit}

abbrev pub input_unless : Result ⊤ Refusal → InputMatch → InputMatch
input_unless (Ok fits) m = m
input_unless (Err why) m = without (NoMatch.Refused why)

abbrev pub context_unless : Result ⊤ Refusal → Result ℕ NoContext → Result ℕ NoContext
context_unless (Ok fits) m = m
context_unless (Err why) m = Err (NoContext.Refused why)

-- ---- the calls; `done` counts with its first d glyphs, `coming` with its first len

unfoldable pub input_of : {X : Type 0} → List ℕ → ℕ → List ℕ → ℕ → ℕ → Terms → List ℕ → (X → Asked) → List X → InputMatch
input_of done d coming len idx lookup sets test values =
    let text = take len (glyphs_of coming) in
    input_unless (input_fit done d coming len idx sets (length values))
    (input_told text idx (input_on lookup sets test (take d (glyphs_of done)) text idx values))

unfoldable pub ahead_of : {X : Type 0} → List ℕ → ℕ → List ℕ → ℕ → ℕ → ℕ → Terms → List ℕ → (X → Asked) → List X → Result ℕ NoContext
ahead_of done d coming len idx start lookup sets test values =
    let text = take len (glyphs_of coming) in
    context_unless (ahead_fit done d coming len idx start sets (length values))
    (context_told (ahead (length text)) start (ahead_on lookup sets test text start (get_or text idx blank).syllable values))

unfoldable pub back_of : {X : Type 0} → List ℕ → ℕ → List ℕ → ℕ → ℕ → Terms → List ℕ → (X → Asked) → List X → Result ℕ NoContext
back_of done d coming len idx lookup sets test values =
    let text = take len (glyphs_of coming) in
    let row = backward_glyphs lookup.settings.table (take d (glyphs_of done)) (take idx text) in
    context_unless (back_fit done d coming len idx sets (length values))
    (context_told behind (length row) (back_on lookup sets test row (get_or text idx blank).syllable values))
