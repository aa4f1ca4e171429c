-- Demand 2 of the three calls, past refusals 1, 2, 3 and 6, in the paper's numbers and values (01, "Nailing an answer down"). Here is what an answer
-- is to be; that the calls' answers are so: Kept of `matching_calls`.
use Rattle.std.specs.Prelude.{ℕ, ◌+◌, ◌≡◌, Result, List, [], ◌∷◌, Bool, ◌↔◌, length, get_or}
use Rattle.glyph.specs.declared.Glyph.{Glyph}
use Rattle.glyph.specs.Glyph.{blank}
use Rattle.glyph.specs.Reply.{Reply, replies}
use Rattle.verdict.specs.Verdict.{Asked}
use Rattle.verdict.specs.declared.Verdict.{Verdict}
use Rattle.matching.specs.declared.Terms.{Terms}
use Rattle.matching.specs.declared.InputMatch.{InputMatch}
use Rattle.matching.specs.declared.NoContext.{NoContext}
use Rattle.matching.specs.Take.{Way, ahead, reached}
use Rattle.matching.specs.Matchers.{judge, joins, anywhere, input_matcher_of, context_matcher_of, searched_glyphs}
use Rattle.matching.specs.Answers.{total_of, matched_at, input_reply, context_reply}
use Rattle.matching.specs.Demand2.{Accepts, Loses, TurnsDown}

-- end, total, the number of positions and the positions, of which the cursor is the first
abbrev pub input_success : List Glyph → ℕ → List ℕ → Reply
input_success text idx places =
    replies 0 (reached (ahead (length text)) (idx + 1) places ∷ total_of text idx places ∷ length (idx ∷ places) ∷ idx ∷ places)

-- an answer of input matching, for a judge and the ligature rule
pub record InputPromise {X : Type 0} (text : List Glyph) (idx : ℕ) (values : List X) (v : X → ℕ → Verdict) (rule : ℕ → Bool)
    (answer : InputMatch) : Type 0 where
  pub accepted : (places : List ℕ) → (input_reply answer ≡ input_success text idx places) ↔ Accepts (ahead (length text)) v rule (idx + 1) values
      places
  pub no_others : (places others : List ℕ) → Accepts (ahead (length text)) v rule (idx + 1) values places
      → Accepts (ahead (length text)) v rule (idx + 1) values others → places ≡ others
  pub slots : (places : List ℕ) → Accepts (ahead (length text)) v rule (idx + 1) values places → answer ≡ matched_at text idx places
  pub refused4 : (extent : ℕ) → (input_reply answer ≡ replies 4 (extent ∷ [])) ↔ Loses (ahead (length text)) v rule (idx + 1) values extent
  pub refused5 : (input_reply answer ≡ replies 5 []) ↔ TurnsDown (ahead (length text)) v rule (idx + 1) values

-- places that are accepted, and where they lead
pub record Leads {X : Type 0} (way : Way) (v : X → ℕ → Verdict) (p : ℕ) (values : List X) (place : ℕ) : Type 0 where
  pub places : List ℕ
  pub accepts : Accepts way v anywhere p values places
  pub leads : reached way p places ≡ place

-- an answer of lookahead or backtrack matching from p on, which has no rule on places
pub record ContextPromise {X : Type 0} (way : Way) (p : ℕ) (values : List X) (v : X → ℕ → Verdict) (answer : Result ℕ NoContext) : Type 0 where
  pub accepted : (place : ℕ) → (context_reply answer ≡ replies 0 (place ∷ [])) ↔ Leads way v p values place
  pub no_others : (places others : List ℕ) → Accepts way v anywhere p values places → Accepts way v anywhere p values others → places ≡ others
  pub refused4 : (extent : ℕ) → (context_reply answer ≡ replies 4 (extent ∷ [])) ↔ Loses way v anywhere p values extent

-- ---- the judges and the rule of the three

abbrev pub input_judge : {X : Type 0} → Terms → List ℕ → (X → Asked) → List Glyph → ℕ → X → ℕ → Verdict
input_judge lookup sets test text idx = judge (input_matcher_of lookup) sets test (get_or text idx blank).syllable text

abbrev pub input_rule : Terms → List ℕ → List Glyph → List Glyph → ℕ → ℕ → Bool
input_rule lookup sets done text idx = joins (input_matcher_of lookup) sets (searched_glyphs lookup.settings.table done) text idx

-- over a row of glyphs, the starting syllable being the cursor's
abbrev pub context_judge : {X : Type 0} → Terms → List ℕ → (X → Asked) → List Glyph → ℕ → List Glyph → X → ℕ → Verdict
context_judge lookup sets test text idx row = judge (context_matcher_of lookup) sets test (get_or text idx blank).syllable row
