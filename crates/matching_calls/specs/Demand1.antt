-- Demand 1 of the three calls, in 01's numbers (01, "When the desk says no"): refused by 1, 2, 3 or 6 exactly when that line refuses and no line
-- before it does, and nothing else is refused: what no line refuses is matched, or lost by 4, or by 5 (which of these, and when: Promises). No slot
-- is filled but by a match.
use Rattle.std.specs.Prelude.{ℕ, ⊤, Result, Ok, Err, ◌≡◌, refl, List, [], ◌↔◌, ◌⊎◌, Bool, true, false, ◌&&◌, ◌||◌, eqb, leb, length, get_or}
use Rattle.std.proofs.Common.{sym, ap, inl, inr, ⊎_elim, true≢false}
use mathlib.Core.Logic.Iff
use Rattle.std.proofs.Math.Option.{some, some_inj, none-ne-some}
use Rattle.std.proofs.Math.ListN.{take}
use Rattle.glyph.specs.declared.Glyph.{Glyph}
use Rattle.glyph.specs.Glyph.{glyphs_of, blank}
use Rattle.glyph.specs.Order.{Line, RefusedBy}
use Rattle.verdict.specs.Verdict.{Asked}
use Rattle.matching.specs.declared.Terms.{Terms}
use Rattle.matching.specs.declared.Refusal.{Refusal}
use Rattle.matching.specs.declared.Refusal.TheVariants.{Shape, Cursor, Values, Start}
use Rattle.matching.specs.declared.InputMatch.{InputMatch}
use Rattle.matching.specs.declared.NoContext.{NoContext}
use Rattle.matching.specs.Take.{Way, ahead, behind, Outcome, taken, lost, unlike}
use Rattle.matching.specs.Matchers.{input_on, ahead_on, back_on, backward_glyphs}
use Rattle.matching.specs.Answers.{slotted, input_told, context_told, refusal_number, input_reply, context_reply}
use Rattle.matching_refuse.specs.Fit.{input_fit, ahead_fit, back_fit, fit_number}
use Rattle.matching_calls.specs.Calls.{input_unless, context_unless, input_of, ahead_of, back_of}
use Rattle.glyph.specs.Reply.{replies, number_in, has_values, apart_by}
use Rattle.matching_calls.specs.Lines.{input_lines, InputAcceptable, ahead_lines, AheadAcceptable, back_lines, BackAcceptable}
use Rattle.matching_calls.specs.Table as table

-- ---- what is said

-- input: by 1, 2 or 3, the number of the first line that refuses. A reply of 5 has no values either; when it comes is said by InputPromise
pub record InputRefusals (done : List ℕ) (d : ℕ) (coming : List ℕ) (len idx : ℕ) (sets : List ℕ) (values : ℕ) (answer : InputMatch) : Type 0 where
  pub refused : (n : ℕ) → (n ≡ 5 → ⊥) → (input_reply answer ≡ replies n []) ↔ RefusedBy n (input_lines done d coming len idx sets values)
  pub let_through : InputAcceptable done d coming len idx sets values
      ↔ (((input_reply answer).number ≡ 0) ⊎ (((input_reply answer).number ≡ 4) ⊎ ((input_reply answer).number ≡ 5)))
  pub empty : ((input_reply answer).number ≡ 0 → ⊥) → (answer.count ≡ 0) × (answer.positions ≡ slotted [])

-- lookahead and backtrack, each by its own lines: 1, 2, 3 and, of lookahead, 6
pub record ContextRefusals (lines : List Line) (Acceptable : Type 0) (answer : Result ℕ NoContext) : Type 0 where
  pub refused : (n : ℕ) → (context_reply answer ≡ replies n []) ↔ RefusedBy n lines
  pub let_through : Acceptable ↔ (((context_reply answer).number ≡ 0) ⊎ ((context_reply answer).number ≡ 4))

abbrev pub AheadRefusals : List ℕ → ℕ → List ℕ → ℕ → ℕ → ℕ → List ℕ → ℕ → Result ℕ NoContext → Type 0
AheadRefusals done d coming len idx start sets values answer =
    ContextRefusals (ahead_lines done d coming len idx sets values start) (AheadAcceptable done d coming len idx sets values start) answer

abbrev pub BackRefusals : List ℕ → ℕ → List ℕ → ℕ → ℕ → List ℕ → ℕ → Result ℕ NoContext → Type 0
BackRefusals done d coming len idx sets values answer =
    ContextRefusals (back_lines done d coming len idx sets values) (BackAcceptable done d coming len idx sets values) answer

-- ---- numbers tell apart

abbrev is_refusal : ℕ → Bool
is_refusal n = (leb 1 n && leb n 3) || eqb n 6

refuses : (why : Refusal) → is_refusal (refusal_number why) ≡ true
refuses Shape = refl
refuses Cursor = refl
refuses Values = refl
refuses Start = refl

-- a number that is no refusal's
apart : (why : Refusal) (n : ℕ) → is_refusal n ≡ false → refusal_number why ≡ n → ⊥
apart why n f e = apart_by is_refusal (refusal_number why) n (refuses why) f e

not_fits : (w : Refusal) → ◌≡◌ {A = Result ⊤ Refusal} (Err w) (Ok tt) → ⊥
not_fits w e = let z : ◌≡◌ {A = Bool} true false = cc in true≢false z

-- ---- input, by what the tests said and what came of the match

module _ (text : List Glyph) (idx : ℕ) where
  abbrev input : Result ⊤ Refusal → Outcome → InputMatch
  input fit o = input_unless fit (input_told text idx o)

  input_tells : (fit : Result ⊤ Refusal) (o : Outcome) (n : ℕ) → (n ≡ 5 → ⊥) → (input_reply (input fit o) ≡ replies n []) ↔ (fit_number fit ≡ some n)
  input_tells (Err w) o n not5 = (λ e. ap some (ap number_in e), λ e. ap (λ (k : ℕ). replies k []) (some_inj.0 e))
  input_tells (Ok fits) (taken places) n not5 = (λ e. absurd (has_values e), λ e. absurd (none-ne-some n e))
  input_tells (Ok fits) (lost extent) n not5 = (λ e. absurd (has_values e), λ e. absurd (none-ne-some n e))
  input_tells (Ok fits) unlike n not5 = (λ e. absurd (not5 (sym (ap number_in e))), λ e. absurd (none-ne-some n e))

  input_numbers : (fit : Result ⊤ Refusal) (o : Outcome)
      → (fit ≡ Ok tt) ↔ (((input_reply (input fit o)).number ≡ 0)
      ⊎ (((input_reply (input fit o)).number ≡ 4) ⊎ ((input_reply (input fit o)).number ≡ 5)))
  input_numbers (Err w) o = (
    λ e. absurd (not_fits w e),
    ⊎_elim (λ e. absurd (apart w 0 refl e)) (⊎_elim (λ e. absurd (apart w 4 refl e)) (λ e. absurd (apart w 5 refl e))),
  )
  input_numbers (Ok fits) (taken places) = (λ e. inl refl, λ s. refl)
  input_numbers (Ok fits) (lost extent) = (λ e. inr (inl refl), λ s. refl)
  input_numbers (Ok fits) unlike = (λ e. inr (inr refl), λ s. refl)

  input_empty : (fit : Result ⊤ Refusal) (o : Outcome) → ((input_reply (input fit o)).number ≡ 0 → ⊥)
      → ((input fit o).count ≡ 0) × ((input fit o).positions ≡ slotted [])
  input_empty (Err w) o n = (refl, refl)
  input_empty (Ok fits) (taken places) n = absurd (n refl)
  input_empty (Ok fits) (lost extent) n = (refl, refl)
  input_empty (Ok fits) unlike n = (refl, refl)

-- ---- context

module _ (way : Way) (p : ℕ) where
  abbrev context : Result ⊤ Refusal → Outcome → Result ℕ NoContext
  context fit o = context_unless fit (context_told way p o)

  context_tells : (fit : Result ⊤ Refusal) (o : Outcome) (n : ℕ) → (context_reply (context fit o) ≡ replies n []) ↔ (fit_number fit ≡ some n)
  context_tells (Err w) o n = (λ e. ap some (ap number_in e), λ e. ap (λ (k : ℕ). replies k []) (some_inj.0 e))
  context_tells (Ok fits) (taken places) n = (λ e. absurd (has_values e), λ e. absurd (none-ne-some n e))
  context_tells (Ok fits) (lost extent) n = (λ e. absurd (has_values e), λ e. absurd (none-ne-some n e))
  context_tells (Ok fits) unlike n = (λ e. absurd (has_values e), λ e. absurd (none-ne-some n e))

  context_numbers : (fit : Result ⊤ Refusal) (o : Outcome) → (fit ≡ Ok tt)
      ↔ (((context_reply (context fit o)).number ≡ 0) ⊎ ((context_reply (context fit o)).number ≡ 4))
  context_numbers (Err w) o = (λ e. absurd (not_fits w e), ⊎_elim (λ e. absurd (apart w 0 refl e)) (λ e. absurd (apart w 4 refl e)))
  context_numbers (Ok fits) (taken places) = (λ e. inl refl, λ s. refl)
  context_numbers (Ok fits) (lost extent) = (λ e. inr refl, λ s. refl)
  context_numbers (Ok fits) unlike = (λ e. inr refl, λ s. refl)

-- ---- the calls keep it

module _ {X : Type 0} (done : List ℕ) (d : ℕ) (coming : List ℕ) (len idx : ℕ) (lookup : Terms) (sets : List ℕ) (test : X → Asked)
    (values : List X) where
  abbrev n : ℕ
  n = length values

  pub input_demand_1 : InputRefusals done d coming len idx sets (length values) (input_of done d coming len idx lookup sets test values)
  unfolding input_of
  input_demand_1 =
      let text = take len (glyphs_of coming) in
      let fit = input_fit done d coming len idx sets n in
      let o = input_on lookup sets test (take d (glyphs_of done)) text idx values in
      record {
        refused = λ k not5. Iff.trans (input_tells text idx fit o k not5) (table.input_refused done d coming len idx sets n k);
        let_through = Iff.trans (Iff.symm (table.input_fits done d coming len idx sets n)) (input_numbers text idx fit o);
        empty = input_empty text idx fit o;
      }

  pub ahead_demand_1 : (start : ℕ) → AheadRefusals done d coming len idx start sets (length values)
      (ahead_of done d coming len idx start lookup sets test values)
  unfolding ahead_of
  ahead_demand_1 start =
      let text = take len (glyphs_of coming) in
      let way = ahead (length text) in
      let fit = ahead_fit done d coming len idx start sets n in
      let o = ahead_on lookup sets test text start (get_or text idx blank).syllable values in
      record {
        refused = λ k. Iff.trans (context_tells way start fit o k) (table.ahead_refused done d coming len idx sets n start k);
        let_through = Iff.trans (Iff.symm (table.ahead_fits done d coming len idx sets n start)) (context_numbers way start fit o);
      }

  pub back_demand_1 : BackRefusals done d coming len idx sets (length values) (back_of done d coming len idx lookup sets test values)
  unfolding back_of
  back_demand_1 =
      let text = take len (glyphs_of coming) in
      let row = backward_glyphs lookup.settings.table (take d (glyphs_of done)) (take idx text) in
      let fit = back_fit done d coming len idx sets n in
      let o = back_on lookup sets test row (get_or text idx blank).syllable values in
      record {
        refused = λ k. Iff.trans (context_tells behind (length row) fit o k) (table.back_refused done d coming len idx sets n k);
        let_through = Iff.trans (Iff.symm (table.back_fits done d coming len idx sets n)) (context_numbers behind (length row) fit o);
      }
