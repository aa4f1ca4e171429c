-- The refusals of the three calls as 01's table has them ("When the desk says no"): the code's tests tell the lines 1, 2, 3 and 6, so a call is
-- refused by the first line that refuses, and let through exactly when each lets pass (Order). In the numbers of the calls' replies: Demand1.
use Rattle.std.specs.Prelude.{◌≡◌, ⊤, Result, Ok, Err, refl, Bool, true, false, cond, ◌||◌, List, [], ◌∷◌, ◌↔◌, ℕ, ◌≤◌, ◌<◌, eqb, leb, length}
use Rattle.std.proofs.Common.{sym, ap, ◌∙◌, arith}
use Rattle.std.proofs.Math.Option.{none, some, some-ne-none}
use Rattle.std.proofs.Math.Dec.{ltb}
use Rattle.glyph.specs.Glyph.{glyphs_of, ill_shaped}
use Rattle.glyph.specs.Laws.{well_shaped}
use Rattle.glyph.specs.Sets.{odd_sets}
use Rattle.glyph.specs.Order.{first_answer, RefusedBy, LetThrough, Tested, tests_of, lines_of, refused_exactly, through_exactly}
use Rattle.glyph.specs.Tests.{both, at_or_past, over, nothing, paired}
use Rattle.matching.specs.declared.Refusal.{Refusal}
use Rattle.matching.specs.declared.Refusal.TheVariants.{Shape, Cursor, Values, Start}
use Rattle.matching.specs.Take.{slots}
use Rattle.matching.specs.Answers.{refusal_number}
use Rattle.matching_calls.specs.Lines.{Shaped, input_lines, InputAcceptable, back_lines, BackAcceptable, ahead_lines, AheadAcceptable}
use Rattle.matching_refuse.specs.Fit.{bad_text, input_fit, ahead_fit, back_fit, fit_number}

module _ (done : List ℕ) (d : ℕ) (coming : List ℕ) (len : ℕ) (sets : List ℕ) where
  shaped : (bad_text done d coming len sets ≡ false) ↔ Shaped done d coming len sets
  unfolding bad_text
  shaped =
      let a = ill_shaped done in
      let b = ltb (length (glyphs_of done)) d in
      let c = ill_shaped coming in
      let e = ltb (length (glyphs_of coming)) len in
      let t₁ = both a b (well_shaped done) (over (length (glyphs_of done)) d) in
      let t₂ = both (a || b) c t₁ (well_shaped coming) in
      let t₃ = both ((a || b) || c) e t₂ (over (length (glyphs_of coming)) len) in
      let t = both (((a || b) || c) || e) (odd_sets sets) t₃ (paired sets) in (
        λ q. let h = t.0 q in record {
          done_whole = h.0.0.0.0.0;
          done_short = h.0.0.0.0.1;
          d_inside = h.0.0.0.1;
          coming_whole = h.0.0.1.0;
          coming_short = h.0.0.1.1;
          len_inside = h.0.1;
          sets_paired = h.1;
        },
        λ s. t.1 (((((s.done_whole, s.done_short), s.d_inside), (s.coming_whole, s.coming_short)), s.len_inside), s.sets_paired),
      )

-- ---- the tests, one after another

three : (a b c : Bool) → fit_number (cond a (Err Shape) (cond b (Err Cursor) (cond c (Err Values) (Ok tt))))
    ≡ cond a (some 1) (cond b (some 2) (cond c (some 3) none))
three true b c = refl
three false true c = refl
three false false true = refl
three false false false = refl

four : (a b c e : Bool)
    → fit_number (cond a (Err Shape) (cond b (Err Cursor) (cond c (Err Values) (cond e (Err Start) (Ok tt)))))
    ≡ cond a (some 1) (cond b (some 2) (cond c (some 3) (cond e (some 6) none)))
four true b c e = refl
four false true c e = refl
four false false true e = refl
four false false false true = refl
four false false false false = refl

-- a call that fits has no number
fits_by : (f : Result ⊤ Refusal) → (f ≡ Ok tt) ↔ (fit_number f ≡ none)
fits_by (Ok fits) = (λ e. refl, λ e. refl)
fits_by (Err why) = (λ e. ap fit_number e, λ e. absurd (some-ne-none (refusal_number why) e))

module _ (f : Result ⊤ Refusal) (ts : List Tested) (first : fit_number f ≡ first_answer (tests_of ts)) where
  refused_by_lem : (n : ℕ) → (fit_number f ≡ some n) ↔ RefusedBy n (lines_of ts)
  refused_by_lem n = let t = refused_exactly ts n in (λ e. t.0 (sym first ∙ e), λ r. first ∙ t.1 r)

  through_by : (f ≡ Ok tt) ↔ LetThrough (lines_of ts)
  through_by = let k = fits_by f in let t = through_exactly ts in (λ e. t.0 (sym first ∙ k.0 e), λ s. k.1 (first ∙ t.1 s))

-- ---- the three calls

module _ (done : List ℕ) (d : ℕ) (coming : List ℕ) (len idx : ℕ) (sets : List ℕ) (values : ℕ) where
  abbrev bad : Bool
  bad = bad_text done d coming len sets

  abbrev test_1 : Tested
  test_1 = record { test = bad; line = record { number = 1; lets = Shaped done d coming len sets }; tells = shaped done d coming len sets }

  abbrev test_2 : Tested
  test_2 = record { test = leb len idx; line = record { number = 2; lets = idx < len }; tells = at_or_past len idx }

  -- context: at most 64 values
  abbrev test_3 : Tested
  test_3 = record { test = ltb slots values; line = record { number = 3; lets = values ≤ 64 }; tells = over slots values }

  -- input: at most 63
  few : (leb slots values ≡ false) ↔ (values ≤ 63)
  few = let t = at_or_past slots values in (λ e. let h = t.0 e in omega arith, λ h. t.1 (omega arith))

  abbrev input_tests : List Tested
  input_tests = test_1 ∷ test_2 ∷ record { test = leb slots values; line = record { number = 3; lets = values ≤ 63 }; tells = few } ∷ []

  input_first : fit_number (input_fit done d coming len idx sets values) ≡ first_answer (tests_of input_tests)
  unfolding input_fit first_answer
  input_first = three bad (leb len idx) (leb slots values)

  pub input_refused : (n : ℕ) → (fit_number (input_fit done d coming len idx sets values) ≡ some n)
      ↔ RefusedBy n (input_lines done d coming len idx sets values)
  input_refused = refused_by_lem (input_fit done d coming len idx sets values) input_tests input_first

  pub input_fits : (input_fit done d coming len idx sets values ≡ Ok tt) ↔ InputAcceptable done d coming len idx sets values
  input_fits =
      let t = through_by (input_fit done d coming len idx sets values) input_tests input_first in (
        λ e. let h = t.0 e in record { shaped = h.0; inside = h.1.0; few = h.1.1.0 },
        λ a. t.1 (a.shaped, (a.inside, (a.few, tt))),
      )

  abbrev back_tests : List Tested
  back_tests = test_1 ∷ test_2 ∷ test_3 ∷ []

  back_first : fit_number (back_fit done d coming len idx sets values) ≡ first_answer (tests_of back_tests)
  unfolding back_fit first_answer
  back_first = three bad (leb len idx) (ltb slots values)

  pub back_refused : (n : ℕ) → (fit_number (back_fit done d coming len idx sets values) ≡ some n)
      ↔ RefusedBy n (back_lines done d coming len idx sets values)
  back_refused = refused_by_lem (back_fit done d coming len idx sets values) back_tests back_first

  pub back_fits : (back_fit done d coming len idx sets values ≡ Ok tt) ↔ BackAcceptable done d coming len idx sets values
  back_fits =
      let t = through_by (back_fit done d coming len idx sets values) back_tests back_first in (
        λ e. let h = t.0 e in record { shaped = h.0; inside = h.1.0; few = h.1.1.0 },
        λ a. t.1 (a.shaped, (a.inside, (a.few, tt))),
      )

  module _ (start : ℕ) where
    abbrev ahead_tests : List Tested
    ahead_tests =
        record {
          test = bad || ltb len start;
          line = record { number = 1; lets = Shaped done d coming len sets × (start ≤ len) };
          tells = both bad (ltb len start) (shaped done d coming len sets) (over len start);
        }
        ∷ test_2
        ∷ test_3
        ∷ record { test = eqb start 0; line = record { number = 6; lets = 1 ≤ start }; tells = nothing start }
        ∷ []

    ahead_first : fit_number (ahead_fit done d coming len idx start sets values) ≡ first_answer (tests_of ahead_tests)
    unfolding ahead_fit first_answer
    ahead_first = four (bad || ltb len start) (leb len idx) (ltb slots values) (eqb start 0)

    pub ahead_refused : (n : ℕ)
        → (fit_number (ahead_fit done d coming len idx start sets values) ≡ some n)
        ↔ RefusedBy n (ahead_lines done d coming len idx sets values start)
    ahead_refused = refused_by_lem (ahead_fit done d coming len idx start sets values) ahead_tests ahead_first

    pub ahead_fits : (ahead_fit done d coming len idx start sets values ≡ Ok tt) ↔ AheadAcceptable done d coming len idx sets values start
    ahead_fits =
        let t = through_by (ahead_fit done d coming len idx start sets values) ahead_tests ahead_first in (
          λ e. let h = t.0 e in record { shaped = h.0.0; start_inside = h.0.1; inside = h.1.0; few = h.1.1.0; begun = h.1.1.1.0 },
          λ a. t.1 ((a.shaped, a.start_inside), (a.inside, (a.few, (a.begun, tt)))),
        )
