-- The calls keep demand 2: what no line of 01's table refuses is answered as the promises say. The reply of an outcome tells the outcome.
use Rattle.std.specs.Prelude.{ℕ, ◌+◌, ◌-◌, ◌≡◌, List, [], ◌∷◌, Bool, ◌↔◌, length, take, replicate}
use Rattle.std.proofs.Math.Path.{refl}
use Rattle.std.proofs.Common.{sym, ap, ◌∙◌, arith, take_at}
use Rattle.glyph.specs.declared.Glyph.{Glyph}
use Rattle.glyph.specs.Glyph.{glyphs_of}
use Rattle.glyph.specs.Reply.{Reply}
use Rattle.verdict.specs.Verdict.{Asked}
use Rattle.verdict.specs.declared.Verdict.{Verdict}
use Rattle.matching.specs.declared.Terms.{Terms}
use Rattle.matching.specs.Take.{slots, Way, ahead, behind, Outcome, taken, lost, unlike, takes, reached}
use Rattle.matching.specs.Matchers.{judge, anywhere, context_matcher_of, input_by, input_on, ahead_on, back_on, backward_glyphs}
use Rattle.matching.specs.Answers.{slotted, total_of, input_told, context_told, input_reply, context_reply}
use Rattle.matching.specs.Demand2.{Loses}
use Rattle.matching.specs.Demand2Laws.{demand_2, never_turned}
use Rattle.glyph.specs.Reply.{replies}
use Rattle.matching.specs.Promises.{input_success, InputPromise, Leads, ContextPromise, input_judge, input_rule, context_judge}
use Rattle.matching_calls.specs.Calls.{input_of, ahead_of, back_of}
use Rattle.matching_calls.specs.Lines.{InputAcceptable, AheadAcceptable, BackAcceptable}
use Rattle.matching_calls.specs.Table.{input_fits, ahead_fits, back_fits}

-- ---- input

-- what an outcome replies
abbrev input_replies : List Glyph → ℕ → Outcome → Reply
input_replies text idx (taken places) = input_success text idx places
input_replies text idx (lost extent) = replies 4 (extent ∷ [])
input_replies text idx unlike = replies 5 []

module _ (text : List Glyph) (idx : ℕ) where
  told_replies : (o : Outcome) → input_reply (input_told text idx o) ≡ input_replies text idx o
  told_replies (taken places) =
      let here : take (length (idx ∷ places)) (slotted (idx ∷ places)) ≡ idx ∷ places =
      take_at (idx ∷ places) (replicate (slots - length (idx ∷ places)) 0) (length (idx ∷ places)) refl in
      ap (λ (l : List ℕ). replies 0 (reached (ahead (length text)) (idx + 1) places ∷ total_of text idx places ∷ length l ∷ l)) here
  told_replies (lost extent) = refl
  told_replies unlike = refl

  replies_one : (o o' : Outcome) → input_replies text idx o ≡ input_replies text idx o' → o ≡ o'
  replies_one (taken qs) (taken rs) e = let same = ap (λ (r : Reply). r.values) e in let z : qs ≡ rs = cc in ap taken z
  replies_one (taken qs) (lost y) e = let z : ◌≡◌ {A = ℕ} 0 4 = ap (λ (r : Reply). r.number) e in absurd (omega arith)
  replies_one (taken qs) unlike e = let z : ◌≡◌ {A = ℕ} 0 5 = ap (λ (r : Reply). r.number) e in absurd (omega arith)
  replies_one (lost x) (taken rs) e = let z : ◌≡◌ {A = ℕ} 4 0 = ap (λ (r : Reply). r.number) e in absurd (omega arith)
  replies_one (lost x) (lost y) e = let same = ap (λ (r : Reply). r.values) e in let z : x ≡ y = cc in ap lost z
  replies_one (lost x) unlike e = let z : ◌≡◌ {A = ℕ} 4 5 = ap (λ (r : Reply). r.number) e in absurd (omega arith)
  replies_one unlike (taken rs) e = let z : ◌≡◌ {A = ℕ} 5 0 = ap (λ (r : Reply). r.number) e in absurd (omega arith)
  replies_one unlike (lost y) e = let z : ◌≡◌ {A = ℕ} 5 4 = ap (λ (r : Reply). r.number) e in absurd (omega arith)
  replies_one unlike unlike e = refl

  module _ {X : Type 0} (values : List X) (v : X → ℕ → Verdict) (rule : ℕ → Bool) where
    abbrev outcome : Outcome
    outcome = takes (ahead (length text)) v rule (idx + 1) values

    replied : (o : Outcome) → (input_reply (input_told text idx outcome) ≡ input_replies text idx o) ↔ (outcome ≡ o)
    replied o = (
      λ e. replies_one outcome o (sym (told_replies outcome) ∙ e),
      λ e. told_replies outcome ∙ ap (input_replies text idx) e,
    )

    both : (o : Outcome) {S : Type 0} → (outcome ≡ o) ↔ S → (input_reply (input_told text idx outcome) ≡ input_replies text idx o) ↔ S
    both o d = (λ e. d.0 ((replied o).0 e), λ s. (replied o).1 (d.1 s))

    input_keeps : InputPromise text idx values v rule (input_told text idx outcome)
    input_keeps =
        let d = demand_2 (ahead (length text)) v rule (idx + 1) values in
        record {
          accepted = λ places. both (taken places) (d.accepted places);
          no_others = d.no_others;
          slots = λ places a. ap (input_told text idx) ((d.accepted places).1 a);
          refused4 = λ extent. both (lost extent) (d.refused4 extent);
          refused5 = both unlike d.refused5;
        }

-- ---- context

module _ {X : Type 0} (way : Way) (p : ℕ) (values : List X) (v : X → ℕ → Verdict) where
  abbrev outcome_by : Outcome
  outcome_by = takes way v anywhere p values

  led : (o : Outcome) (place : ℕ) → outcome_by ≡ o → context_reply (context_told way p o) ≡ replies 0 (place ∷ []) → Leads way v p values place
  led (taken places) place e r = record {
    places = places;
    accepts = ((demand_2 way v anywhere p values).accepted places).0 e;
    leads = let same = ap (λ (r : Reply). r.values) r in let z : reached way p places ≡ place = cc in z;
  }
  led (lost extent) place e r = let z : ◌≡◌ {A = ℕ} 4 0 = ap (λ (r : Reply). r.number) r in absurd (omega arith)
  led unlike place e r = let z : ◌≡◌ {A = ℕ} 4 0 = ap (λ (r : Reply). r.number) r in absurd (omega arith)

  lost_by : (o : Outcome) (extent : ℕ) → outcome_by ≡ o → context_reply (context_told way p o) ≡ replies 4 (extent ∷ [])
      → Loses way v anywhere p values extent
  lost_by (taken places) extent e r = let z : ◌≡◌ {A = ℕ} 0 4 = ap (λ (r : Reply). r.number) r in absurd (omega arith)
  lost_by (lost x) extent e r =
      let same = ap (λ (r : Reply). r.values) r in
      let z : x ≡ extent = cc in
      ((demand_2 way v anywhere p values).refused4 extent).0 (e ∙ ap lost z)
  lost_by unlike extent e r = absurd (never_turned ((demand_2 way v anywhere p values).refused5.0 e))

  context_keeps : ContextPromise way p values v (context_told way p outcome_by)
  context_keeps =
      let d = demand_2 way v anywhere p values in
      record {
        accepted = λ place. (
          led outcome_by place refl,
          λ l. ap (λ (o : Outcome). context_reply (context_told way p o)) ((d.accepted l.places).1 l.accepts)
              ∙ ap (λ (n : ℕ). replies 0 (n ∷ [])) l.leads,
        );
        no_others = d.no_others;
        refused4 = λ extent. (
          lost_by outcome_by extent refl,
          λ l. ap (λ (o : Outcome). context_reply (context_told way p o)) ((d.refused4 extent).1 l),
        );
      }

-- ---- the matchers over glyphs are these

module _ {X : Type 0} (lookup : Terms) (sets : List ℕ) (test : X → Asked) where
  pub input_takes : (done coming : List Glyph) (idx : ℕ) (values : List X)
      → input_on lookup sets test done coming idx values
      ≡ takes (ahead (length coming)) (input_judge lookup sets test coming idx) (input_rule lookup sets done coming idx) (idx + 1) values
  unfolding input_on input_by
  input_takes done coming idx values = refl

  pub ahead_takes : (coming : List Glyph) (start syllable : ℕ) (values : List X)
      → ahead_on lookup sets test coming start syllable values
      ≡ takes (ahead (length coming)) (judge (context_matcher_of lookup) sets test syllable coming) anywhere start values
  unfolding ahead_on
  ahead_takes coming start syllable values = refl

  pub back_takes : (row : List Glyph) (syllable : ℕ) (values : List X)
      → back_on lookup sets test row syllable values ≡ takes behind (judge (context_matcher_of lookup) sets test syllable row) anywhere
      (length row) values
  unfolding back_on
  back_takes row syllable values = refl

-- ---- the calls, where no line refuses

module _ {X : Type 0} (done : List ℕ) (d : ℕ) (coming : List ℕ) (len idx : ℕ) (lookup : Terms) (sets : List ℕ) (test : X → Asked)
    (values : List X) where
  abbrev text : List Glyph
  text = take len (glyphs_of coming)

  pub input_promise : InputAcceptable done d coming len idx sets (length values)
      → InputPromise text idx values (input_judge lookup sets test text idx) (input_rule lookup sets (take d (glyphs_of done)) text idx)
      (input_of done d coming len idx lookup sets test values)
  unfolding input_of input_on input_by
  input_promise a =
      rw ((input_fits done d coming len idx sets (length values)).1 a)
      (input_keeps text idx values (input_judge lookup sets test text idx) (input_rule lookup sets (take d (glyphs_of done)) text idx))

  pub ahead_promise : (start : ℕ) → AheadAcceptable done d coming len idx sets (length values) start
      → ContextPromise (ahead (length text)) start values (context_judge lookup sets test text idx text)
      (ahead_of done d coming len idx start lookup sets test values)
  unfolding ahead_of ahead_on
  ahead_promise start a =
      rw ((ahead_fits done d coming len idx sets (length values) start).1 a)
      (context_keeps (ahead (length text)) start values (context_judge lookup sets test text idx text))

  pub back_promise : BackAcceptable done d coming len idx sets (length values)
      → let row = backward_glyphs lookup.settings.table (take d (glyphs_of done)) (take idx text) in
      ContextPromise behind (length row) values (context_judge lookup sets test text idx row) (back_of done d coming len idx lookup sets test values)
  unfolding back_of back_on
  back_promise a =
      let row = backward_glyphs lookup.settings.table (take d (glyphs_of done)) (take idx text) in
      rw ((back_fits done d coming len idx sets (length values)).1 a)
      (context_keeps behind (length row) values (context_judge lookup sets test text idx row))
