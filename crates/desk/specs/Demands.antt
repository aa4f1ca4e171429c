-- Demands 1 and 3 of `cb_run`, in the numbers that it answers with (01, "When the desk says no", "Nailing an answer down"). Said of any answer and
-- rows that meet its contract, so of every call of it.
use Rattle.std.specs.Prelude.{◌≡◌, refl, List, [], ◌∷◌, ◌↔◌, ℕ, ⊤, Result, Ok, Err, ◌≤◌, ◌<◌, take}
use Rattle.std.proofs.Common.{sym, ap, subst, ◌∙◌, inl}
use mathlib.Core.Logic.Iff
use Rattle.glyph.specs.Lossless.{Small}
use Rattle.glyph.specs.Order.{RefusedBy}
use Rattle.glyph.specs.Reply.{replies, number_in, has_values}
use Rattle.text.specs.declared.Place.{Place}
use Rattle.text.specs.Rows.{HoldsOnly}
use Rattle.book.specs.Encode.{Narrow}
use Rattle.run.specs.declared.RunRefusal.{RunRefusal}
use Rattle.run.specs.Numbers.{run_refusal_number}
use Rattle.run_calls.specs.declared.RunAnswer.{RunAnswer}
use Rattle.run_calls.specs.Calls.{Handed, checked_all, SaidBy, Said, run_says, run_reply, answer_place}
use Rattle.run_calls.specs.Lines.{Limited, Beyond}
use Rattle.run_calls.specs.Handed.{SameText, Left, place_left, Called, left_number, Ends, run_lines, Acceptable}
use Rattle.run_calls.specs.Replies.{ending_ends, refusal_not_end, leaves_number}
use Rattle.run_calls.specs.Demand1.{MetAllowance0, MetDepth0, MetFull, demand_1}
use Rattle.run_calls.specs.Demand3.{demand_3}
use Rattle.desk.specs.declared.matches.Matched.{Matched}
use Rattle.desk.specs.declared.nestings.Switches.{Switches}
use Rattle.desk.specs.declared.nestings.Ran.{Ran}
use Rattle.desk.specs.Runs.{match_from, given_from, refused_ran, ran_of}

-- what the call is handed: all but the allowance and the depth
pub record RanHanded : Type 0 where
  pub done : List ℕ
  pub coming : List ℕ
  pub place : Place
  pub sets : List ℕ
  pub book : List ℕ
  pub records : List ℕ
  pub matched : Matched
  pub switches : Switches

-- the same as the run's room takes it
abbrev pub handed_by : RanHanded → Handed
handed_by h = record {
  done = h.done;
  coming = h.coming;
  place = h.place;
  sets = h.sets;
  book = h.book;
  records = h.records;
  match = match_from h.matched;
  given = given_from h.switches;
}

-- what it leaves: its answer, and both rows afterwards
pub record RanLeft : Type 0 where
  pub answer : Ran
  pub done : List ℕ
  pub coming : List ℕ

-- a call: what the contract of `cb_run` says; and what the types of words hold (run_calls/Handed.Called)
pub record RanCalled (h : RanHanded) (allowance depth : ℕ) (l : RanLeft) : Type 0 where
  pub said : (a : Result RunAnswer RunRefusal) × (Said (handed_by h) allowance depth l.done l.coming a × (l.answer ≡ ran_of a))
  pub done_words : Small l.done
  pub coming_words : Small l.coming
  pub book_words : Narrow h.book

abbrev pub ran_number : RanLeft → ℕ
ran_number l = l.answer.number

pub record RanDemand1 (h : RanHanded) (allowance depth : ℕ) (l : RanLeft) : Type 0 where
  -- a number that isn't 0, 8, 9 or 10 is that of the first line that refuses
  pub refused : (n : ℕ) → ((ran_number l ≡ n) × (Ends n → ⊥)) ↔ RefusedBy n (run_lines (handed_by h) allowance depth)
  -- then the answer is 0 everywhere else, and no word is changed
  pub unchanged : (Ends (ran_number l) → ⊥) → (l.answer ≡ refused_ran (ran_number l)) × (l.done ≡ h.done) × (l.coming ≡ h.coming)
  -- nothing else is refused
  pub ended : Acceptable (handed_by h) allowance depth ↔ Ends (ran_number l)
  pub short_8 : (ran_number l ≡ 8) ↔ (Acceptable (handed_by h) allowance depth × MetAllowance0 (handed_by h) allowance depth)
  pub deep_9 : (ran_number l ≡ 9) ↔ (Acceptable (handed_by h) allowance depth × MetDepth0 (handed_by h) allowance depth)
  pub full_10 : (ran_number l ≡ 10) ↔ (Acceptable (handed_by h) allowance depth × MetFull (handed_by h) allowance depth)
  -- the rows afterwards, word for word
  pub rows : Ends (ran_number l)
      → HoldsOnly l.done l.coming (record { d = l.answer.d; idx = l.answer.idx }) (run_says (handed_by h) allowance depth).run.text

-- two calls of the same text
pub record RanDemand3 (h h' : RanHanded) : Type 0 where
  -- Finished (0); with at least its allowance and depth, within 12's limits, the same answer and the same words
  pub more_same : (a d a' d' : ℕ) (l l' : RanLeft) → RanCalled h a d l → RanCalled h' a' d' l' → ran_number l ≡ 0 → a ≤ a' → d ≤ d' → Limited a' d'
      → l ≡ l'
  pub beyond_12 : (a d a' d' : ℕ) (l l' : RanLeft) → RanCalled h a d l → RanCalled h' a' d' l' → ran_number l ≡ 0 → Beyond a' d' → ran_number l' ≡ 12
  -- with less than it spent, and the same depth, Short (8)
  pub less_short : (a d a' : ℕ) (l l' : RanLeft) → RanCalled h a d l → RanCalled h' a' d l' → ran_number l ≡ 0 → a' < l.answer.spent
      → ran_number l' ≡ 8

-- ---- a call keeps them, as the room's call below it does

number_is : (r : Result RunAnswer RunRefusal) → (run_reply r).number ≡ (ran_of r).number
number_is (Ok a) = refl
number_is (Err why) = refl

-- d and idx, which are 0 of a refusal
place_is : (r : Result RunAnswer RunRefusal) → answer_place r ≡ record { d = (ran_of r).d; idx = (ran_of r).idx }
place_is (Ok a) = refl
place_is (Err why) = refl

-- a reply of 0 has the number spent before its other values
abbrev values_of : Ran → List ℕ
values_of r = r.d ∷ r.idx ∷ r.count ∷ take r.count r.positions

finished_values : (r : Result RunAnswer RunRefusal) → (ran_of r).number ≡ 0 → run_reply r ≡ replies 0 ((ran_of r).spent ∷ values_of (ran_of r))
finished_values (Ok a) z = ap (λ (n : ℕ). replies n (a.spent ∷ values_of (ran_of (Ok a)))) z
finished_values (Err why) z = absurd (refusal_not_end why (inl z))

-- a number that no run ends with is a reply without values
refused_as : (r : Result RunAnswer RunRefusal) (n : ℕ) → (((ran_of r).number ≡ n) × (Ends n → ⊥)) ↔ (run_reply r ≡ replies n [])
refused_as (Ok a) n = (
  λ s. absurd (s.1 (subst Ends s.0 (ending_ends a.ending))),
  λ e. absurd (has_values e),
)
refused_as (Err why) n = (
  λ s. ap (λ (k : ℕ). replies k []) s.0,
  λ e. let m : run_refusal_number why ≡ n = ap number_in e in (m, λ x. refusal_not_end why (subst Ends (sym m) x)),
)

module _ (h : RanHanded) (allowance depth : ℕ) (l : RanLeft) (c : RanCalled h allowance depth l) where
  abbrev a : Result RunAnswer RunRefusal
  a = c.said.0

  abbrev below : Left
  below = record { answer = a; done = l.done; coming = l.coming }

  called : Called (handed_by h) allowance depth below
  called = record { said = c.said.1.0; done_words = c.done_words; coming_words = c.coming_words; book_words = c.book_words }

  number_of : ran_number l ≡ (ran_of a).number
  number_of = ap (λ (r : Ran). r.number) c.said.1.1

  same_number : left_number below ≡ ran_number l
  same_number = number_is a ∙ sym number_of

  -- what the contract says of a refusal
  nothing_changed : (k : Result ⊤ RunRefusal) → SaidBy k (run_says (handed_by h) allowance depth) h.done h.coming l.done l.coming a
      → (Ends (ran_number l) → ⊥)
      → (l.answer ≡ refused_ran (ran_number l)) × (l.done ≡ h.done) × (l.coming ≡ h.coming)
  nothing_changed (Err why) s n =
      let e : l.answer ≡ refused_ran (run_refusal_number why) = c.said.1.1 ∙ ap ran_of s.0 in
      (e ∙ ap refused_ran (sym (ap (λ (r : Ran). r.number) e)), s.1, s.2)
  nothing_changed (Ok ok) s n =
      let v = run_says (handed_by h) allowance depth in
      absurd (n (subst Ends (sym (leaves_number v l.done l.coming a s) ∙ same_number) (ending_ends v.run.tally.ending)))

  with_number : {M : Type 0} (n : ℕ) → (left_number below ≡ n) ↔ M → (ran_number l ≡ n) ↔ M
  with_number n m = (λ e. m.0 (same_number ∙ e), λ x. sym same_number ∙ m.1 x)

  pub ran_demand_1 : RanDemand1 h allowance depth l
  ran_demand_1 =
      let room = demand_1 (handed_by h) allowance depth below called in
      record {
        refused = λ n.
            let r = Iff.trans (refused_as a n) (room.refused n) in (
              λ s. r.0 (sym number_of ∙ s.0, s.1),
              λ s. let m = r.1 s in (number_of ∙ m.0, m.1),
            );
        unchanged = nothing_changed (checked_all (handed_by h) allowance depth) c.said.1.0;
        ended = (
          λ s. subst Ends same_number (room.ended.0 s),
          λ e. room.ended.1 (subst Ends (sym same_number) e),
        );
        short_8 = with_number 8 room.short_8;
        deep_9 = with_number 9 room.deep_9;
        full_10 = with_number 10 room.full_10;
        rows = λ e.
            let o : HoldsOnly l.done l.coming (place_left below) (run_says (handed_by h) allowance depth).run.text =
            room.rows (subst Ends (sym same_number) e) in
            subst (λ (r : Ran). HoldsOnly l.done l.coming (record { d = r.d; idx = r.idx }) (run_says (handed_by h) allowance depth).run.text)
            (sym c.said.1.1)
            (subst (λ (p : Place). HoldsOnly l.done l.coming p (run_says (handed_by h) allowance depth).run.text) (place_is a) o);
      }

-- for every two calls of the same text
pub ran_demand_3 : (h h' : RanHanded) → SameText (handed_by h) (handed_by h') → RanDemand3 h h'
ran_demand_3 h h' s =
    let room = demand_3 (handed_by h) (handed_by h') s in
    record {
      more_same = λ a d a' d' l l' c c' z more deeper lim.
          let m = room.more_same a d a' d' (below h a d l c) (below h' a' d' l' c') (called h a d l c) (called h' a' d' l' c')
          (same_number h a d l c ∙ z) more deeper lim in
          let e : l.answer ≡ l'.answer = c.said.1.1 ∙ ap ran_of m.answer ∙ sym c'.said.1.1 in
          λ j. record { answer = e j; done = m.done_same j; coming = m.coming_same j };
      beyond_12 = λ a d a' d' l l' c c' z b.
          let m = room.beyond_12 a d a' d' (below h a d l c) (below h' a' d' l' c') (called h a d l c) (called h' a' d' l' c')
          (same_number h a d l c ∙ z) b in
          sym (same_number h' a' d' l' c') ∙ ap number_in m;
      less_short = λ a d a' l l' c c' z lt.
          let r = c.said.0 in
          let n : (ran_of r).number ≡ 0 = sym (number_of h a d l c) ∙ z in
          let e : l.answer.spent ≡ (ran_of r).spent = ap (λ (x : Ran). x.spent) c.said.1.1 in
          let few : a' < (ran_of r).spent = subst (λ (k : ℕ). a' < k) e lt in
          sym (same_number h' a' d l' c')
          ∙ room.less_short a d a' (ran_of r).spent (values_of (ran_of r)) (below h a d l c) (below h' a' d l' c')
          (called h a d l c) (called h' a' d l' c') (finished_values r n) few;
    }
