-- The run's refusals as 01's table has them ("When the desk says no"): the code's tests tell the lines 1, 2, 12, 11 and 7, so a call is refused by
-- the first line that refuses, and accepted exactly when each lets pass (Order).
use Rattle.std.specs.Prelude.{◌≡◌, refl, Bool, true, false, cond, not, ◌&&◌, ◌||◌, List, [], ◌∷◌, ◌↔◌, ℕ, zero, suc, ◌+◌, ◌*◌, ◌≤◌, ◌<◌, eqb, leb}
use Rattle.std.specs.Prelude.{⊤, Result, Ok, Err, ltb, length, get_or, take}
use Rattle.std.specs.Result.{IsOkAnd, is_err}
use Rattle.std.proofs.Common.{sym, ap, subst, ◌∙◌, true≢false, arith, le-leb, lt-ltb, eq-eqb, ne_eqb, leb-true, ltb-true, eqb-true, get_or-take}
use Rattle.std.proofs.Math.Option.{none, some, some-ne-none}
use Rattle.std.proofs.lemmas.Bool.{not-false}
use Rattle.bits.proofs.Laws.{and_left, and_right}
use Rattle.glyph.specs.Glyph.{words, limit}
use Rattle.glyph.specs.Sets.{odd_sets}
use Rattle.glyph.specs.Tests.{both, at_or_past, over, paired}
use Rattle.glyph.specs.Order.{first_answer, RefusedBy, Tested, tests_of, refused_exactly, through_exactly}
use Rattle.text.specs.declared.Place.{Place}
use Rattle.text.specs.Text.{Fits, unfit, wrong_length, past_end}
use Rattle.matching.specs.declared.Success.{Success}
use Rattle.matching.specs.declared.NoMatch.{NoMatch}
use Rattle.matching.specs.declared.InputMatch.{InputMatch}
use Rattle.matching.specs.Take.{slots}
use Rattle.book.specs.Book.{most_records, Reading, Reads, Unreadable, read_book, is_read}
use Rattle.book.specs.Encode.{Narrow}
use Rattle.book.specs.Only.{reads_exactly}
use Rattle.run.specs.declared.RunRefusal.{RunRefusal}
use Rattle.run.specs.declared.RunRefusal.TheVariants.{Shape, Cursor, Limits, Book, Match}
use Rattle.run.specs.Numbers.{run_refusal_number}
use Rattle.run_refuse.specs.Refuse.{bad_records, checked_first, checked_places, checked_match, rises_to, good_places}
use Rattle.run_calls.specs.Calls.{Handed, checked_all, then}
use Rattle.run_calls.specs.Calls.{checked_number, SaidBy, RunLeaves, run_says}
use Rattle.run_calls.specs.Lines.{RunShaped, CursorInside, Limited, Legible, places_of, Usable}
use Rattle.run_calls.specs.Handed.{ShapedOf, run_lines, Acceptable, Left, Called}
use Rattle.run_calls.specs.CallLaws.{places_show}
use Rattle.run.specs.Run.{most_allowance, most_depth}

-- ---- the tests tell the lines

long : (row : List ℕ) → (wrong_length row ≡ false) ↔ (length row ≡ words * limit)
long row = (
  λ e. eqb-true (length row) (words * limit) (not-false (eqb (length row) (words * limit)) e),
  λ e. rw (eq-eqb (length row) (words * limit) e),
)

module _ (done coming : List ℕ) (p : Place) (sets records : List ℕ) where
  abbrev bad1 : Bool
  bad1 = unfit done coming p || (odd_sets sets || bad_records records)

  shaped : (bad1 ≡ false) ↔ RunShaped done coming p sets records
  shaped =
      let r = both (odd_sets records) (ltb (2 * most_records) (length records)) (paired records) (over (2 * most_records) (length records)) in
      let o = both (odd_sets sets) (bad_records records) (paired sets) r in
      let d = both (ltb limit p.d) (ltb p.idx p.d) (over limit p.d) (over p.idx p.d) in
      let u = both (wrong_length done) (wrong_length coming || (ltb limit p.d || ltb p.idx p.d)) (long done)
      (both (wrong_length coming) (ltb limit p.d || ltb p.idx p.d) (long coming) d) in
      let all = both (unfit done coming p) (odd_sets sets || bad_records records) u o in (
        λ e. let h = all.0 e in record {
          done_long = h.0.0;
          coming_long = h.0.1.0;
          d_inside = h.0.1.1.0;
          text_inside = omega (arith, h.0.1.1.1);
          sets_paired = h.1.0;
          records_paired = h.1.1.0;
          records_few = h.1.1.1;
        },
        λ s. let t = s.text_inside in let i = s.d_inside in
            all.1 ((s.done_long, (s.coming_long, (i, omega arith))), (s.sets_paired, (s.records_paired, s.records_few))),
      )

module _ (allowance depth : ℕ) where
  abbrev bad12 : Bool
  bad12 = ltb most_allowance allowance || ltb most_depth depth

  limited : (bad12 ≡ false) ↔ Limited allowance depth
  limited = both (ltb most_allowance allowance) (ltb most_depth depth) (over most_allowance allowance) (over most_depth depth)

-- the book's words
module _ (book : List ℕ) (w : Narrow book) where
  pub reads : Legible book → is_read (read_book book) ≡ true
  reads g = ap is_read ((reads_exactly book g.0 w).1 g.1)

  legible : (not (is_read (read_book book)) ≡ false) ↔ Legible book
  legible = (by (read_book book) refl, λ g. ap not (reads g))
    where
      by : (k : Reading) → read_book book ≡ k → not (is_read k) ≡ false → Legible book
      by (Reads ls) e n = (ls, (reads_exactly book ls w).0 e)
      by Unreadable e n = absurd (true≢false n)

-- ---- positions that rise, by their numbers

record Rising (low end : ℕ) (ps : List ℕ) : Type 0 where
  begins : 0 < length ps → low ≤ get_or ps 0 0
  rising : (i : ℕ) → suc i < length ps → get_or ps i 0 < get_or ps (suc i) 0
  below : (i : ℕ) → i < length ps → get_or ps i 0 < end

rises_so : (low end : ℕ) (ps : List ℕ) → rises_to low end ps ≡ true → Rising low end ps
unfolding rises_to
rises_so low end [] e = record { begins = λ h. absurd (omega arith); rising = λ i h. absurd (omega arith); below = λ i h. absurd (omega arith) }
rises_so low end (p ∷ ps) e =
    let f = and_right (leb low p) (ltb p end && rises_to (p + 1) end ps) e in
    let l : low ≤ p = leb-true low p (and_left (leb low p) (ltb p end && rises_to (p + 1) end ps) e) in
    let u : p < end = ltb-true p end (and_left (ltb p end) (rises_to (p + 1) end ps) f) in
    let r = rises_so (p + 1) end ps (and_right (ltb p end) (rises_to (p + 1) end ps) f) in
    record { begins = λ h. l; rising = on r; below = under r u }
  where
    on : Rising (p + 1) end ps → (i : ℕ) → suc i < suc (length ps) → get_or (p ∷ ps) i 0 < get_or ps i 0
    on r zero h = let b = r.begins (omega arith) in omega arith
    on r (suc i) h = r.rising i (omega arith)

    under : Rising (p + 1) end ps → p < end → (i : ℕ) → i < suc (length ps) → get_or (p ∷ ps) i 0 < end
    under r u zero h = u
    under r u (suc i) h = r.below i (omega arith)

rises_then : (low end : ℕ) (ps : List ℕ) → Rising low end ps → rises_to low end ps ≡ true
unfolding rises_to
rises_then low end [] r = refl
rises_then low end (p ∷ ps) r =
    rw (
      le-leb low p (r.begins (omega arith)),
      lt-ltb p end (r.below 0 (omega arith)),
    )
    (rises_then (p + 1) end ps
    (record {
      begins = λ h. let q = r.rising 0 (omega arith) in omega arith;
      rising = λ i h. r.rising (suc i) (omega arith);
      below = λ i h. r.below (suc i) (omega arith);
    }))

-- by 7 where the places aren't good
abbrev seven : Bool → Result ⊤ RunRefusal
seven g = cond g (Ok tt) (Err Match)

module _ (idx : ℕ) (m : InputMatch) where
  -- the test of line 7
  usable_by : (end total : ℕ) → m.answer ≡ Ok (record { end = end; total = total }) → good_places idx end m.count m.positions ≡ true → Usable idx m
  usable_by end total e g =
      let s = places_show idx end m.count m.positions g in
      let r = rises_so idx end (places_of m) s.rise in
      record {
        end = end;
        total = total;
        success = e;
        some = positive m.count s.some;
        few = s.few;
        first = s.first;
        rising = r.rising;
        below = r.below;
        within = s.short;
      }
    where
      positive : (n : ℕ) → (n ≡ 0 → ⊥) → 1 ≤ n
      positive zero h = absurd (h refl)
      positive (suc n) h = omega arith

  begins_at : (count : ℕ) (ps : List ℕ) → 1 ≤ count → get_or ps 0 0 ≡ idx → idx ≤ get_or (take count ps) 0 0
  begins_at count ps h e = omega (arith, get_or-take count ps 0 0 h)

  pub good_by : (u : Usable idx m) → good_places idx u.end m.count m.positions ≡ true
  good_by u =
      let c = u.some in
      rw (
        ne_eqb m.count 0 (λ z. omega arith),
        le-leb m.count slots u.few,
        le-leb u.end limit u.within,
        eq-eqb (get_or m.positions 0 0) idx u.first,
      )
      (rises_then idx u.end (places_of m)
      (record { begins = λ h. begins_at m.count m.positions c u.first; rising = u.rising; below = u.below }))

  match_accepted : Usable idx m → checked_match idx m ≡ Ok tt
  match_accepted u = rw (u.success, good_by u)

  abbrev bad7 : Bool
  bad7 = is_err (checked_match idx m)

  usable : (bad7 ≡ false) ↔ Usable idx m
  usable = (by m.answer refl, λ u. ap is_err (match_accepted u))
    where
      good : (end total : ℕ) → m.answer ≡ Ok (record { end = end; total = total }) → (g : Bool) → good_places idx end m.count m.positions ≡ g
          → is_err (seven g) ≡ false → Usable idx m
      good end total e true g n = usable_by end total e g
      good end total e false g n = absurd (true≢false n)

      by : (a : Result Success NoMatch) → m.answer ≡ a → is_err (checked_places idx a m.count m.positions) ≡ false → Usable idx m
      by (Ok s) e n = good s.end s.total e (good_places idx s.end m.count m.positions) refl n
      by (Err why) e n = absurd (true≢false n)

  -- by 7, and no other
  number_7 : checked_number (checked_match idx m) ≡ cond bad7 (some 7) none
  number_7 = by m.answer
    where
      good : (g : Bool) → checked_number (seven g)
          ≡ cond (is_err (seven g)) (some 7) none
      good true = refl
      good false = refl

      by : (a : Result Success NoMatch) → checked_number (checked_places idx a m.count m.positions)
          ≡ cond (is_err (checked_places idx a m.count m.positions)) (some 7) none
      by (Ok s) = good (good_places idx s.end m.count m.positions)
      by (Err why) = refl

-- ---- the table

-- the tests, one after another
in_order : (a b c r z : Bool) (k : Result ⊤ RunRefusal) → checked_number k ≡ cond z (some 7) none
    → checked_number (then (cond a (Err Shape) (cond b (Err Cursor) (cond c (Err Limits) (Ok tt))))
    (then (cond r (Ok tt) (Err Book)) k))
    ≡ cond a (some 1) (cond b (some 2) (cond c (some 12) (cond (not r) (some 11) (cond z (some 7) none))))
in_order true b c r z k e = refl
in_order false true c r z k e = refl
in_order false false true r z k e = refl
in_order false false false false z k e = refl
in_order false false false true z k e = e

-- an accepted call has no number
accepted_by : (k : Result ⊤ RunRefusal) → (k ≡ Ok tt) ↔ (checked_number k ≡ none)
accepted_by (Ok ok) = (λ e. refl, λ e. refl)
accepted_by (Err why) = (λ e. ap checked_number e, λ e. absurd (some-ne-none (run_refusal_number why) e))

module _ (h : Handed) (allowance depth : ℕ) (w : Narrow h.book) where
  -- 01's lines in their order, each with the code's test
  abbrev tests : List Tested
  tests =
      record {
        test = bad1 h.done h.coming h.place h.sets h.records;
        line = record { number = 1; lets = ShapedOf h };
        tells =
            shaped h.done h.coming h.place h.sets h.records;
      }
      ∷ record { test = past_end h.place; line = record { number = 2; lets = CursorInside h.place }; tells = at_or_past limit h.place.idx }
      ∷ record { test = bad12 allowance depth; line = record { number = 12; lets = Limited allowance depth }; tells = limited allowance depth }
      ∷ record { test = not (is_read (read_book h.book)); line = record { number = 11; lets = Legible h.book }; tells = legible h.book w }
      ∷ record {
        test = bad7 h.place.idx h.match;
        line = record { number = 7; lets = Usable h.place.idx h.match };
        tells =
            usable h.place.idx h.match;
      }
      ∷ []

  first : checked_number (checked_all h allowance depth) ≡ first_answer (tests_of tests)
  unfolding checked_all checked_first first_answer
  first =
      in_order (bad1 h.done h.coming h.place h.sets h.records) (past_end h.place) (bad12 allowance depth)
      (is_read (read_book h.book)) (bad7 h.place.idx h.match)
      (checked_match h.place.idx h.match) (number_7 h.place.idx h.match)

  -- refused by the first line that refuses
  pub refused : (n : ℕ) → (checked_number (checked_all h allowance depth) ≡ some n) ↔ RefusedBy n (run_lines h allowance depth)
  refused n = let t = refused_exactly tests n in (λ e. t.0 (sym first ∙ e), λ r. first ∙ t.1 r)

  -- and by none exactly when each lets pass
  pub accepted : (checked_all h allowance depth ≡ Ok tt) ↔ Acceptable h allowance depth
  accepted =
      let k = accepted_by (checked_all h allowance depth) in
      let t = through_exactly tests in (
        λ e. let s = t.0 (sym first ∙ k.0 e) in
            record { shaped = s.0; inside = s.1.0; limited = s.1.1.0; legible = s.1.1.1.0; usable = s.1.1.1.1.0 },
        λ s. k.1 (first ∙ t.1 (s.shaped, (s.inside, (s.limited, (s.legible, (s.usable, tt)))))),
      )

-- rows that line 1 and 2 let pass can hold a text
pub fits_of : (h : Handed) → ShapedOf h → CursorInside h.place → Fits h.done h.coming h.place
fits_of h s i = let u = s.text_inside in record { long = s.done_long; wide = s.coming_long; within = omega arith; room = omega arith }

-- what a call leaves that is accepted
pub leaves : (h : Handed) (a d : ℕ) (l : Left) → Called h a d l → checked_all h a d ≡ Ok tt
    → IsOkAnd l.answer (RunLeaves (run_says h a d) l.done l.coming)
leaves h a d l c e = subst (λ (k : Result ⊤ RunRefusal). SaidBy k (run_says h a d) h.done h.coming l.done l.coming l.answer) e c.said
