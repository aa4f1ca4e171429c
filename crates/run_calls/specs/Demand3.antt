-- Demand 3 of calls, in 01's numbers and values (01, "Nailing an answer down": a Finished run stays the same with a larger allowance and depth, and
-- one less than it spent is Short). Said of two calls of the same text, and of any answers and rows that meet the contract of `run_calls::run`, so of
-- every call of it.
use Rattle.std.specs.Result.{IsOkAnd}
use Rattle.std.specs.Prelude.{⊤, Result, Ok, Err}
use Rattle.std.specs.Prelude.{◌≡◌, refl, List, [], ◌∷◌, ◌++◌, ℕ, suc, ◌+◌, ◌-◌, ◌*◌, ◌%◌, ◌≤◌, ◌<◌, length, get_or, take, drop}
use Rattle.std.proofs.Common.{sym, ap, subst, ◌∙◌, inl, inr, ⊎_elim, arith, length-append, length-drop, get_or-take, length-take-le}
use Rattle.glyph.specs.Glyph.{limit, glyphs_of}
use Rattle.glyph.specs.Laws.{length_row}
use Rattle.glyph.specs.Reply.{Reply, replies}
use Rattle.text.specs.declared.Place.{Place}
use Rattle.text.specs.Text.{Text, text_of, Fits}
use Rattle.text.specs.Laws.{sizes}
use Rattle.matching.specs.declared.InputMatch.{InputMatch}
use Rattle.matching.specs.Answers.{slotted, match_end}
use Rattle.book.specs.Book.{most_records, records_of, lookups_of}
use Rattle.book.specs.Encode.{Narrow}
use Rattle.run.specs.declared.Ending.{Ending}
use Rattle.run.specs.declared.Ending.TheVariants.{Finished, Short}
use Rattle.run.specs.Repair.{Level}
use Rattle.run.specs.Run.{Stage, run_on, moved_level}
use Rattle.run.specs.Deeds.{ruled}
use Rattle.run.specs.Promises.{Alike, more_is_same, less_is_short, spent_within}
use Rattle.run.specs.declared.RunRefusal.{RunRefusal}
use Rattle.run.specs.declared.RunRefusal.TheVariants.{Shape, Cursor, Limits, Book, Match}
use Rattle.run_calls.specs.declared.RunAnswer.{RunAnswer}
use Rattle.run.specs.Numbers.{ending_number, run_refusal_number}
use Rattle.run_calls.specs.Calls.{SaidBy, RunLeaves, answer_place, run_reply, Handed, checked_all, run_says}
use Rattle.run_calls.specs.Replies.{refused_reply, leaves_number, ending_by, ending_back, told_refused}
use Rattle.run_calls.specs.Decided.{run_decided}
use Rattle.run_calls.specs.CallLaws.{said_whole}
use Rattle.run_calls.specs.Lines.{Limited, Beyond, Legible, places_of, Usable}
use Rattle.run_calls.specs.Table.{refused, accepted, fits_of, leaves}
use Rattle.run_calls.specs.Handed.{SameText, Left, left_number, RepliesAs, text_after, Called, Acceptable}

-- the same number and values (spent, d, idx, the count, the positions), all 64 slots, the same text, and every word of both rows
pub record SameLeft (l l' : Left) : Type 0 where
  pub answer : l.answer ≡ l'.answer
  pub reply : run_reply l.answer ≡ run_reply l'.answer
  pub text : text_after l ≡ text_after l'
  pub done_same : l.done ≡ l'.done
  pub coming_same : l.coming ≡ l'.coming

pub record Demand3 (h h' : Handed) : Type 0 where
  -- Finished (0); at least its allowance and depth, within 12's limits
  pub more_same : (a d a' d' : ℕ) (l l' : Left) → Called h a d l → Called h' a' d' l' → left_number l ≡ 0 → a ≤ a' → d ≤ d' → Limited a' d'
      → SameLeft l l'
  -- and beyond them, 12
  pub beyond_12 : (a d a' d' : ℕ) (l l' : Left) → Called h a d l → Called h' a' d' l' → left_number l ≡ 0 → Beyond a' d' → RepliesAs 12 [] l'
  -- Finished, and s spent; with any allowance below that and the same depth it is Short (8)
  pub less_short : (a d a' s : ℕ) (values : List ℕ) (l l' : Left) → Called h a d l → Called h' a' d l' → RepliesAs 0 (s ∷ values) l → a' < s
      → left_number l' ≡ 8
  -- so with one less
  pub one_less_short : (a d s : ℕ) (values : List ℕ) (l l' : Left) → Called h a d l → Called h' s d l' → RepliesAs 0 (suc s ∷ values) l
      → left_number l' ≡ 8

-- ---- a reply of 0 is a run that ended Finished

refusal_not_0 : (why : RunRefusal) → run_refusal_number why ≡ 0 → ⊥
refusal_not_0 Shape e = omega arith
refusal_not_0 Cursor e = omega arith
refusal_not_0 Limits e = omega arith
refusal_not_0 Book e = omega arith
refusal_not_0 Match e = omega arith

finished_by : (e : Ending) → ending_number e ≡ 0 → e ≡ Finished
finished_by e z = sym (ending_back e) ∙ ap ending_by z

-- accepted, ended Finished, and what it left
record Ended0 (k : Result ⊤ RunRefusal) (v : Stage) (done coming : List ℕ) (r : Result RunAnswer RunRefusal) : Type 0 where
  taken : k ≡ Ok tt
  finished : v.run.tally.ending ≡ Finished
  whole : IsOkAnd r (RunLeaves v done coming)

ended_0 : (k : Result ⊤ RunRefusal) (v : Stage) (done₀ coming₀ done coming : List ℕ) (r : Result RunAnswer RunRefusal)
    → SaidBy k v done₀ coming₀ done coming r → (run_reply r).number ≡ 0 → Ended0 k v done coming r
ended_0 (Err why) v done₀ coming₀ done coming r s z =
    absurd (refusal_not_0 why (sym (ap (λ (x : Reply). x.number) (refused_reply r why s.0)) ∙ z))
ended_0 (Ok ok) v done₀ coming₀ done coming r s z =
    record { taken = refl; finished = finished_by v.run.tally.ending (sym (leaves_number v done coming r s) ∙ z); whole = s }

-- what runs that are alike leave is the same
whole_alike : (v w : Stage) (done coming : List ℕ) (r : RunAnswer) → Alike v w → RunLeaves v done coming r → RunLeaves w done coming r
whole_alike v w done coming r a u = record {
  ending = u.ending ∙ a.finished.0 ∙ sym a.finished.1;
  spent = u.spent ∙ a.spent;
  count = u.count ∙ ap (λ (ps : List ℕ). length ps) a.positions;
  positions = u.positions ∙ ap slotted a.positions;
  holds = record { fits = u.holds.fits; text = u.holds.text ∙ (λ j. record { glyphs = a.glyphs j; cursor = a.cursor j }) };
  clear = u.clear;
}

alike_by : (v w : Stage) (done coming : List ℕ) (r : Result RunAnswer RunRefusal) → Alike v w → IsOkAnd r (RunLeaves v done coming)
    → IsOkAnd r (RunLeaves w done coming)
alike_by v w done coming (Ok r) a u = whole_alike v w done coming r a u
alike_by v w done coming (Err why) a u = u

module _ (h : Handed) where
  abbrev first : Level
  first = moved_level h.place.idx h.place.d (take h.match.count h.match.positions) (match_end h.match.answer)

  abbrev t : Text
  t = text_of h.done h.coming h.place

  -- the same call is accepted with any other allowance and depth within 12's limits
  still_accepted : Narrow h.book → (a d a' d' : ℕ) → checked_all h a d ≡ Ok tt → Limited a' d' → checked_all h a' d' ≡ Ok tt
  still_accepted w a d a' d' e l =
      let s = (accepted h a d w).0 e in
      (accepted h a' d' w).1 (record { shaped = s.shaped; inside = s.inside; limited = l; legible = s.legible; usable = s.usable })

  module _ (a d : ℕ) (l : Left) (c : Called h a d l) where
    module _ (z : left_number l ≡ 0) where
      ended : Ended0 (checked_all h a d) (run_says h a d) l.done l.coming l.answer
      ended = ended_0 (checked_all h a d) (run_says h a d) h.done h.coming l.done l.coming l.answer c.said z

      same_by : (a' d' : ℕ) (l' : Left) → Called h a' d' l' → a ≤ a' → d ≤ d' → Limited a' d' → SameLeft l l'
      same_by a' d' l' c' more deeper lim =
          let w' = leaves h a' d' l' c' (still_accepted c.book_words a d a' d' ended.taken lim) in
          let alike : Alike (run_says h a' d') (run_says h a d) =
          more_is_same (ruled h.given h.sets) (lookups_of h.book) (records_of h.records) first.positions
          first.end t d d' a a' deeper more ended.finished in
          let s = run_decided (Ok tt) (run_says h a d) h.done h.coming l.done l.coming l.answer l'.done l'.coming
          l'.answer
          c.done_words c.coming_words c'.done_words c'.coming_words ended.whole
          (alike_by (run_says h a' d') (run_says h a d) l'.done l'.coming l'.answer alike w') in
          record {
            answer = s.answer;
            reply = ap run_reply s.answer;
            text = λ j. text_of (s.done_same j) (s.coming_same j) (answer_place (s.answer j));
            done_same = s.done_same;
            coming_same = s.coming_same;
          }

      beyond_by : (a' d' : ℕ) (l' : Left) → Called h a' d' l' → Beyond a' d' → RepliesAs 12 [] l'
      beyond_by a' d' l' c' b =
          let s = (accepted h a d c.book_words).0 ended.taken in
          let n : Limited a' d' → ⊥ = λ m. ⊎_elim (λ k. let o = m.0 in omega arith) (λ k. let o = m.1 in omega arith) b in
          (told_refused (checked_all h a' d') (run_says h a' d') h.done h.coming l'.done l'.coming l'.answer 12 c'.said).1
          ((refused h a' d' c.book_words 12).1 (inr (s.shaped, inr (s.inside, inl (refl, n)))))

      short_by : (a' : ℕ) (l' : Left) → Called h a' d l' → (r : RunAnswer) → l.answer ≡ Ok r → a' < r.spent → left_number l' ≡ 8
      short_by a' l' c' r is lt =
          let rules = ruled h.given h.sets in
          let book = lookups_of h.book in
          let records = records_of h.records in
          let whole : RunLeaves (run_says h a d) l.done l.coming r =
          subst (λ (x : Result RunAnswer RunRefusal). IsOkAnd x (RunLeaves (run_says h a d) l.done l.coming)) is ended.whole in
          let some : a' < (run_says h a d).run.tally.spent = omega (arith, whole.spent) in
          let few = spent_within rules book records first.positions first.end t d a in
          let lim = ((accepted h a d c.book_words).0 ended.taken).limited in
          let w' = leaves h a' d l' c' (still_accepted c.book_words a d a' d ended.taken (omega (arith, lim.0), lim.1)) in
          let e : (run_says h a' d).run.tally.ending ≡ Short = less_is_short rules book records first.positions first.end t d a a'
          ended.finished some in
          leaves_number (run_says h a' d) l'.done l'.coming l'.answer w' ∙ ap ending_number e

-- the number spent is the first value of a reply of 0
spent_first : (r : Result RunAnswer RunRefusal) (s : ℕ) (values : List ℕ) → run_reply r ≡ replies 0 (s ∷ values)
    → (x : RunAnswer) × ((r ≡ Ok x) × (x.spent ≡ s))
spent_first (Ok x) s values z = let w = ap (λ (y : Reply). y.values) z in (x, (refl, cc))
spent_first (Err why) s values z = absurd (refusal_not_0 why (ap (λ (x : Reply). x.number) z))

-- ---- a call that is accepted stays so over any rows that hold its text

-- the place is the text's where the rows have a run's length
place_by : (done coming done' coming' : List ℕ) (p p' : Place) → Fits done coming p → p.idx < limit → length done ≡ length done'
    → length coming ≡ length coming'
    → text_of done coming p ≡ text_of done' coming' p' → p ≡ p'
place_by done coming done' coming' p p' f i a b e =
    let z = sizes done coming p f in
    let D : length (glyphs_of done') ≡ limit = length_row limit done' (sym a ∙ f.long) in
    let C : length (glyphs_of coming') ≡ limit = length_row limit coming' (sym b ∙ f.wide) in
    let d : p.d ≡ p'.d = ap (λ (t : Text). t.cursor) e in
    let r = f.room in
    let w = f.within in
    let front : length (take p'.d (glyphs_of done')) ≡ p'.d = length-take-le p'.d (glyphs_of done') (omega arith) in
    let whole : length (take p'.d (glyphs_of done') ++ drop p'.idx (glyphs_of coming')) ≡ p'.d + (limit - p'.idx) =
    simp (length-append, length-drop) (omega arith) in
    let n : length (text_of done coming p).glyphs ≡ length (text_of done' coming' p').glyphs = ap (λ (t : Text). length t.glyphs) e in
    let x : p.idx ≡ p'.idx = omega (arith, z.text_is) in
    λ j. record { d = d j; idx = x j }

-- a match with the same positions and end is as good; its total isn't looked at
usable_too : (idx : ℕ) (m m' : InputMatch) → m.count ≡ m'.count → places_of m ≡ places_of m'
    → ((n total : ℕ) → m.answer ≡ Ok (record { end = n; total = total }) → (total' : ℕ) × (m'.answer ≡ Ok (record { end = n; total = total' })))
    → Usable idx m → Usable idx m'
usable_too idx m m' n ps e u =
    let s = e u.end u.total u.success in
    let c = u.some in
    let f : get_or (places_of m') 0 0 ≡ idx = ap (λ (l : List ℕ). get_or l 0 0) (sym ps) ∙ get_or-take m.count m.positions 0 0 c ∙ u.first in
    record {
      end = u.end;
      total = s.0;
      success = s.1;
      some = omega arith;
      few = omega (arith, u.few);
      first = sym (get_or-take m'.count m'.positions 0 0 (omega arith)) ∙ f;
      rising = subst (λ (l : List ℕ). (i : ℕ) → suc i < length l → get_or l i 0 < get_or l (suc i) 0) ps u.rising;
      below = subst (λ (l : List ℕ). (i : ℕ) → i < length l → get_or l i 0 < u.end) ps u.below;
      within = u.within;
    }

module _ (h h' : Handed) (s : SameText h h') (a d : ℕ) (k : Acceptable h a d) where
  same_place : h.place ≡ h'.place
  same_place =
      place_by h.done h.coming h'.done h'.coming h.place h'.place (fits_of h k.shaped k.inside) k.inside s.done_long
      s.coming_long s.text

  acceptable_too : Acceptable h' a d
  acceptable_too =
      let z = k.shaped in
      let i = k.inside in
      let n = ap (λ (p : Place). p.d) same_place in
      let x = ap (λ (p : Place). p.idx) same_place in
      record {
        shaped = record {
          done_long = sym s.done_long ∙ z.done_long;
          coming_long = sym s.coming_long ∙ z.coming_long;
          d_inside = omega (arith, z.d_inside);
          text_inside = omega (arith, z.text_inside);
          sets_paired = subst (λ (l : List ℕ). length l % 2 ≡ 0) s.sets z.sets_paired;
          records_paired = subst (λ (l : List ℕ). length l % 2 ≡ 0) s.records z.records_paired;
          records_few = subst (λ (l : List ℕ). length l ≤ 2 * most_records) s.records z.records_few;
        };
        inside = omega arith;
        limited = k.limited;
        legible = subst Legible s.book k.legible;
        usable = subst (λ (n : ℕ). Usable n h'.match) x
            (usable_too h.place.idx h.match h'.match s.count s.positions s.end k.usable);
      }

  -- the run is the same
  same_stage : run_says h a d ≡ run_says h' a d
  same_stage =
      let u = k.usable in
      let q = same_place in
      let x : match_end h.match.answer ≡ match_end h'.match.answer = ap match_end u.success
      ∙ sym (ap match_end (s.end u.end u.total u.success).1) in
      let first : moved_level h.place.idx h.place.d (places_of h.match) (match_end h.match.answer)
      ≡ moved_level h'.place.idx h'.place.d (places_of h'.match) (match_end h'.match.answer) =
      λ j. moved_level (q j).idx (q j).d (s.positions j) (x j) in
      λ j. run_on (ruled (s.given j) (s.sets j)) (lookups_of (s.book j)) d (records_of (s.records j)) (first j).positions (first j).end a
      (s.text j)

-- what a run that is Finished left, the same call over other rows with the text may leave
handed_over : (h h' : Handed) → SameText h h' → (a d : ℕ) (l : Left) → Called h a d l → left_number l ≡ 0 → Called h' a d l
handed_over h h' s a d l c z =
    let e = ended h a d l c z in
    let k = (accepted h a d c.book_words).0 e.taken in
    let w = subst Narrow s.book c.book_words in
    record {
      said = said_whole (checked_all h' a d) (run_says h' a d) h'.done h'.coming l.done l.coming l.answer
          ((accepted h' a d w).1 (acceptable_too h h' s a d k))
          (subst (λ (v : Stage). IsOkAnd l.answer (RunLeaves v l.done l.coming)) (same_stage h h' s a d k) e.whole);
      done_words = c.done_words;
      coming_words = c.coming_words;
      book_words = w;
    }

-- for every two calls of the same text
pub demand_3 : (h h' : Handed) → SameText h h' → Demand3 h h'
demand_3 h h' s = record {
  more_same = λ a d a' d' l l' c c' z more deeper lim. same_by h' a d l (handed_over h h' s a d l c z) z a' d' l' c' more deeper lim;
  beyond_12 = λ a d a' d' l l' c c' z b. beyond_by h' a d l (handed_over h h' s a d l c z) z a' d' l' c' b;
  less_short = less;
  one_less_short = λ a d s values l l' c c' z. less a d s (suc s) values l l' c c' z (omega arith);
}
  where
    less : (a d a' n : ℕ) (values : List ℕ) (l l' : Left) → Called h a d l → Called h' a' d l' → RepliesAs 0 (n ∷ values) l → a' < n
        → left_number l' ≡ 8
    less a d a' n values l l' c c' z lt =
        let y : left_number l ≡ 0 = ap (λ (x : Reply). x.number) z in
        let f = spent_first l.answer n values z in
        short_by h' a d l (handed_over h h' s a d l c y) y a' l' c' f.0 f.1.0 (omega (arith, f.1.1))

-- so for every two that differ in allowance and depth alone
pub same_handed : (h : Handed) → SameText h h
same_handed h = record {
  text = refl;
  done_long = refl;
  coming_long = refl;
  count = refl;
  positions = refl;
  end = λ n total e. (total, e);
  sets = refl;
  book = refl;
  records = refl;
  given = refl;
}
