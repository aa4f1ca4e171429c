-- Laws of the run's refusals, of the match that is handed in, and of what a run leaves.
use Rattle.std.specs.Prelude.{◌≡◌, refl, Bool, true, false, not, ◌&&◌, ◌||◌, List, [], ◌∷◌, map, ℕ, zero, suc, ◌+◌, ◌-◌, ◌≤◌, ◌<◌, eqb, leb, length}
use Rattle.std.specs.Prelude.{Option, Some, None, ⊤, Result, Ok, Err, is_some, get_or, take}
use Rattle.std.specs.Result.{IsOkAnd}
use Rattle.std.proofs.Common.{sym, ap, subst, ◌∙◌, true≢false, arith, length-take-le}
use Rattle.std.proofs.Math.Bool.{cond}
use borrow.Author.Tests.{eq-eqb, leb-true, ltb-true, ltb-false, eqb-true}
use Rattle.std.proofs.Math.Dec.{ltb}
use Rattle.std.proofs.lemmas.List.{length-map}
use Rattle.bits.proofs.Laws.{and_left, and_right, neither_left}
use Rattle.glyph.specs.Glyph.{limit}
use Rattle.glyph.specs.Sets.{odd_sets}
use Rattle.text.specs.declared.Place.{Place}
use Rattle.text.specs.Text.{text_of, Fits, Holds, Clear, unfit, past_end}
use Rattle.text.specs.Changes.{fit_exactly}
use Rattle.text.specs.Laws.{sizes}
use Rattle.matching.specs.declared.Success.{Success}
use Rattle.matching.specs.declared.NoMatch.{NoMatch}
use Rattle.matching.specs.Take.{slots}
use Rattle.matching.specs.Answers.{match_end}
use Rattle.book.specs.declared.Index.{Index}
use Rattle.book.specs.Book.{Reading, Reads, Unreadable, read_book, is_read, lookups_by}
use Rattle.book.specs.Places.{index_of}
use Rattle.book.specs.Starts.{index_reads}
use Rattle.run.specs.Repair.{Level, Rises, Sound}
use Rattle.run.specs.Repair as rises
use Rattle.run.specs.Rises.{rises_wider}
use Rattle.run.specs.Run.{Run, Stage, opened, from_done, moved_level, most_allowance, most_depth}
use Rattle.run_positions.specs.declared.Slots.{Slots}
use Rattle.run_positions.specs.Slots.{level_of, shown}
use Rattle.run_positions.specs.Laws.{level_shown}
use Rattle.run.specs.declared.RunRefusal.{RunRefusal}
use Rattle.run.specs.declared.RunRefusal.TheVariants.{Shape, Cursor, Limits, Book, Match}
use Rattle.run_calls.specs.declared.RunAnswer.{RunAnswer}
use Rattle.run_cycle.specs.declared.Closed.{Closed}
use Rattle.run_cycle.specs.Levels.{Indexed, Chained}
use Rattle.run_refuse.specs.Refuse.{bad_records, checked_first, checked_places, checked_match}
use Rattle.run_calls.specs.Calls.{Handed, checked_all}
use Rattle.run_refuse.specs.Refuse.{rises_to, good_places}
use Rattle.run_calls.specs.Calls.{refused_by, RunLeaves, answer_place, SaidBy}

-- ---- places that are good

-- rising places, moved to the text, are a level's positions
pub moved_rise : (low end : ℕ) (ps : List ℕ) (idx d lo : ℕ) → idx ≤ low → lo ≡ d + (low - idx) → rises_to low end ps ≡ true
    → Rises lo (d + (end - idx)) (map (from_done idx d) ps)
unfolding rises_to
moved_rise low end [] idx d lo h q e = rises.no_position
moved_rise low end (p ∷ ps) idx d lo h q e =
    let a = leb-true low p (and_left (leb low p) (ltb p end && rises_to (p + 1) end ps) e) in
    let r = and_right (leb low p) (ltb p end && rises_to (p + 1) end ps) e in
    let b = ltb-true p end (and_left (ltb p end) (rises_to (p + 1) end ps) r) in
    let n : d + (p - idx) + 1 ≡ d + (p + 1 - idx) = omega arith in
    rises.next {low = lo} {end = d + (end - idx)} (d + (p - idx)) (omega arith) (omega arith)
    (moved_rise (p + 1) end ps idx d (d + (p - idx) + 1) (omega arith) n (and_right (ltb p end) (rises_to (p + 1) end ps) r))

-- what good places show
pub record Shows (idx end count : ℕ) (places : List ℕ) : Type 0 where
  pub some : count ≡ 0 → ⊥
  pub few : count ≤ slots
  pub short : end ≤ limit
  pub first : get_or places 0 0 ≡ idx
  pub rise : rises_to idx end (take count places) ≡ true

pub places_show : (idx end count : ℕ) (places : List ℕ) → good_places idx end count places ≡ true → Shows idx end count places
places_show idx end count places e =
    let a = not (eqb count 0) in
    let b = leb count slots in
    let c = leb end limit in
    let f = eqb (get_or places 0 0) idx in
    let g = rises_to idx end (take count places) in
    let e₁ = and_right a (b && (c && (f && g))) e in
    let e₂ = and_right b (c && (f && g)) e₁ in
    let e₃ = and_right c (f && g) e₂ in
    record {
      some = λ z. let q : not (eqb count 0) ≡ true = and_left a (b && (c && (f && g))) e in let r : false ≡ true = rw (eq-eqb count 0 z) at q in
          let w : ◌≡◌ {A = ℕ} 0 1 = cc in absurd (omega arith);
      few = leb-true count slots (and_left b (c && (f && g)) e₁);
      short = leb-true end limit (and_left c (f && g) e₂);
      first = eqb-true (get_or places 0 0) idx (and_left f g e₃);
      rise = and_right f g e₃;
    }

-- the first place is below the end
rises_below : (low end p : ℕ) (ps : List ℕ) → rises_to low end (p ∷ ps) ≡ true → p < end
unfolding rises_to
rises_below low end p ps e =
    ltb-true p end (and_left (ltb p end) (rises_to (p + 1) end ps) (and_right (leb low p) (ltb p end && rises_to (p + 1) end ps) e))

first_below : (idx end count : ℕ) (places : List ℕ) → length places ≡ 64 → Shows idx end count places → idx < end
first_below idx end zero places all s = absurd (s.some refl)
first_below idx end (suc n) [] all s = let z : ⊥ = omega arith in absurd z
first_below idx end (suc n) (p ∷ places) all s =
    let b = rises_below idx end p (take n places) s.rise in
    let f : p ≡ idx = s.first in
    omega arith

-- the level of a match that isn't refused is sound over the text
module _ (done coming : List ℕ) (p : Place) (f : Fits done coming p) (end count : ℕ) (places : List ℕ) (all : length places ≡ 64)
    (s : Shows p.idx end count places) where
  pub open_asks : (length places ≡ 64) × (count ≤ 64) × (p.idx ≤ end) × (end ≤ limit) × (p.d ≤ p.idx)
  open_asks = let b = first_below p.idx end count places all s in (all, s.few, omega arith, s.short, f.room)

  pub first_sound : Sound 0 (length (text_of done coming p).glyphs) (moved_level p.idx p.d (take count places) end)
  first_sound =
      let z = sizes done coming p f in
      let b = first_below p.idx end count places all s in
      let e : p.d ≡ p.d + (p.idx - p.idx) = omega arith in
      let n : length (take count places) ≡ count = length-take-le count places (omega (arith, s.few)) in
      record {
        few = omega (arith, length-map (take count places) (from_done p.idx p.d), s.few);
        rises = rises_wider 0 (p.d + (end - p.idx)) (omega arith) (omega arith)
            (moved_rise p.idx end (take count places) p.idx p.d p.d (omega arith) e s.rise);
        begins = omega arith;
        within = omega (arith, s.short);
      }

-- ---- what a run leaves

pub whole_is : (v : Stage) (done₁ coming₁ done₂ coming₂ : List ℕ) (r : Closed) → Chained done₁ coming₁ r v
    → Holds done₂ coming₂ r.state.place (text_of done₁ coming₁ r.state.place) → Clear done₂ coming₂ r.state.place
    → RunLeaves v done₂ coming₂ (record {
      ending = r.state.ending;
      spent = r.state.spent;
      d = r.state.place.d;
      idx = r.state.place.idx;
      count = r.level.count;
      positions = r.level.at;
    })
whole_is v done₁ coming₁ done₂ coming₂ r c h k = record {
  ending = ap (λ (x : Run). x.tally.ending) c.ran.is;
  spent = ap (λ (x : Run). x.tally.spent) c.ran.is;
  count = ap (λ (x : Slots). x.count) c.level;
  positions = ap (λ (x : Slots). x.at) c.level;
  holds = record { fits = h.fits; text = h.text ∙ ap (λ (x : Run). x.text) c.ran.is };
  clear = k;
}

-- the text that the rows hold where the answer parts them
pub held_by : (v : Stage) (done coming : List ℕ) (r : Result RunAnswer RunRefusal) → IsOkAnd r (RunLeaves v done coming)
    → Holds done coming (answer_place r) v.run.text × Clear done coming (answer_place r)
held_by v done coming (Ok r) w = (w.holds, w.clear)
held_by v done coming (Err why) w = absurd w

-- ---- the refusals, by their cases

pub said_whole : (k : Result ⊤ RunRefusal) (v : Stage) (done coming done' coming' : List ℕ) (r : Result RunAnswer RunRefusal) → k ≡ Ok tt
    → IsOkAnd r (RunLeaves v done' coming') → SaidBy k v done coming done' coming' r
said_whole k v done coming done' coming' r e w = rw e w

pub said_same : (k k' : Result ⊤ RunRefusal) (v : Stage) (done coming done' coming' : List ℕ) (r : Result RunAnswer RunRefusal) → k ≡ k'
    → SaidBy k' v done coming done' coming' r → SaidBy k v done coming done' coming' r
said_same k k' v done coming done' coming' r e w = rw e w

pub said_refused : (k : Result ⊤ RunRefusal) (why : RunRefusal) (v : Stage) (done coming : List ℕ) (r : Result RunAnswer RunRefusal) → k ≡ Err why
    → r ≡ refused_by why → SaidBy k v done coming done coming r
said_refused k why v done coming r e q = rw e (q, refl, refl)

module _ (idx end total count : ℕ) (places : List ℕ) (a : Result Success NoMatch) (is : a ≡ Ok (record { end = end; total = total })) where
  pub match_bad : good_places idx end count places ≡ false → checked_places idx a count places ≡ Err Match
  match_bad g = rw (is, g)

  pub match_good : good_places idx end count places ≡ true → checked_places idx a count places ≡ Ok tt
  match_good g = rw (is, g)

  pub end_is : end ≡ match_end a
  end_is = ap match_end (sym is)

-- ---- the first level

pub level_sound : (n : ℕ) (lv : Slots) (L : Level) → lv ≡ shown L → Sound 0 n L → Sound 0 n (level_of lv)
level_sound n lv L e s = rw (e, level_shown L) s

-- the level's own way of writing the same run
pub whole_first : (f : Stage → Stage) (x : Run) (lv : Slots) (idx d : ℕ) (places : List ℕ) (end end' : ℕ) (done coming : List ℕ) (r : RunAnswer)
    → lv ≡ shown (moved_level idx d places end) → end ≡ end' → RunLeaves (f (record { level = level_of lv; run = x })) done coming r
    → RunLeaves (f (opened (moved_level idx d places end').positions (moved_level idx d places end').end x)) done coming r
whole_first f x lv idx d places end end' done coming r e q w =
    let l : level_of lv ≡ moved_level idx d places end' = ap level_of e ∙ level_shown (moved_level idx d places end)
    ∙ ap (moved_level idx d places) q in
    subst (λ (L : Level). RunLeaves (f (record { level = L; run = x })) done coming r) l w

-- ---- the book

is_reading : (k : Reading) → is_read k ≡ true → k ≡ Reads (lookups_by k)
is_reading (Reads ls) e = refl
is_reading Unreadable e = let z : ◌≡◌ {A = ℕ} 0 1 = cc in absurd (omega arith)

pub index_is : (ws : List ℕ) (i : Index) → index_of ws ≡ Some i → Indexed ws i.starts i.count
index_is ws i e = record {
  reads = is_reading (read_book ws) (sym (index_reads ws) ∙ ap (λ (x : Option Index). is_some x) e);
  is = e;
}

-- one that has none doesn't read
pub index_none : (ws : List ℕ) → index_of ws ≡ None → read_book ws ≡ Unreadable
index_none ws e = by (read_book ws) refl
  where
    by : (k : Reading) → read_book ws ≡ k → read_book ws ≡ Unreadable
    by (Reads ls) r = absurd (true≢false (sym (ap is_read r) ∙ sym (index_reads ws) ∙ ap (λ (x : Option Index). is_some x) e))
    by Unreadable r = r

-- a book that reads has one
pub index_there : (ws : List ℕ) → is_read (read_book ws) ≡ true → (i : Index) × (index_of ws ≡ Some i)
index_there ws r = by (index_of ws) refl
  where
    by : (o : Option Index) → index_of ws ≡ o → (i : Index) × (index_of ws ≡ Some i)
    by (Some i) e = (i, e)
    by None e = absurd (true≢false (sym r ∙ sym (index_reads ws) ∙ ap (λ (x : Option Index). is_some x) e))

-- ---- all refusals

accepted_not : (why : RunRefusal) → ◌≡◌ {A = Result ⊤ RunRefusal} (Err why) (Ok tt) → ⊥
accepted_not why e = let z : ◌≡◌ {A = ℕ} 0 1 = cc in omega arith

not_refused : (b : Bool) (why : RunRefusal) (rest : Result ⊤ RunRefusal) → cond b (Err why) rest ≡ Ok tt → (b ≡ false) × (rest ≡ Ok tt)
not_refused true why rest e = absurd (accepted_not why e)
not_refused false why rest e = (refl, e)

module _ (h : Handed) (allowance depth : ℕ) where
  pub all_first : (why : RunRefusal) → checked_first h.done h.coming h.place h.sets h.records allowance depth ≡ Err why
      → checked_all h allowance depth ≡ Err why
  unfolding checked_all
  all_first why e = rw e

  module _ (first : checked_first h.done h.coming h.place h.sets h.records allowance depth ≡ Ok tt) where
    pub all_book : is_read (read_book h.book) ≡ false → checked_all h allowance depth ≡ Err Book
    unfolding checked_all
    all_book e = rw (first, e)

    pub all_match : is_read (read_book h.book) ≡ true → checked_all h allowance depth ≡ checked_match h.place.idx h.match
    unfolding checked_all
    all_match e = rw (first, e)

    -- what isn't refused by 1, 2 and 12
    pub first_shows : Fits h.done h.coming h.place × (h.place.idx < limit) × (allowance ≤ most_allowance)
    unfolding checked_first
    first_shows =
        let u = unfit h.done h.coming h.place in
        let o = odd_sets h.sets || bad_records h.records in
        let a = ltb most_allowance allowance in
        let b = ltb most_depth depth in
        let last = cond (a || b) (Err Limits) (Ok tt) in
        let e₁ = not_refused (u || o) Shape (cond (past_end h.place) (Err Cursor) last) first in
        let e₂ = not_refused (past_end h.place) Cursor last e₁.1 in
        let e₃ = not_refused (a || b) Limits (Ok tt) e₂.1 in
        let f = (fit_exactly h.done h.coming h.place).0 (neither_left u o e₁.0, e₂.0) in
        (f.0, f.1, ltb-false most_allowance allowance (neither_left a b e₃.0))
