-- Demand 1 of runs, in 01's numbers (01, "When the desk says no"): a call is refused by 1, 2, 12, 11 or 7 exactly when that line refuses and no line
-- before it does, and then no word is changed; else it ends with 0, or with 8, 9 or 10, each exactly when its line says, and both rows are said word
-- for word.
-- Said of any answer and rows that meet the contract of `run_calls::run`.
use Rattle.std.specs.Prelude.{◌≡◌, refl, List, [], ◌↔◌, ℕ, ⊤, Result, Ok, Err}
use Rattle.std.proofs.Common.{sym, subst, ⊎_elim}
use mathlib.Core.Logic.Iff
use Rattle.glyph.specs.Order.{RefusedBy}
use Rattle.text.specs.Text.{text_of, written}
use Rattle.text.specs.Rows.{HoldsOnly, holds_only}
use Rattle.matching.specs.Answers.{match_end}
use Rattle.book.specs.Book.{Record, Lookup, records_of, lookups_of}
use Rattle.run.specs.declared.Ending.{Ending}
use Rattle.run.specs.declared.Ending.TheVariants.{Finished, Short, Deep, Full}
use Rattle.run.specs.Run.{Stage, Rules, opened, begun, moved_level}
use Rattle.run.specs.Repair.{repaired}
use Rattle.run.specs.Chain.{chain_by}
use Rattle.run.specs.Deeds.{ruled}
use Rattle.run.specs.Met.{Met}
use Rattle.run.specs.Promises.{short_exactly}
use Rattle.run.specs.Stops.{MetDepth, deep_exactly}
use Rattle.run.specs.Full.{MetLimit, full_exactly}
use Rattle.run.specs.declared.RunRefusal.{RunRefusal}
use Rattle.run.specs.Numbers.{ending_number}
use Rattle.run_calls.specs.Calls.{SaidBy, Handed, checked_all, run_says}
use Rattle.run_calls.specs.Lines.{places_of}
use Rattle.run_calls.specs.Table as table
use Rattle.run_calls.specs.Replies.{no_values, ending_ends, told_refused, told_ended}
use Rattle.run_calls.specs.CallLaws.{held_by}
use Rattle.run_calls.specs.Handed.{Left, place_left, left_number, Ends, RepliesAs, Called, run_lines, Acceptable}

-- the level that the match opens on the text that the rows hold, places counted from the text's first glyph
abbrev pub opened_by : Handed → ℕ → Stage
opened_by h allowance =
    let first = moved_level h.place.idx h.place.d (places_of h.match) (match_end h.match.answer) in
    opened first.positions first.end (begun allowance (text_of h.done h.coming h.place))

-- what a run can meet, met by this one
abbrev pub MetBy : (Rules → List Lookup → ℕ → List Record → Stage → Type 0) → Handed → ℕ → ℕ → Type 0
MetBy met h allowance depth = met (ruled h.given h.sets) (lookups_of h.book) depth (records_of h.records) (opened_by h allowance)

-- a due record met allowance 0; met depth 0 with allowance left; a kind 2 result would have passed the limit
abbrev pub MetAllowance0 : Handed → ℕ → ℕ → Type 0
MetAllowance0 = MetBy Met

abbrev pub MetDepth0 : Handed → ℕ → ℕ → Type 0
MetDepth0 = MetBy MetDepth

abbrev pub MetFull : Handed → ℕ → ℕ → Type 0
MetFull = MetBy MetLimit

pub record Demand1 (h : Handed) (allowance depth : ℕ) (l : Left) : Type 0 where
  -- by 1, 2, 12, 11 or 7: the number of the first line that refuses
  pub refused : (n : ℕ) → RepliesAs n [] l ↔ RefusedBy n (run_lines h allowance depth)
  -- a reply without values is one of these, and has changed no word
  pub unchanged : (n : ℕ) → RepliesAs n [] l → (l.done ≡ h.done) × (l.coming ≡ h.coming)
  -- nothing else is refused: what no line refuses ends with 0, 8, 9 or 10
  pub ended : Acceptable h allowance depth ↔ Ends (left_number l)
  pub short_8 : (left_number l ≡ 8) ↔ (Acceptable h allowance depth × MetAllowance0 h allowance depth)
  pub deep_9 : (left_number l ≡ 9) ↔ (Acceptable h allowance depth × MetDepth0 h allowance depth)
  pub full_10 : (left_number l ≡ 10) ↔ (Acceptable h allowance depth × MetFull h allowance depth)
  -- with each of these four the rows hold the text that the steps taken made it, word for word: its first d glyphs and then zeros, zeros and then the
  -- rest
  pub rows : Ends (left_number l) → HoldsOnly l.done l.coming (place_left l) (run_says h allowance depth).run.text

-- ---- a call keeps it

module _ (h : Handed) (a d : ℕ) (l : Left) (c : Called h a d l) where
  accepted : (checked_all h a d ≡ Ok tt) ↔ Acceptable h a d
  accepted = table.accepted h a d c.book_words

  told : (e : Ending) → (left_number l ≡ ending_number e) ↔ ((checked_all h a d ≡ Ok tt) × ((run_says h a d).run.tally.ending ≡ e))
  told e = told_ended (checked_all h a d) (run_says h a d) h.done h.coming l.done l.coming l.answer e c.said

  ends : (e : Ending) {M : Type 0} → ((run_says h a d).run.tally.ending ≡ e) ↔ M → (left_number l ≡ ending_number e) ↔ (Acceptable h a d × M)
  ends e m = (
    λ z. let t = (told e).0 z in (accepted.0 t.0, m.0 t.1),
    λ s. (told e).1 (accepted.1 s.0, m.1 s.1),
  )

  same_rows : (k : Result ⊤ RunRefusal) → SaidBy k (run_says h a d) h.done h.coming l.done l.coming l.answer → (n : ℕ) → RepliesAs n [] l
      → (l.done ≡ h.done) × (l.coming ≡ h.coming)
  same_rows (Err why) s n e = (s.1, s.2)
  same_rows (Ok ok) s n e = absurd (no_values (run_says h a d) l.done l.coming l.answer s n e)

  -- a call that ended was accepted
  was_accepted : Ends (left_number l) → checked_all h a d ≡ Ok tt
  was_accepted =
      ⊎_elim (λ z. ((told Finished).0 z).0) (⊎_elim (λ z. ((told Short).0 z).0) (⊎_elim (λ z. ((told Deep).0 z).0) (λ z. ((told Full).0 z).0)))

  rows_hold : Ends (left_number l) → HoldsOnly l.done l.coming (place_left l) (run_says h a d).run.text
  rows_hold e =
      let w = held_by (run_says h a d) l.done l.coming l.answer (table.leaves h a d l c (was_accepted e)) in
      holds_only l.done l.coming (place_left l) (run_says h a d).run.text c.done_words c.coming_words w.0 w.1

  pub demand_1 : Demand1 h a d l
  demand_1 =
      let rules = ruled h.given h.sets in
      let book = lookups_of h.book in
      let records = records_of h.records in
      let first = moved_level h.place.idx h.place.d (places_of h.match) (match_end h.match.answer) in
      let t = text_of h.done h.coming h.place in
      let k = checked_all h a d in
      let v = run_says h a d in
      record {
        refused = λ n. Iff.trans (told_refused k v h.done h.coming l.done l.coming l.answer n c.said)
            (table.refused h a d c.book_words n);
        unchanged = same_rows k c.said;
        ended = (
          λ s. subst Ends (sym ((told v.run.tally.ending).1 (accepted.1 s, refl))) (ending_ends v.run.tally.ending),
          λ e. accepted.0 (was_accepted e),
        );
        short_8 = ends Short (short_exactly rules book records first.positions first.end t d a);
        deep_9 = ends Deep (deep_exactly rules book records first.positions first.end t d a);
        full_10 = ends Full
            (full_exactly (chain_by h.given h.sets) written (λ found. repaired) book records first.positions first.end t d a);
        rows = rows_hold;
      }
