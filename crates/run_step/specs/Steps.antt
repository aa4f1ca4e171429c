-- Laws of one step of the code: a record judged and reached, a level closed.
use Rattle.std.specs.Prelude.{◌≡◌, true, false, List, ltb, length, get_or, take}
use Rattle.std.proofs.Math.Path.{refl, sym}
use Rattle.std.proofs.Common.{ap, ◌∙◌, lt-ltb, le-ltb, get_or-take}
use Prim.Native.Nat.{ℕ, zero, suc, ◌-◌, ◌≤◌, ◌<◌}
use native.Mathlib.Omega.{arith}
use Rattle.text.specs.declared.Place.{Place}
use Rattle.text.specs.Text.{text_of, size_of, moved_to, Fits, Holds}
use Rattle.text.specs.Changes.{size_is}
use Rattle.run.specs.declared.Ending.{Ending}
use Rattle.run.specs.declared.Ending.TheVariants.{Short, Deep}
use Rattle.run.specs.Repair.{Sound}
use Rattle.run.specs.Kept.{due_shows}
use Rattle.run.specs.Run.{Stage, is_over, changed, ending_as, spending, is_due, arrived, place_of}
use Rattle.run_positions.specs.declared.Slots.{Slots}
use Rattle.run_positions.specs.Slots.{level_of, Neat}
use Rattle.run_positions.specs.Laws.{count_is}
use Rattle.run_step.specs.declared.State.{State}
use Rattle.run_step.specs.declared.Ready.{Ready}
use Rattle.run_step.specs.State.{run_of, stage_of, Ran, Able, at, is_due_at, parted_at, ended_as, spent_as}
use Rattle.run_step.specs.State.{stopped_slots, judged_at, judged, readied, Prepared, closed_at}

-- ---- whether a record is due

module _ (lv : Slots) (e : Ending) (n seq : ℕ) where
  pub due_stopped : lv.live ≡ false → false ≡ is_due_at (level_of lv) e n seq
  due_stopped h = rw h

  module _ (l : lv.live ≡ true) where
    pub due_over : is_over e ≡ true → false ≡ is_due_at (level_of lv) e n seq
    due_over o = rw (l, o)

    module _ (o : is_over e ≡ false) (neat : Neat lv) where
      pub due_index : lv.count ≤ seq → false ≡ is_due_at (level_of lv) e n seq
      due_index h = rw (l, o, le-ltb seq (length (take lv.count lv.at)) (omega (arith, count_is lv neat)))

      pub due_place : seq < lv.count → ltb (get_or lv.at seq 0) n ≡ is_due_at (level_of lv) e n seq
      due_place h =
          rw (l, o, lt-ltb seq (length (take lv.count lv.at)) (omega (arith, count_is lv neat)))
          (ap (λ (p : ℕ). ltb p n) (sym (get_or-take lv.count lv.at seq 0 h)))

pub ruleset due = (due_stopped, due_over, due_index, due_place)

pub few_slots : {n : ℕ} (lv : Slots) → Neat lv → Sound 0 n (level_of lv) → lv.count ≤ 64
few_slots lv neat o = omega (arith, count_is lv neat, o.few)

-- ---- a due record that was reached

module _ (depth : ℕ) (s : State) (lv : Slots) where
  judge-zero : (l : ℕ) → l ≡ 0 → ◌≡◌ {A = Ready} (record { go = false; state = ended_as Short s; level = stopped_slots lv }) (judged_at depth l s lv)
  unfolding judged_at
  judge-zero l e = rw e

  pub judge_short : s.left ≡ 0 → ◌≡◌ {A = Ready} (record { go = false; state = ended_as Short s; level = stopped_slots lv })
      (judged_at depth s.left s lv)
  judge_short e = judge-zero s.left e

  judge_none : (l d : ℕ) → (l ≡ 0 → ⊥) → d ≡ 0 → ◌≡◌ {A = Ready} (record { go = false; state = ended_as Deep s; level = stopped_slots lv })
      (judged_at d l s lv)
  unfolding judged_at
  judge_none zero d n e = absurd (n refl)
  judge_none (suc l) d n e = rw e

  pub judge_deep : (s.left ≡ 0 → ⊥) → depth ≡ 0 → ◌≡◌ {A = Ready} (record { go = false; state = ended_as Deep s; level = stopped_slots lv })
      (judged_at depth s.left s lv)
  judge_deep n e = judge_none s.left depth n e

  judge_some : (l d : ℕ) → (l ≡ 0 → ⊥) → (d ≡ 0 → ⊥)
      → ◌≡◌ {A = Ready} (record { go = true; state = spent_as (l - 1) s; level = lv }) (judged_at d l s lv)
  unfolding judged_at
  judge_some zero d n m = absurd (n refl)
  judge_some (suc l) zero n m = absurd (m refl)
  judge_some (suc l) (suc d) n m = let e : suc l - 1 ≡ l = omega arith in rw e

  pub judge_spend : (s.left ≡ 0 → ⊥) → (depth ≡ 0 → ⊥)
      → ◌≡◌ {A = Ready} (record { go = true; state = spent_as (s.left - 1) s; level = lv }) (judged_at depth s.left s lv)
  judge_spend n m = judge_some s.left depth n m

-- ---- a record before its lookup is tried

module _ (done coming : List ℕ) (s : State) (lv : Slots) (seq : ℕ) where
  abbrev here : Stage
  here = stage_of done coming s lv

  pub due_is : Fits done coming s.place → is_due (at seq) (stage_of done coming s lv) ≡ is_due_at (level_of lv) s.ending (size_of s.place) seq
  due_is f = ap (λ (n : ℕ). is_due_at (level_of lv) s.ending n seq) (size_is f)

  -- what the code counts on where a record is due
  pub due_shown : Able done coming s lv → is_due_at (level_of lv) s.ending (size_of s.place) seq ≡ true
      → (seq < lv.count) × (get_or lv.at seq 0 < length (text_of done coming s.place).glyphs)
      × (get_or lv.at seq 0 ≡ get_or (take lv.count lv.at) seq 0)
  due_shown a e =
      let u = due_shows (at seq) (stage_of done coming s lv) (due_is a.fits ∙ e) in
      let c = count_is lv a.neat in
      let i : seq < lv.count = omega (arith, u.index) in
      let q : get_or lv.at seq 0 ≡ get_or (take lv.count lv.at) seq 0 = sym (get_or-take lv.count lv.at seq 0 i) in
      (i, omega (arith, u.inside), q)

  pub prepared_none : (depth : ℕ) → Able done coming s lv → is_due_at (level_of lv) s.ending (size_of s.place) seq ≡ false
      → Prepared (readied depth (at seq) (stage_of done coming s lv)) done coming (record { go = false; state = s; level = lv })
  prepared_none depth a e =
      let q : is_due (at seq) (stage_of done coming s lv) ≡ false = due_is a.fits ∙ e in
      rw q (record { go = refl; level = sym a.neat; ran = record { fits = a.fits; is = refl } })

  -- after the move
  module _ (done' coming' : List ℕ) (place : Place) where
    abbrev moved : State
    moved = parted_at place s

    judged_so : (depth l : ℕ) → s.left ≡ l → Neat lv → Holds done' coming' place (moved_to (place_of (at seq) here) (text_of done coming s.place))
        → Prepared (judged depth l (arrived (at seq) here)) done' coming' (judged_at depth l moved lv)
    unfolding judged judged_at
    judged_so depth zero e neat h = record {
      go = refl;
      level = λ j. record { live = false; end = lv.end; count = (sym neat j).count; at = (sym neat j).at };
      ran = record { fits = h.fits; is = λ j. ending_as Short (changed (λ t. h.text j) (run_of done coming s)) };
    }
    judged_so zero (suc l) e neat h = record {
      go = refl;
      level = λ j. record { live = false; end = lv.end; count = (sym neat j).count; at = (sym neat j).at };
      ran = record { fits = h.fits; is = λ j. ending_as Deep (changed (λ t. h.text j) (run_of done coming s)) };
    }
    judged_so (suc depth) (suc l) e neat h = record {
      go = refl;
      level = sym neat;
      ran = record { fits = h.fits; is = λ j. spending l (changed (λ t. h.text j) (run_of done coming s)) };
    }

    pub prepared_due : (depth p : ℕ) (r : Ready) → Able done coming s lv → is_due_at (level_of lv) s.ending (size_of s.place) seq ≡ true
        → p ≡ get_or (take lv.count lv.at) seq 0 → Holds done' coming' place (moved_to p (text_of done coming s.place))
        → r ≡ judged_at depth s.left moved lv
        → Prepared (readied depth (at seq) (stage_of done coming s lv)) done' coming' r
    prepared_due depth p r a e q h j =
        let d : is_due (at seq) (stage_of done coming s lv) ≡ true = due_is a.fits ∙ e in
        rw (d, j) (judged_so depth s.left refl a.neat (rw q at h))

pub ruleset readies = (few_slots, due_shown)

-- ---- a level's end

module _ (done coming : List ℕ) (s : State) (f : Fits done coming s.place) (end : ℕ) where
  pub closed_over : is_over s.ending ≡ true → Ran done coming s (closed_at end (run_of done coming s))
  unfolding closed_at
  closed_over o = rw o (record { fits = f; is = refl })

  pub closed_moves : (done' coming' : List ℕ) (place : Place) → is_over s.ending ≡ false
      → Holds done' coming' place (moved_to end (text_of done coming s.place))
      → Ran done' coming' (parted_at place s) (closed_at end (run_of done coming s))
  unfolding closed_at
  closed_moves done' coming' place o h =
      rw o (record { fits = h.fits; is = λ j. changed (λ t. h.text j) (run_of done coming s) })

pub ruleset closings = (closed_over, closed_moves)
