-- `chain` and `lookup` meet their contracts. Each turn of the loop does what the next record says; a lookup does its entry's deed. Assumes nothing.
use Rattle.std.proofs.Common.{Some, ap, ap₂, arith, get_or, length, sym, Option, List, ℕ, ◌++◌, ◌-◌, ◌∙◌, ◌≡◌, ◌≤◌, ◌<◌}
use Rattle.std.specs.Slice.Iter.{chunks_exact_rest}
use Rattle.book.specs.declared.Entry.{Entry}
use Rattle.book.specs.Inside.{FoundInside}
use Rattle.book.specs.Finds.{found_inside}
use Rattle.glyph.specs.Glyph.{limit}
use Rattle.text.specs.Text.{text_of, Fits, size_of}
use Rattle.book.specs.Book.{records_of}
use Rattle.run.specs.declared.Given.{Given}
use Rattle.run.specs.Repair.{repaired}
use Rattle.run.specs.Run.{step_by, records_by}
use Rattle.run_positions.specs.declared.Slots.{Slots}
use Rattle.run_positions.specs.Slots.{level_of, shown, Neat}
use Rattle.run_step.specs.declared.State.{State}
use Rattle.run_chain_match.specs.declared.Aim.{Aim}
use Rattle.run_chain_match.specs.Aim.{aimed_at}
use Rattle.run_step.specs.State.{run_of, stage_of, Able}
use Rattle.run_cycle.specs.declared.Shared.{Shared}
use Rattle.run_cycle.specs.Levels.{Indexed}
use Rattle.run_cycle.specs.Cycle.{level_neat, entry_run, look_acts, look_hit, look_miss, Opens, aim_opens}
use Rattle.run_cycle.specs.Turns.{record_at, ready_neat, tried_deep, tried_inside, tried_few, tried_sound, tried_index, nested_at, still_able}
use Rattle.run_cycle.specs.Turns.{turn_rest, turn_go, records_pair, records_over, closed_is, closed_level, glyph_there, size_within}
use Rattle.run_cycle.proofs.+chain_lookup.Goals as goal

pub chain-overflow_sub-depth : goal.chain-overflow_sub-depth
chain-overflow_sub-depth t c =
    let a = c.args in
    let l = c.loop-pair in
    let p = c.prepare-ready in
    tried_deep a.depth (record_at c.in-Some.pair.now 0) l.done l.coming l.st l.lv l.invariant.2 p.new.done p.new.coming p.result
    p.ensures c.if-ready.true

pub chain-lookup-st-requires : goal.chain-lookup-st-requires
chain-lookup-st-requires t c =
    let a = c.args in
    let l = c.loop-pair in
    let p = c.prepare-ready in
    let r = record_at c.in-Some.pair.now 0 in
    let go = c.if-ready.true in
    let d : 1 ≤ a.depth = tried_deep a.depth r l.done l.coming l.st l.lv l.invariant.2 p.new.done p.new.coming p.result p.ensures go in (
      omega (arith, c.decreases),
      (
        rw c.find_in-e.ensures (found_inside a.shared.now.book.now _ _ _),
        p.ensures.ran.fits,
        tried_inside a.depth r l.done l.coming l.st l.lv l.invariant.2 p.new.done p.new.coming p.result p.ensures go,
        tried_few a.depth r l.done l.coming l.st l.lv l.invariant.2 p.new.done p.new.coming p.result p.ensures go,
      ),
    )

pub chain-repair-lv-requires : goal.chain-repair-lv-requires
chain-repair-lv-requires t c =
    let a = c.args in
    let l = c.loop-pair in
    let p = c.prepare-ready in
    let r = record_at c.in-Some.pair.now 0 in
    let go = c.if-ready.true in (
      ready_neat a.depth r l.done l.coming l.st l.lv l.invariant.2 p.new.done p.new.coming p.result p.ensures,
      rw c.size-old.ensures (tried_sound a.depth r l.done l.coming l.st l.lv l.invariant.2 p.new.done p.new.coming p.result p.ensures go),
      tried_index a.depth r l.done l.coming l.st l.lv l.invariant.2 p.new.done p.new.coming p.result p.ensures go,
      rw c.size-old.ensures (size_within p.result.state p.ensures.ran.fits),
      rw c.size-new.ensures (size_within c.lookup-st.result c.lookup-st.ensures.fits),
    )

-- a turn: what the iterator handed out was the next record's two words
module _ (given : Given) (sets ws : List ℕ) {starts : List ℕ} {count : ℕ} (x : Indexed ws starts count) (depth : ℕ) (pair rest all : List ℕ)
    (two : length pair ≡ 2) (cut : all ≡ pair ++ rest) (done coming : List ℕ) (s : State) (lv : Slots) (able : Able done coming s lv)
    (done₂ coming₂ : List ℕ) (s₂ : State) (lv₂ : Slots)
    (turn : stage_of done₂ coming₂ s₂ lv₂ ≡ step_by (nested_at given sets ws depth) depth (record_at pair 0) (stage_of done coming s lv))
    (neat : Neat lv₂) (fits : Fits done₂ coming₂ s₂.place) where
  able_on : Able done₂ coming₂ s₂ lv₂
  able_on = still_able given sets ws x depth (record_at pair 0) done coming s lv done₂ coming₂ s₂ lv₂ able turn neat fits

  records_on : records_by (nested_at given sets ws depth) depth (records_of rest) (stage_of done₂ coming₂ s₂ lv₂)
      ≡ records_by (nested_at given sets ws depth) depth (records_of all) (stage_of done coming s lv)
  records_on =
      rw cut
      (records_pair given sets ws depth pair rest (stage_of done coming s lv) (stage_of done₂ coming₂ s₂ lv₂) two turn)

pub chain-loop-pair-preserved-then-ready : goal.chain-loop-pair-preserved-then-ready
chain-loop-pair-preserved-then-ready t c =
    let a = c.args in
    let h = a.shared.now in
    let l = c.loop-pair in
    let p = c.prepare-ready in
    let pair = c.in-Some.pair.now in
    let s = c.in-Some.ensures.steps in
    let two = s.1.1 ∙ l.invariant.4 in
    let went = c.lookup-st in
    let lev = c.repair-lv.ensures
    ∙ ap₂ (λ (x y : ℕ). shown (repaired (get_or pair 0 0) x y (level_of p.result.level))) c.size-old.ensures c.size-new.ensures in
    let is = went.ensures.is
    ∙ entry_run h.indexed h.given h.sets.now (a.depth - 1) (get_or pair 1 0) c.find_in-e.result c.find_in-e.ensures
    (run_of p.new.done p.new.coming p.result.state) in
    let turn = turn_go h.given h.sets.now h.book.now a.depth pair 0 (omega arith) l.done l.coming l.st l.lv l.invariant.2
    p.new.done p.new.coming p.result p.ensures c.if-ready.true went.new.done went.new.coming went.result c.repair-lv.result
    (record { fits = went.ensures.fits; is = is }) lev in
    let neat = level_neat c.repair-lv.result
    (repaired (get_or pair 0 0) (size_of p.result.state.place) (size_of went.result.place) (level_of p.result.level)) lev in (
      went.auto.done ∙ p.auto.done ∙ l.invariant.0,
      went.auto.coming ∙ p.auto.coming ∙ l.invariant.1,
      able_on h.given h.sets.now h.book.now h.indexed a.depth pair _ _ two s.1.0 l.done l.coming l.st l.lv l.invariant.2
          went.new.done went.new.coming went.result c.repair-lv.result turn neat went.ensures.fits,
      records_on h.given h.sets.now h.book.now h.indexed a.depth pair _ _ two s.1.0 l.done l.coming l.st l.lv l.invariant.2
          went.new.done went.new.coming went.result c.repair-lv.result turn neat went.ensures.fits
          ∙ l.invariant.3,
      s.0 ∙ l.invariant.4,
    )

pub chain-loop-pair-preserved : goal.chain-loop-pair-preserved
chain-loop-pair-preserved t c =
    let a = c.args in
    let h = a.shared.now in
    let l = c.loop-pair in
    let p = c.prepare-ready in
    let pair = c.in-Some.pair.now in
    let s = c.in-Some.ensures.steps in
    let two = s.1.1 ∙ l.invariant.4 in
    let turn = turn_rest h.given h.sets.now h.book.now a.depth pair 0 (omega arith) l.done l.coming l.st l.lv l.invariant.2
    p.new.done p.new.coming p.result p.ensures c.if-ready.false in
    let neat = ready_neat a.depth (record_at pair 0) l.done l.coming l.st l.lv l.invariant.2 p.new.done p.new.coming p.result p.ensures in (
      p.auto.done ∙ l.invariant.0,
      p.auto.coming ∙ l.invariant.1,
      able_on h.given h.sets.now h.book.now h.indexed a.depth pair _ _ two s.1.0 l.done l.coming l.st l.lv l.invariant.2
          p.new.done p.new.coming p.result.state p.result.level turn neat p.ensures.ran.fits,
      records_on h.given h.sets.now h.book.now h.indexed a.depth pair _ _ two s.1.0 l.done l.coming l.st l.lv l.invariant.2
          p.new.done p.new.coming p.result.state p.result.level turn neat p.ensures.ran.fits
          ∙ l.invariant.3,
      s.0 ∙ l.invariant.4,
    )

pub chain-returns : goal.chain-returns
chain-returns t c =
    let a = c.args in
    let h = a.shared.now in
    let l = c.loop-pair in
    let f = c.finish.ensures in
    let first = stage_of a.done.now a.coming.now a.s a.m in
    let last = stage_of l.done l.coming l.st l.lv in
    let rs = records_of a.recs.now in
    let over = c.in-None.ensures.steps.1.0 in
    let e = sym (records_over h.given h.sets.now h.book.now a.depth (chunks_exact_rest l.pair-iterator) 0 last
    (omega (arith, over, l.invariant.4))) ∙ l.invariant.3 in
    record {
      ran = record { fits = f.fits; is = f.is ∙ closed_is h.given h.sets.now h.book.now a.depth rs first last e };
      level = sym l.invariant.2.neat ∙ ap shown (closed_level h.given h.sets.now h.book.now a.depth rs first last e);
    }

-- ---- a lookup

pub lookup-returns-then-not-is_chain : goal.lookup-returns-then-not-is_chain
lookup-returns-then-not-is_chain t c =
    let a = c.args in
    let h = a.shared.now in
    let f = c.act.ensures in
    record {
      fits = f.fits;
      is = f.is ∙ look_acts h.given h.sets.now h.book.now a.depth a.done.now a.coming.now a.s a.e.now
          (sym c.is_chain.ensures ∙ c.if-not-is_chain.true);
    }

pub lookup-returns-in_default : goal.lookup-returns-in_default
lookup-returns-in_default t c =
    let a = c.args in
    let h = a.shared.now in
    record {
      fits = c.requires.1;
      is = look_miss h.given h.sets.now h.book.now a.depth a.done.now a.coming.now a.s a.e.now
          (sym c.is_chain.ensures ∙ c.if-not-is_chain.false) c.in_default.ensures;
    }

-- the chain opens a level over the text, and its records are in the book
opens : (h : Shared) (e : Option Entry) (depth : ℕ) (done coming : List ℕ) (s : State) (a : Aim) → FoundInside (length h.book.now) e
    → Fits done coming s.place → s.place.idx < limit → Some a ≡ aimed_at h.given h.sets.now h.book.now e (text_of done coming s.place)
    → Opens h.given h.sets.now h.book.now depth done coming s e a
opens h e depth done coming s a g f i is =
    aim_opens h.given h.sets.now h.book.now depth done coming s e a is g (glyph_there done coming s f i)

pub lookup-offset_bounds-shared-aim : goal.lookup-offset_bounds-shared-aim
lookup-offset_bounds-shared-aim t c =
    let a = c.args in
    let q = opens a.shared.now a.e.now a.depth a.done.now a.coming.now a.s c.in-Some.aim c.requires.0 c.requires.1 c.requires.2 c.in-Some.ensures in
    omega (arith, q.ordered, q.within)

pub lookup-slice_bounds-records-count : goal.lookup-slice_bounds-records-count
lookup-slice_bounds-records-count t c =
    let a = c.args in
    let q = opens a.shared.now a.e.now a.depth a.done.now a.coming.now a.s c.in-Some.aim c.requires.0 c.requires.1 c.requires.2 c.in-Some.ensures in
    omega (arith, q.ordered)

pub lookup-slice_bounds-records-start : goal.lookup-slice_bounds-records-start
lookup-slice_bounds-records-start t c =
    let a = c.args in
    let q = opens a.shared.now a.e.now a.depth a.done.now a.coming.now a.s c.in-Some.aim c.requires.0 c.requires.1 c.requires.2 c.in-Some.ensures in
    omega (arith, q.ordered, q.within)

pub lookup-slice_bounds-records-end : goal.lookup-slice_bounds-records-end
lookup-slice_bounds-records-end t c =
    let a = c.args in
    let q = opens a.shared.now a.e.now a.depth a.done.now a.coming.now a.s c.in-Some.aim c.requires.0 c.requires.1 c.requires.2 c.in-Some.ensures in
    omega (arith, q.ordered, q.within)

pub lookup-chain-requires : goal.lookup-chain-requires
lookup-chain-requires t c =
    let a = c.args in
    let q = opens a.shared.now a.e.now a.depth a.done.now a.coming.now a.s c.in-Some.aim c.requires.0 c.requires.1 c.requires.2 c.in-Some.ensures in
    (omega (arith, c.decreases), record { fits = c.requires.1; few = c.requires.3; neat = q.neat; sound = q.sound })

pub lookup-returns : goal.lookup-returns
lookup-returns t c =
    let a = c.args in
    let h = a.shared.now in
    let f = c.chain.ensures.ran in
    record {
      fits = f.fits;
      is = f.is
          ∙ look_hit h.given h.sets.now h.book.now a.depth a.done.now a.coming.now a.s a.e.now c.in-Some.aim c.in-Some.ensures;
    }
