-- A turn of the record loop: what the code makes of the rows, the state and the level is the definition's step, and what it counts on stays.
use Rattle.std.specs.Prelude.{◌≡◌, Bool, true, false, cond, not, length, get_or, drop}
use Rattle.std.proofs.Math.Path.{refl, sym, ap}
use Rattle.std.proofs.Common.{ap₂, subst, ◌∙◌, arith}
use mathlib.Core.List.{List, [], ◌∷◌, ◌++◌}
use Prim.Native.Nat.{ℕ, zero, suc, ◌+◌, ◌-◌, ◌≤◌, ◌<◌}
use Rattle.glyph.specs.Glyph.{limit}
use Rattle.text.specs.Text.{Text, text_of, size_of, moved_to, Fits}
use Rattle.text.specs.Changes.{size_is}
use Rattle.text.specs.Laws.{sizes}
use Rattle.book.specs.Book.{Record, records_of, lookups_of}
use Rattle.book.specs.Records.{records_step, records_end}
use Rattle.run.specs.declared.Given.{Given}
use Rattle.run.specs.Repair.{Level, repaired, Sound}
use Rattle.run.specs.Run.{Run, Stage, Effect, size, changed, when, place_of, is_due, is_over, arrived}
use Rattle.run.specs.Run.{followed_by, tried_by, due_by, step_by, records_by, closed, acting, mending, chain_run, lookup_run, most_allowance}
use Rattle.run.specs.Rises.{repaired_mends}
use Rattle.run.specs.Kept.{Keeps, Due, step_good, lookup_keeps, due_shows}
use Rattle.run.specs.Tries.{Adds, step_adds, lookup_adds}
use Rattle.run.specs.Deeds.{ruled}
use Rattle.run_positions.specs.declared.Slots.{Slots}
use Rattle.run_positions.specs.Slots.{level_of, shown, Neat}
use Rattle.run_positions.specs.Laws.{level_shown, shown_neat, count_is}
use Rattle.run_step.specs.declared.State.{State}
use Rattle.run_step.specs.declared.Ready.{Ready}
use Rattle.run_step.specs.State.{run_of, stage_of, Ran, Able, at, Judgement, judged, readied, Prepared, closed_at}
use Rattle.run_cycle.specs.Levels.{Indexed}
use Rattle.run_cycle.specs.Cycle.{book_fair}

-- the record of two words
abbrev pub record_at : List ℕ → ℕ → Record
record_at recs i = record { seq = get_or recs i 0; lookup = get_or recs (i + 1) 0 }

-- ---- a step, by whether the record's lookup is tried

abbrev try_it : (ℕ → Effect) → Record → Stage → Stage
try_it effects r w = followed_by (effects r.lookup).repair r w ((effects r.lookup).does w.run)

judged_tries : (effects : ℕ → Effect) (depth l : ℕ) (r : Record) (v : Stage)
    → tried_by effects depth l r v ≡ when (judged depth l v).go (try_it effects r) (judged depth l v).stage
unfolding tried_by judged
judged_tries effects depth zero r v = refl
judged_tries effects zero (suc l) r v = refl
judged_tries effects (suc depth) (suc l) r v = refl

step_is : (effects : ℕ → Effect) (depth : ℕ) (r : Record) (v : Stage) → step_by effects depth r v
    ≡ when (readied depth r v).go (try_it effects r) (readied depth r v).stage
step_is effects depth r v = by (is_due r v)
  where
    by : (b : Bool) → when b (due_by effects depth r) v
        ≡ when (cond b (judged depth v.run.tally.left (arrived r v)) (record { go = false; stage = v })).go (try_it effects r)
        (cond b (judged depth v.run.tally.left (arrived r v)) (record { go = false; stage = v })).stage
    by true = judged_tries effects depth v.run.tally.left r (arrived r v)
    by false = refl

-- what is so where it is tried
pub record Goes (depth : ℕ) (r : Record) (v : Stage) (j : Judgement) : Type 0 where
  pub deep : 1 ≤ depth
  pub due : Due r v
  pub level : j.stage.level ≡ v.level
  pub text : j.stage.run.text ≡ moved_to (place_of r v) v.run.text
  pub sum : j.stage.run.tally.left + j.stage.run.tally.spent ≡ v.run.tally.left + v.run.tally.spent

goes : (depth : ℕ) (r : Record) (v : Stage) → (readied depth r v).go ≡ true → Goes depth r v (readied depth r v)
unfolding judged
goes depth r v = by (is_due r v) refl
  where
    on : (d l : ℕ) → v.run.tally.left ≡ l → Due r v → (judged d l (arrived r v)).go ≡ true → Goes d r v (judged d l (arrived r v))
    on d zero e u h = let z : ◌≡◌ {A = ℕ} 0 1 = cc in absurd (omega arith)
    on zero (suc l) e u h = let z : ◌≡◌ {A = ℕ} 0 1 = cc in absurd (omega arith)
    on (suc d) (suc l) e u h = record { deep = omega arith; due = u; level = refl; text = refl; sum = omega arith }

    by : (b : Bool) → is_due r v ≡ b → (cond b (judged depth v.run.tally.left (arrived r v)) (record { go = false; stage = v })).go ≡ true
        → Goes depth r v (cond b (judged depth v.run.tally.left (arrived r v)) (record { go = false; stage = v }))
    by true e h = on depth v.run.tally.left refl (due_shows r v e) h
    by false e h = let z : ◌≡◌ {A = ℕ} 0 1 = cc in absurd (omega arith)

-- ---- what is prepared

module _ (depth : ℕ) (r : Record) (done coming : List ℕ) (s : State) (lv : Slots) (able : Able done coming s lv) (done₁ coming₁ : List ℕ) (y : Ready)
    (p : Prepared (readied depth (at r.seq) (stage_of done coming s lv)) done₁ coming₁ y) where
  abbrev v : Stage
  v = stage_of done coming s lv

  pub ready_stage : stage_of done₁ coming₁ y.state y.level ≡ (readied depth r (stage_of done coming s lv)).stage
  ready_stage =
      let l : level_of y.level ≡ (readied depth r v).stage.level = ap level_of p.level ∙ level_shown (readied depth r v).stage.level in
      λ j. record { level = l j; run = p.ran.is j }

  pub ready_neat : Neat y.level
  ready_neat = rw p.level (shown_neat (readied depth r v).stage.level)

  module _ (go : y.go ≡ true) where
    g : Goes depth r (stage_of done coming s lv) (readied depth r (stage_of done coming s lv))
    g = goes depth r v (sym p.go ∙ go)

    pub tried_deep : 1 ≤ depth
    tried_deep = g.deep

    level_same : level_of y.level ≡ level_of lv
    level_same = ap (λ (w : Stage). w.level) ready_stage ∙ g.level

    text_same : text_of done₁ coming₁ y.state.place ≡ moved_to (place_of r v) (text_of done coming s.place)
    text_same = ap (λ (w : Stage). w.run.text) ready_stage ∙ g.text

    glyphs_same : length (text_of done₁ coming₁ y.state.place).glyphs ≡ length (text_of done coming s.place).glyphs
    glyphs_same = ap (λ (t : Text). length t.glyphs) text_same

    -- the lookup is tried at a glyph, with no more left and spent than before
    pub tried_inside : y.state.place.idx < limit
    tried_inside =
        let z = sizes done₁ coming₁ y.state.place p.ran.fits in
        let c : y.state.place.d ≡ place_of r v = ap (λ (t : Text). t.cursor) text_same in
        omega (arith, g.due.inside, glyphs_same)

    pub tried_few : y.state.left + y.state.spent ≤ most_allowance
    tried_few =
        let a : y.state.left ≡ (readied depth r v).stage.run.tally.left = ap (λ (w : Stage). w.run.tally.left) ready_stage in
        let b : y.state.spent ≡ (readied depth r v).stage.run.tally.spent = ap (λ (w : Stage). w.run.tally.spent) ready_stage in
        omega (arith, g.sum, able.few)

    -- what the repair asks
    pub tried_sound : Sound 0 (size_of y.state.place) (level_of y.level)
    tried_sound =
        let n : size_of y.state.place ≡ length (text_of done coming s.place).glyphs = sym (size_is p.ran.fits) ∙ glyphs_same in
        rw (n, level_same) able.sound

    pub tried_index : r.seq < y.level.count
    tried_index =
        let c : length (level_of y.level).positions ≡ y.level.count = count_is y.level ready_neat in
        omega (arith, g.due.index, ap (λ (x : Level). length x.positions) level_same)

-- ---- the lookups of a level, by its depth

module _ (given : Given) (sets ws : List ℕ) where
  abbrev pub lookup_of : ℕ → ℕ → Run → Run
  lookup_of zero k x = x
  lookup_of (suc d) k x = lookup_run (ruled given sets) (lookups_of ws) d k x

  abbrev pub nested_at : ℕ → ℕ → Effect
  nested_at d = acting (mending (ruled given sets) (lookups_of ws)) (lookup_of d)

  pub nested_is : (d k : ℕ) (x : Run) → 1 ≤ d → lookup_of d k x ≡ lookup_run (ruled given sets) (lookups_of ws) (d - 1) k x
  nested_is zero k x h = let z : ⊥ = omega arith in absurd z
  nested_is (suc d) k x h = let e : suc d - 1 ≡ d = omega arith in rw e

  pub chain_is : (d : ℕ) (rs : List Record) (v : Stage) → chain_run (ruled given sets) (lookups_of ws) d rs v
      ≡ closed (records_by (nested_at d) d rs v)
  unfolding chain_run
  chain_is zero rs v = refl
  chain_is (suc d) rs v = refl

  nested_adds : (d k : ℕ) → Adds (lookup_of d k)
  nested_adds zero k x = refl
  nested_adds (suc d) k x = lookup_adds (ruled given sets) (lookups_of ws) d k x

  module _ {starts : List ℕ} {count : ℕ} (x : Indexed ws starts count) where
    nested_keeps : (d k : ℕ) → Keeps (lookup_of d k)
    nested_keeps zero k y h = record { before = refl; long = omega arith }
    nested_keeps (suc d) k y h = lookup_keeps (ruled given sets) (lookups_of ws) (book_fair x given sets) d k y h

    -- after a step the code can count on the same
    pub still_able : (d : ℕ) (r : Record) (done coming : List ℕ) (s : State) (lv : Slots) (done₂ coming₂ : List ℕ) (s₂ : State) (lv₂ : Slots)
        → Able done coming s lv → stage_of done₂ coming₂ s₂ lv₂ ≡ step_by (nested_at d) d r (stage_of done coming s lv) → Neat lv₂
        → Fits done₂ coming₂ s₂.place → Able done₂ coming₂ s₂ lv₂
    still_able d r done coming s lv done₂ coming₂ s₂ lv₂ a e neat f =
        let v : Stage = stage_of done coming s lv in
        let sum : s₂.left + s₂.spent ≡ s.left + s.spent =
        ap (λ (w : Stage). w.run.tally.left + w.run.tally.spent) e ∙ step_adds (nested_at d) (nested_adds d) d r v in
        let g = step_good (nested_at d) (nested_keeps d) (λ k. repaired_mends) d r 0 (run_of done coming s) v
        (record { level = a.sound; kept = record { before = refl; long = omega arith } }) in
        record {
          fits = f;
          few = omega (arith, a.few);
          neat = neat;
          sound = subst (λ (w : Stage). Sound 0 (size w.run) w.level) (sym e) g.level;
        }

  -- ---- a turn

  module _ (depth : ℕ) (recs : List ℕ) (i : ℕ) (lt : i + 1 < length recs) (done coming : List ℕ) (s : State) (lv : Slots)
      (able : Able done coming s lv) (done₁ coming₁ : List ℕ) (y : Ready)
      (p : Prepared (readied depth (at (get_or recs i 0)) (stage_of done coming s lv)) done₁ coming₁ y) where
    abbrev r : Record
    r = record_at recs i

    -- a record whose lookup isn't tried
    pub turn_rest : y.go ≡ false → stage_of done₁ coming₁ y.state y.level
        ≡ step_by (nested_at depth) depth (record_at recs i) (stage_of done coming s lv)
    turn_rest g =
        let q : (readied depth r (stage_of done coming s lv)).go ≡ false = sym p.go ∙ g in
        ready_stage depth r done coming s lv able done₁ coming₁ y p
        ∙ sym (step_is (nested_at depth) depth r (stage_of done coming s lv)
        ∙ ap (λ (b : Bool). when b (try_it (nested_at depth) r) (readied depth r (stage_of done coming s lv)).stage) q)

    -- a record whose lookup is tried, and the repair
    pub turn_go : y.go ≡ true → (done₂ coming₂ : List ℕ) (s₂ : State) (lv₂ : Slots)
        → Ran done₂ coming₂ s₂ (lookup_run (ruled given sets) (lookups_of ws) (depth - 1) (get_or recs (i + 1) 0) (run_of done₁ coming₁ y.state))
        → lv₂ ≡ shown (repaired (get_or recs i 0) (size_of y.state.place) (size_of s₂.place) (level_of y.level))
        → stage_of done₂ coming₂ s₂ lv₂ ≡ step_by (nested_at depth) depth (record_at recs i) (stage_of done coming s lv)
    turn_go g done₂ coming₂ s₂ lv₂ ran l =
        let v₀ : Stage = stage_of done coming s lv in
        let w : Stage = stage_of done₁ coming₁ y.state y.level in
        let q : (readied depth r v₀).go ≡ true = sym p.go ∙ g in
        let deep : 1 ≤ depth = tried_deep depth r done coming s lv able done₁ coming₁ y p g in
        let run₂ : run_of done₂ coming₂ s₂ ≡ lookup_of depth (get_or recs (i + 1) 0) (run_of done₁ coming₁ y.state) =
        ran.is ∙ sym (nested_is depth (get_or recs (i + 1) 0) (run_of done₁ coming₁ y.state) deep) in
        let lev : level_of lv₂ ≡ repaired (get_or recs i 0) (size w.run) (size (run_of done₂ coming₂ s₂)) (level_of y.level) =
        ap level_of l ∙ level_shown _
        ∙ ap₂ (λ (a b : ℕ). repaired (get_or recs i 0) a b (level_of y.level)) (sym (size_is p.ran.fits)) (sym (size_is ran.fits)) in
        let both : stage_of done₂ coming₂ s₂ lv₂ ≡ followed_by repaired r w (run_of done₂ coming₂ s₂) =
        λ j. record { level = lev j; run = run_of done₂ coming₂ s₂ } in
        both ∙ ap (followed_by repaired r w) run₂
        ∙ ap (try_it (nested_at depth) r) (ready_stage depth r done coming s lv able done₁ coming₁ y p)
        ∙ sym (step_is (nested_at depth) depth r v₀ ∙ ap (λ (b : Bool). when b (try_it (nested_at depth) r) (readied depth r v₀).stage) q)

  -- the records that are left, after a turn and at the end
  pub records_turn : (depth : ℕ) (recs : List ℕ) (i : ℕ) (v w : Stage) → i + 1 < length recs → w
      ≡ step_by (nested_at depth) depth (record_at recs i) v
      → records_by (nested_at depth) depth (records_of (drop (i + 2) recs)) w ≡ records_by (nested_at depth) depth (records_of (drop i recs)) v
  unfolding records_by
  records_turn depth recs i v w lt e =
      ap (records_by (nested_at depth) depth (records_of (drop (i + 2) recs))) e
      ∙ sym (ap (λ (rs : List Record). records_by (nested_at depth) depth rs v) (records_step recs i lt))

  -- as a loop over pairs of words has it
  pub records_pair : (depth : ℕ) (pair rest : List ℕ) (v w : Stage) → length pair ≡ 2 → w ≡ step_by (nested_at depth) depth (record_at pair 0) v
      → records_by (nested_at depth) depth (records_of rest) w ≡ records_by (nested_at depth) depth (records_of (pair ++ rest)) v
  records_pair depth [] rest v w n e = absurd (omega arith)
  records_pair depth (a ∷ []) rest v w n e = absurd (omega arith)
  records_pair depth (a ∷ b ∷ []) rest v w n e = records_turn depth (a ∷ b ∷ rest) 0 v w (omega arith) e
  records_pair depth (a ∷ b ∷ c ∷ pair) rest v w n e = absurd (omega arith)

  pub records_over : (depth : ℕ) (recs : List ℕ) (i : ℕ) (v : Stage) → length recs ≤ i + 1
      → records_by (nested_at depth) depth (records_of (drop i recs)) v ≡ v
  unfolding records_by
  records_over depth recs i v h = ap (λ (rs : List Record). records_by (nested_at depth) depth rs v) (records_end recs i h)

  -- the level's end
  pub closed_is : (depth : ℕ) (rs : List Record) (v w : Stage) → w ≡ records_by (nested_at depth) depth rs v
      → closed_at w.level.end w.run ≡ (chain_run (ruled given sets) (lookups_of ws) depth rs v).run
  unfolding closed_at closed
  closed_is depth rs v w e = ap (λ (u : Stage). when (not (is_over u.run.tally.ending)) (changed (moved_to u.level.end)) u.run) e
      ∙ sym (ap (λ (u : Stage). u.run) (chain_is depth rs v))

  pub closed_level : (depth : ℕ) (rs : List Record) (v w : Stage) → w ≡ records_by (nested_at depth) depth rs v
      → w.level ≡ (chain_run (ruled given sets) (lookups_of ws) depth rs v).level
  unfolding closed
  closed_level depth rs v w e = ap (λ (u : Stage). u.level) e ∙ sym (ap (λ (u : Stage). u.level) (chain_is depth rs v))

-- a place that isn't at the row's end has a glyph
pub glyph_there : (done coming : List ℕ) (s : State) → Fits done coming s.place → s.place.idx < limit
    → s.place.d < length (text_of done coming s.place).glyphs
glyph_there done coming s f h = let z = sizes done coming s.place f in omega arith

-- a text is never longer than a row
pub size_within : {done coming : List ℕ} (s : State) → Fits done coming s.place → size_of s.place ≤ limit
size_within s f = let w = f.within in let r = f.room in omega arith
