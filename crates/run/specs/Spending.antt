-- How a run depends on its allowance and on the depth that it is given.
--     Core f f'     what f ends Finished, f' ends the same from any allowance that covers what f spent, and Short from any that doesn't
--     Stays f       what is Short with nothing left stays so
--     chain-core    a chain at depth d, and at d' ≥ d
-- A step that spends nothing reads no allowance; a try takes one from both; one after the other adds up. Then by the depth.
use Rattle.std.specs.Prelude.{◌≡◌, refl, Bool, true, false, not}
use Rattle.std.proofs.Common.{sym, ap, subst, ◌∙◌}
use mathlib.Core.List.{List, [], ◌∷◌}
use Prim.Native.Nat.{ℕ, zero, suc, ◌<◌, ◌≤◌, ◌+◌, ◌-◌}
use Rattle.std.proofs.Math.Nat.{le_refl}
use Rattle.std.proofs.Math.Decide.{dec_lt}
use native.Mathlib.Omega.{arith}
use Rattle.text.specs.Text.{Text, moved_to}
use Rattle.book.specs.Book.{Record, Lookup}
use Rattle.run.specs.declared.Ending.{Ending}
use Rattle.run.specs.declared.Ending.TheVariants.{Finished, Short, Deep}
use Rattle.run.specs.Repair.{Repairing}
use Rattle.run.specs.Run.{Run, Stage, Effect, Reason, ending_for, Made, Into, Halts, made_in}
use Rattle.run.specs.Run.{Match, Matched, Unmatched, Deed, Acts, Chains, Rules, is_over, changed}
use Rattle.run.specs.Run.{tallied, ending_as, in_run, when, opened, chained_by, done_by}
use Rattle.run.specs.Run.{is_due, arrived, spending, followed_by, tried_by, due_by, step_by}
use Rattle.run.specs.Run.{records_by, closed, acting, mending, deed_at, chain_run}
use Rattle.run.specs.Over.{reason_over, finished_not_over}

-- out of allowance
abbrev pub Out : {X : Type 0} → (X → ℕ) → (X → Ending) → X → Type 0
Out left ending x = (ending x ≡ Short) × (left x ≡ 0)

pub record Core {X : Type 0} (left : X → ℕ) (ending : X → Ending) (refill : ℕ → X → X) (f f' : X → X) : Type 0 where
  pub falls : (x : X) → left (f x) ≤ left x
  pub sticky : (x : X) → ending (f x) ≡ Finished → ending x ≡ Finished
  pub enough : (x : X) (s a : ℕ) → ending (f x) ≡ Finished → left (f x) + s ≡ left x → f' (refill (a + s) x) ≡ refill a (f x)
  pub short : (x : X) (s a : ℕ) → ending (f x) ≡ Finished → left (f x) + s ≡ left x → a < s → Out left ending (f' (refill a x))

abbrev pub Stays : {X : Type 0} → (X → ℕ) → (X → Ending) → (X → X) → Type 0
Stays {X} left ending f = (x : X) → Out left ending x → Out left ending (f x)

module _ {X : Type 0} (left : X → ℕ) (ending : X → Ending) (refill : ℕ → X → X) where
  -- one run after another
  pub then_core : (f f' g g' : X → X) → Core left ending refill f f' → Core left ending refill g g' → Stays left ending g'
      → Core left ending refill (λ x. g (f x)) (λ x. g' (f' x))
  then_core f f' g g' F G stays = record {
    falls = λ x. omega (arith, F.falls x, G.falls (f x));
    sticky = λ x e. F.sticky x (G.sticky (f x) e);
    enough = λ x s a e q.
        let lf : left (f x) ≤ left x = F.falls x in
        let lg : left (g (f x)) ≤ left (f x) = G.falls (f x) in
        let s₁ : ℕ = left x - left (f x) in
        let s₂ : ℕ = left (f x) - left (g (f x)) in
        let j : a + s ≡ a + s₂ + s₁ = omega arith in
        ap (λ n. g' (f' (refill n x))) j
        ∙ ap g' (F.enough x s₁ (a + s₂) (G.sticky (f x) e) (omega arith))
        ∙ G.enough (f x) s₂ a e (omega arith);
    short = λ x s a e q lt.
        let lf : left (f x) ≤ left x = F.falls x in
        let lg : left (g (f x)) ≤ left (f x) = G.falls (f x) in
        let s₁ : ℕ = left x - left (f x) in
        let s₂ : ℕ = left (f x) - left (g (f x)) in
        elim (dec_lt a s₁) [
          | yes h ↦ stays (f' (refill a x)) (F.short x s₁ a (G.sticky (f x) e) (omega arith) h)
          | no h ↦
              let i : a ≡ a - s₁ + s₁ = omega arith in
              let p : f' (refill a x) ≡ refill (a - s₁) (f x) = ap (λ n. f' (refill n x)) i
              ∙ F.enough x s₁ (a - s₁) (G.sticky (f x) e) (omega arith) in
              subst (λ y. Out left ending (g' y)) (sym p) (G.short (f x) s₂ (a - s₁) e (omega arith) (omega arith))
        ];
  }

  -- what spends nothing, tells no ending and reads no allowance
  pub silent : (f : X → X) → ((x : X) → left (f x) ≡ left x) → ((x : X) → ending (f x) ≡ ending x)
      → ((a : ℕ) (x : X) → f (refill a x) ≡ refill a (f x))
      → Core left ending refill f f
  silent f l e r = record {
    falls = λ x. omega (arith, l x);
    sticky = λ x h. sym (e x) ∙ h;
    enough = λ x s a h q. let z : a + s ≡ a = omega (arith, l x) in rw z (r a x);
    short = λ x s a h q lt. let z : ⊥ = omega (arith, l x) in absurd z;
  }

  -- a run that goes by what no allowance changes
  pub by_core : {P : Type 0} (h : X → P) → ((a : ℕ) (x : X) → h (refill a x) ≡ h x) → (f f' : P → X → X)
      → ((p : P) → Core left ending refill (f p) (f' p))
      → Core left ending refill (λ x. f (h x) x) (λ x. f' (h x) x)
  by_core h fixed f f' F = record {
    falls = λ x. (F (h x)).falls x;
    sticky = λ x. (F (h x)).sticky x;
    enough = λ x s a e q. ap (λ p. f' p (refill (a + s) x)) (fixed (a + s) x) ∙ (F (h x)).enough x s a e q;
    short = λ x s a e q lt. subst (λ p. Out left ending (f' p (refill a x))) (sym (fixed a x)) ((F (h x)).short x s a e q lt);
  }

  pub when_core : (c : Bool) (f f' : X → X) → Core left ending refill f f' → Core left ending refill (when c f) (when c f')
  when_core true f f' F = F
  when_core false f f' F = silent (λ x. x) (λ x. refl) (λ x. refl) (λ a x. refl)

  pub when_stays : (c : Bool) (f : X → X) → Stays left ending f → Stays left ending (when c f)
  when_stays true f F = F
  when_stays false f F = λ x o. o

abbrev pub left : Run → ℕ
left x = x.tally.left

abbrev pub ends : Run → Ending
ends x = x.tally.ending

-- the same run with another allowance
abbrev pub refilled : ℕ → Run → Run
refilled a x = tallied (λ y. record { left = a; spent = y.spent; ending = y.ending }) x

abbrev pub left_of : Stage → ℕ
left_of v = v.run.tally.left

abbrev pub end_of : Stage → Ending
end_of v = v.run.tally.ending

abbrev pub refilled_of : ℕ → Stage → Stage
refilled_of a v = record { level = v.level; run = refilled a v.run }

abbrev pub RunCore : (Run → Run) → (Run → Run) → Type 0
RunCore f f' = Core left ends refilled f f'

abbrev pub StageCore : (Stage → Stage) → (Stage → Stage) → Type 0
StageCore f f' = Core left_of end_of refilled_of f f'

short_not : Short ≡ Finished → ⊥
short_not e = let z : ◌≡◌ {A = ℕ} 0 1 = cc in omega arith

deep_not : Deep ≡ Finished → ⊥
deep_not e = let z : ◌≡◌ {A = ℕ} 0 1 = cc in omega arith

reason_not : (why : Reason) → ending_for why ≡ Finished → ⊥
reason_not why e = finished_not_over (reason_over why) (sym e)

-- ---- a lookup

changed_core : (f : Text → Text) → RunCore (changed f) (changed f)
changed_core f = silent left ends refilled (changed f) (λ x. refl) (λ x. refl) (λ a x. refl)

nothing_core : RunCore (λ x. x) (λ x. x)
nothing_core = silent left ends refilled (λ x. x) (λ x. refl) (λ x. refl) (λ a x. refl)

stops_core : (why : Reason) → RunCore (ending_as (ending_for why)) (ending_as (ending_for why))
stops_core why = record {
  falls = λ x. le_refl (left x);
  sticky = λ x h. absurd (reason_not why h);
  enough = λ x s a h q. absurd (reason_not why h);
  short = λ x s a h q lt. absurd (reason_not why h);
}

made_core : (m : Made) → RunCore (made_in m) (made_in m)
made_core (Into t) = changed_core (λ u. t)
made_core (Halts why) = stops_core why

-- the records of a level, at one depth and at another
abbrev LevelCore : (Stage → Stage) → (Stage → Stage) → Type 0
LevelCore g g' = StageCore g g' × Stays left_of end_of g'

chained_core : (g g' : Stage → Stage) → LevelCore g g' → (m : Match) → RunCore (chained_by g m) (chained_by g' m)
chained_core g g' G (Matched ps e) = record {
  falls = λ x. G.0.falls (opened ps e x);
  sticky = λ x. G.0.sticky (opened ps e x);
  enough = λ x s a h q. ap (λ (v : Stage). v.run) (G.0.enough (opened ps e x) s a h q);
  short = λ x. G.0.short (opened ps e x);
}
chained_core g g' G Unmatched = nothing_core

-- a lookup goes by the text alone, which no allowance changes
module _ (chain chain' : List Record → Stage → Stage) (C : (rs : List Record) → LevelCore (chain rs) (chain' rs)) where
  done_core : (deed : Deed) → RunCore (done_by chain deed) (done_by chain' deed)
  done_core (Acts act) = by_core left ends refilled (λ x. act x.text) (λ a x. refl) made_in made_in made_core
  done_core (Chains match rs) =
      by_core left ends refilled (λ x. match x.text) (λ a x. refl)
      (λ m x. chained_by (chain rs) m x) (λ m x. chained_by (chain' rs) m x) (chained_core (chain rs) (chain' rs) (C rs))

-- ---- a due record

module _ (r : Record) (v : Stage) where
  -- the stage with another allowance and ending
  abbrev stage_at : ℕ → Ending → Stage
  stage_at l e = in_run (tallied (λ y. record { left = l; spent = y.spent; ending = e })) v

  -- the run that the record's lookup is handed
  abbrev handed : ℕ → Ending → Run
  handed l e = spending l (arrived r (stage_at 0 e)).run

  abbrev due_at : (ℕ → Effect) → ℕ → ℕ → Ending → Stage
  due_at f d l e = tried_by f d l r (arrived r (stage_at l e))

  module _ (mend : ℕ → Repairing) (f f' : ℕ → Run → Run) where
    due_falls : (d l : ℕ) (e : Ending) → (1 ≤ d → RunCore (f r.lookup) (f' r.lookup)) → left_of (due_at (acting mend f) d l e) ≤ l
    unfolding tried_by
    due_falls d zero e F = le_refl 0
    due_falls zero (suc l) e F = le_refl (suc l)
    due_falls (suc d) (suc l) e F = omega (arith, (F (omega arith)).falls (handed l e))

    due_sticky : (d l : ℕ) (e : Ending) → (1 ≤ d → RunCore (f r.lookup) (f' r.lookup)) → end_of (due_at (acting mend f) d l e) ≡ Finished
        → e ≡ Finished
    unfolding tried_by
    due_sticky d zero e F h = absurd (short_not h)
    due_sticky zero (suc l) e F h = absurd (deep_not h)
    due_sticky (suc d) (suc l) e F h = (F (omega arith)).sticky (handed l e) h

    -- the tried record: both depths are positive, and the allowance too
    tried_enough : (d d' l s a : ℕ) (e : Ending) → RunCore (f r.lookup) (f' r.lookup) → ends (f r.lookup (handed l e)) ≡ Finished
        → left (f r.lookup (handed l e)) + s ≡ suc l
        → due_at (acting mend f') (suc d') (a + s) e ≡ refilled_of a (due_at (acting mend f) (suc d) (suc l) e)
    unfolding tried_by
    tried_enough d d' l zero a e F h q = let z : ⊥ = omega (arith, F.falls (handed l e)) in absurd z
    tried_enough d d' l (suc s) a e F h q =
        let i : a + suc s ≡ suc (a + s) = omega arith in
        rw i (ap (λ (y : Run). followed_by (mend r.lookup) r (arrived r (stage_at 0 e)) y) (F.enough (handed l e) s a h (omega arith)))

    due_enough : (d d' l s a : ℕ) (e : Ending) → d ≤ d' → (1 ≤ d → RunCore (f r.lookup) (f' r.lookup))
        → end_of (due_at (acting mend f) d l e) ≡ Finished → left_of (due_at (acting mend f) d l e) + s ≡ l
        → due_at (acting mend f') d' (a + s) e ≡ refilled_of a (due_at (acting mend f) d l e)
    unfolding tried_by
    due_enough d d' zero s a e le F h q = absurd (short_not h)
    due_enough zero d' (suc l) s a e le F h q = absurd (deep_not h)
    due_enough (suc d) zero (suc l) s a e le F h q = let z : ⊥ = omega arith in absurd z
    due_enough (suc d) (suc d') (suc l) s a e le F h q = tried_enough d d' l s a e (F (omega arith)) h q

    tried_short : (d d' l s a : ℕ) (e : Ending) → RunCore (f r.lookup) (f' r.lookup) → ends (f r.lookup (handed l e)) ≡ Finished
        → left (f r.lookup (handed l e)) + s ≡ suc l → a < s → Out left_of end_of (due_at (acting mend f') (suc d') a e)
    unfolding tried_by
    tried_short d d' l s zero e F h q lt = (refl, refl)
    tried_short d d' l zero (suc a) e F h q lt = let z : ⊥ = omega arith in absurd z
    tried_short d d' l (suc s) (suc a) e F h q lt = F.short (handed l e) s a h (omega arith) (omega arith)

    due_short : (d d' l s a : ℕ) (e : Ending) → d ≤ d' → (1 ≤ d → RunCore (f r.lookup) (f' r.lookup))
        → end_of (due_at (acting mend f) d l e) ≡ Finished → left_of (due_at (acting mend f) d l e) + s ≡ l → a < s
        → Out left_of end_of (due_at (acting mend f') d' a e)
    unfolding tried_by
    due_short d d' zero s a e le F h q lt = absurd (short_not h)
    due_short zero d' (suc l) s a e le F h q lt = absurd (deep_not h)
    due_short (suc d) zero (suc l) s a e le F h q lt = let z : ⊥ = omega arith in absurd z
    due_short (suc d) (suc d') (suc l) s a e le F h q lt = tried_short d d' l s a e (F (omega arith)) h q lt

-- a due record at allowance 0 is Short, whatever the lookups do
pub due_out : (f : ℕ → Effect) (d : ℕ) (r : Record) (v : Stage) → left_of v ≡ 0 → Out left_of end_of (due_by f d r v)
unfolding tried_by
due_out f d r v o = subst (λ (l : ℕ). Out left_of end_of (tried_by f d l r (arrived r v))) (sym o) (refl, o)

-- ---- the records of a level

pub step_stays : (f : ℕ → Effect) (d : ℕ) (r : Record) → Stays left_of end_of (step_by f d r)
step_stays f d r v o = by (is_due r v)
  where
    by : (c : Bool) → Out left_of end_of (when c (due_by f d r) v)
    by true = due_out f d r v o.1
    by false = o

pub records_stays : (f : ℕ → Effect) (d : ℕ) (rs : List Record) → Stays left_of end_of (records_by f d rs)
unfolding records_by
records_stays f d [] v o = o
records_stays f d (r ∷ rs) v o = records_stays f d rs (step_by f d r v) (step_stays f d r v o)

module _ (mend : ℕ → Repairing) (f f' : ℕ → Run → Run) (d d' : ℕ) (le : d ≤ d') (F : 1 ≤ d → (k : ℕ) → RunCore (f k) (f' k)) where
  due_core : (r : Record) → StageCore (due_by (acting mend f) d r) (due_by (acting mend f') d' r)
  due_core r = record {
    falls = λ v. due_falls r v mend f f' d (left_of v) (end_of v) (λ h. F h r.lookup);
    sticky = λ v. due_sticky r v mend f f' d (left_of v) (end_of v) (λ h. F h r.lookup);
    enough = λ v s a. due_enough r v mend f f' d d' (left_of v) s a (end_of v) le (λ h. F h r.lookup);
    short = λ v s a. due_short r v mend f f' d d' (left_of v) s a (end_of v) le (λ h. F h r.lookup);
  }

  step_core : (r : Record) → StageCore (step_by (acting mend f) d r) (step_by (acting mend f') d' r)
  step_core r =
      by_core left_of end_of refilled_of (is_due r) (λ a v. refl) (λ c. when c (due_by (acting mend f) d r))
      (λ c. when c (due_by (acting mend f') d' r))
      (λ c. when_core left_of end_of refilled_of c (due_by (acting mend f) d r) (due_by (acting mend f') d' r) (due_core r))

  records_core : (rs : List Record) → LevelCore (records_by (acting mend f) d rs) (records_by (acting mend f') d' rs)
  unfolding records_by
  records_core [] = (silent left_of end_of refilled_of (λ v. v) (λ v. refl) (λ v. refl) (λ a v. refl), records_stays (acting mend f') d' [])
  records_core (r ∷ rs) =
      let q = records_core rs in
      (then_core left_of end_of refilled_of _ _ _ _ (step_core r) q.0 q.1, records_stays (acting mend f') d' (r ∷ rs))

-- ---- a level's end

-- by whether the run is over
abbrev closed_by : Bool → Stage → Stage
closed_by c v = in_run (when c (changed (moved_to v.level.end))) v

closed_core : StageCore closed closed
unfolding closed
closed_core = by_core left_of end_of refilled_of (λ v. not (is_over v.run.tally.ending)) (λ a v. refl) closed_by closed_by go
  where
    go : (c : Bool) → StageCore (closed_by c) (closed_by c)
    go true = silent left_of end_of refilled_of (closed_by true) (λ v. refl) (λ v. refl) (λ a v. refl)
    go false = silent left_of end_of refilled_of (closed_by false) (λ v. refl) (λ v. refl) (λ a v. refl)

pub closed_stays : Stays left_of end_of closed
unfolding closed
closed_stays v o = by (not (is_over v.run.tally.ending))
  where
    by : (c : Bool) → Out left_of end_of (closed_by c v)
    by true = o
    by false = o

closing : (g g' : Stage → Stage) → LevelCore g g' → LevelCore (λ v. closed (g v)) (λ v. closed (g' v))
closing g g' G = (then_core left_of end_of refilled_of g g' closed closed G.0 closed_core closed_stays, λ v o. closed_stays (g' v) (G.1 v o))

-- a chain at depth d, and at d' ≥ d
module _ (rules : Rules) (book : List Lookup) where
  pub chain_core : (d d' : ℕ) → d ≤ d' → (rs : List Record) → LevelCore (chain_run rules book d rs) (chain_run rules book d' rs)
  unfolding chain_run
  chain_core zero zero le rs = closing _ _ (records_core (mending rules book) _ _ 0 0 le (λ h. let z : ⊥ = omega arith in absurd z) rs)
  chain_core zero (suc d') le rs = closing _ _ (records_core (mending rules book) _ _ 0 (suc d') le (λ h. let z : ⊥ = omega arith in absurd z) rs)
  chain_core (suc d) zero le rs = let z : ⊥ = omega arith in absurd z
  chain_core (suc d) (suc d') le rs =
      closing _ _ (records_core (mending rules book) _ _ (suc d) (suc d') le
      (λ h k. done_core (chain_run rules book d) (chain_run rules book d') (chain_core d d' (omega arith)) (deed_at rules book k)) rs)
