-- What was left and what was tried add up to the allowance, and a run is Short exactly when a due record met allowance 0.
-- Both go from a record to the records of a level, and by the depth to the levels below.
use Rattle.std.specs.Prelude.{◌≡◌, Bool, true, false, not, ◌⊎◌}
use Rattle.std.proofs.Math.Path.{refl}
use Rattle.std.proofs.Common.{sym, ◌∙◌}
use mathlib.Core.List.{List, [], ◌∷◌}
use Rattle.std.proofs.Math.Logic.{⊎_elim, inl, inr}
use Prim.Native.Nat.{ℕ, zero, suc, ◌+◌}
use native.Mathlib.Omega.{arith}
use Rattle.text.specs.Text.{moved_to}
use Rattle.book.specs.Book.{Record, Lookup}
use Rattle.run.specs.declared.Ending.{Ending}
use Rattle.run.specs.declared.Ending.TheVariants.{Short, Deep}
use Rattle.run.specs.Run.{Run, Stage, Effect, Reason, ending_for, Made, Into, Halts, made_in}
use Rattle.run.specs.Run.{Match, Matched, Unmatched, Deed, Acts, Chains, Rules, is_over, changed}
use Rattle.run.specs.Run.{when, opened, chained_by, done_by, is_due, arrived, spending, tried_by, due_by, step_by, records_by, closed}
use Rattle.run.specs.Run.{acting, mending, deed_at, chain_run, lookup_run}
use Rattle.run.specs.Spending.{Out, left, ends, left_of, end_of, records_stays, closed_stays}
use Rattle.run.specs.Over.{reason_over, short_not_over}
use Rattle.run.specs.Met.{MetTry, MetRecords, MetMatch, MetDeed, Met}

-- ---- left and spent

abbrev sum_of : Run → ℕ
sum_of x = x.tally.left + x.tally.spent

abbrev pub Adds : (Run → Run) → Type 0
Adds f = (x : Run) → sum_of (f x) ≡ sum_of x

abbrev pub AddsUp : (Stage → Stage) → Type 0
AddsUp f = (v : Stage) → sum_of (f v).run ≡ sum_of v.run

made_adds : (m : Made) → Adds (made_in m)
made_adds (Into t) x = refl
made_adds (Halts why) x = refl

chained_adds : (g : Stage → Stage) → AddsUp g → (m : Match) → Adds (chained_by g m)
chained_adds g G (Matched ps e) x = G (opened ps e x)
chained_adds g G Unmatched x = refl

done_adds : (chain : List Record → Stage → Stage) → ((rs : List Record) → AddsUp (chain rs)) → (deed : Deed) → Adds (done_by chain deed)
done_adds chain C (Acts act) x = made_adds (act x.text) x
done_adds chain C (Chains match rs) x = chained_adds (chain rs) (C rs) (match x.text) x

module _ (f : ℕ → Effect) (F : (k : ℕ) → Adds (f k).does) where
  tried_adds : (d l : ℕ) (r : Record) (v : Stage) → v.run.tally.left ≡ l → sum_of (tried_by f d l r v).run ≡ sum_of v.run
  unfolding tried_by
  tried_adds d zero r v e = refl
  tried_adds zero (suc l) r v e = refl
  tried_adds (suc d) (suc l) r v e = let q = F r.lookup (spending l v.run) in omega arith

  pub step_adds : (d : ℕ) (r : Record) → AddsUp (step_by f d r)
  step_adds d r v = by (is_due r v)
    where
      by : (b : Bool) → sum_of (when b (due_by f d r) v).run ≡ sum_of v.run
      by true = tried_adds d v.run.tally.left r (arrived r v) refl
      by false = refl

  records_adds : (d : ℕ) (rs : List Record) → AddsUp (records_by f d rs)
  unfolding records_by
  records_adds d [] v = refl
  records_adds d (r ∷ rs) v = records_adds d rs (step_by f d r v) ∙ step_adds d r v

closed_adds : AddsUp closed
unfolding closed
closed_adds v = by (not (is_over v.run.tally.ending))
  where
    by : (b : Bool) → sum_of (when b (changed (moved_to v.level.end)) v.run) ≡ sum_of v.run
    by true = refl
    by false = refl

-- what is left and what was tried: always the same sum
pub chain_adds : (rules : Rules) (book : List Lookup) (d : ℕ) (rs : List Record) → AddsUp (chain_run rules book d rs)
unfolding chain_run
chain_adds rules book zero rs v = closed_adds _ ∙ records_adds (acting (mending rules book) (λ k x. x)) (λ k x. refl) zero rs v
chain_adds rules book (suc d) rs v =
    closed_adds _ ∙ records_adds (acting (mending rules book) (lookup_run rules book d))
    (λ k. done_adds (chain_run rules book d) (chain_adds rules book d) (deed_at rules book k)) (suc d) rs v

pub lookup_adds : (rules : Rules) (book : List Lookup) (d k : ℕ) → Adds (lookup_run rules book d k)
lookup_adds rules book d k = done_adds (chain_run rules book d) (chain_adds rules book d) (deed_at rules book k)

-- ---- a due record that meets allowance 0

-- what ends Short was Short before or met allowance 0; and what met it is Short with nothing left
pub record ShortExactly {X : Type 0} (left_in : X → ℕ) (end_in : X → Ending) (f : X → X) (met : X → Type 0) : Type 0 where
  pub only : (x : X) → end_in (f x) ≡ Short → (end_in x ≡ Short) ⊎ met x
  pub so : (x : X) → met x → Out left_in end_in (f x)

deep_short : Deep ≡ Short → ⊥
deep_short e = let z : ◌≡◌ {A = ℕ} 0 1 = cc in omega arith

reason_short : (why : Reason) → ending_for why ≡ Short → ⊥
reason_short why e = short_not_over (reason_over why) (sym e)

made_told : (m : Made) (x : Run) → ends (made_in m x) ≡ Short → ends x ≡ Short
made_told (Into t) x h = h
made_told (Halts why) x h = absurd (reason_short why h)

chained_told : (g : Stage → Stage) (met : Stage → Type 0) → ShortExactly left_of end_of g met → (m : Match)
    → ShortExactly left ends (chained_by g m) (MetMatch met m)
chained_told g met G (Matched ps e) = record { only = λ x. G.only (opened ps e x); so = λ x. G.so (opened ps e x) }
chained_told g met G Unmatched = record { only = λ x h. inl h; so = λ x m. absurd m }

module _ (chain : List Record → Stage → Stage) (met : List Record → Stage → Type 0)
    (C : (rs : List Record) → ShortExactly left_of end_of (chain rs) (met rs)) where
  done_told : (deed : Deed) → ShortExactly left ends (done_by chain deed) (MetDeed met deed)
  done_told (Acts act) = record { only = λ x h. inl (made_told (act x.text) x h); so = λ x m. absurd m }
  done_told (Chains match rs) = record {
    only = λ x. (chained_told (chain rs) (met rs) (C rs) (match x.text)).only x;
    so = λ x. (chained_told (chain rs) (met rs) (C rs) (match x.text)).so x;
  }

module _ (f : ℕ → Effect) (met : ℕ → Run → Type 0) (F : (k : ℕ) → ShortExactly left ends (f k).does (met k)) where
  tried_only : (d l : ℕ) (r : Record) (v : Stage) → end_of (tried_by f d l r v) ≡ Short → (end_of v ≡ Short) ⊎ MetTry met d l r v
  unfolding tried_by
  tried_only d zero r v h = inr tt
  tried_only zero (suc l) r v h = absurd (deep_short h)
  tried_only (suc d) (suc l) r v h = (F r.lookup).only (spending l v.run) h

  tried_so : (d l : ℕ) (r : Record) (v : Stage) → left_of v ≡ l → MetTry met d l r v → Out left_of end_of (tried_by f d l r v)
  unfolding tried_by
  tried_so d zero r v e m = (refl, e)
  tried_so zero (suc l) r v e m = absurd m
  tried_so (suc d) (suc l) r v e m = (F r.lookup).so (spending l v.run) m

  step_only : (d : ℕ) (r : Record) (v : Stage) → end_of (step_by f d r v) ≡ Short
      → (end_of v ≡ Short) ⊎ ((is_due r v ≡ true) × MetTry met d (left_of v) r (arrived r v))
  step_only d r v = by (is_due r v) refl
    where
      by : (b : Bool) → is_due r v ≡ b → end_of (when b (due_by f d r) v) ≡ Short
          → (end_of v ≡ Short) ⊎ ((is_due r v ≡ true) × MetTry met d (left_of v) r (arrived r v))
      by true e h = ⊎_elim (λ s. inl s) (λ m. inr (e, m)) (tried_only d (left_of v) r (arrived r v) h)
      by false e h = inl h

  step_so : (d : ℕ) (r : Record) (v : Stage) → is_due r v ≡ true → MetTry met d (left_of v) r (arrived r v) → Out left_of end_of (step_by f d r v)
  step_so d r v e m = rw e (tried_so d (left_of v) r (arrived r v) refl m)

  records_told : (d : ℕ) (rs : List Record) → ShortExactly left_of end_of (records_by f d rs) (MetRecords met f d rs)
  unfolding records_by MetRecords
  records_told d [] = record { only = λ v h. inl h; so = λ v m. absurd m }
  records_told d (r ∷ rs) = record {
    only = λ v h.
        ⊎_elim (λ s. ⊎_elim (λ o. inl o) (λ m. inr (inl m)) (step_only d r v s)) (λ m. inr (inr m)) ((records_told d rs).only (step_by f d r v) h);
    so = λ v m. ⊎_elim (λ a. records_stays f d rs (step_by f d r v) (step_so d r v a.0 a.1)) ((records_told d rs).so (step_by f d r v)) m;
  }

closing_told : (g : Stage → Stage) (met : Stage → Type 0) → ShortExactly left_of end_of g met → ShortExactly left_of end_of (λ v. closed (g v)) met
unfolding closed
closing_told g met G = record {
  only = λ v h. G.only v (by v (not (is_over (g v).run.tally.ending)) h);
  so =
      λ v m. closed_stays (g v) (G.so v m);
}
  where
    by : (v : Stage) (b : Bool) → ends (when b (changed (moved_to (g v).level.end)) (g v).run) ≡ Short → end_of (g v) ≡ Short
    by v true h = h
    by v false h = h

pub chain_told : (rules : Rules) (book : List Lookup) (d : ℕ) (rs : List Record)
    → ShortExactly left_of end_of (chain_run rules book d rs) (Met rules book d rs)
unfolding chain_run Met
chain_told rules book zero rs =
    closing_told _ _ (records_told (acting (mending rules book) (λ k x. x)) (λ k x. ⊥)
    (λ k. record { only = λ x h. inl h; so = λ x m. absurd m }) zero rs)
chain_told rules book (suc d) rs =
    closing_told _ _ (records_told (acting (mending rules book) (lookup_run rules book d)) (λ k. MetDeed (Met rules book d) (deed_at rules book k))
    (λ k. done_told (chain_run rules book d) (Met rules book d) (chain_told rules book d) (deed_at rules book k)) (suc d) rs)
