-- A run is Deep exactly when a due record met depth 0 with allowance left, and it ends for a reason exactly when a lookup that was tried met that
-- reason (01, "Records over a text"; what meets Full is said in Full.antt). As for Short (Tries): from a record to the records of a level, and by the
-- depth to the levels below. Once it is so it stays so, as no record is looked at again.
use Rattle.std.specs.Prelude.{◌≡◌, Bool, not, ◌↔◌, ◌⊎◌}
use Rattle.std.proofs.Math.Path.{refl}
use Rattle.std.proofs.Common.{sym, ap, ◌∙◌, arith}
use Rattle.std.proofs.Math.Bool.{true, false}
use mathlib.Core.List.{List, [], ◌∷◌}
use Rattle.std.proofs.Math.Logic.{⊎_elim, inl, inr}
use Rattle.std.proofs.Math.Option.{Option, none, some, some_inj, none-ne-some}
use Prim.Native.Nat.{ℕ, zero, suc}
use Rattle.text.specs.Text.{Text, moved_to}
use Rattle.book.specs.Book.{Record, Lookup, Found, lookup_at}
use Rattle.run.specs.declared.Ending.{Ending}
use Rattle.run.specs.declared.Ending.TheVariants.{Finished, Short, Deep, Full}
use Rattle.run.specs.Run.{Run, Stage, Effect, Reason, PastLimit, ending_for, Made, Into, Halts, made_in, Deed, Acts, Chains, Rules}
use Rattle.run.specs.Run.{Match, Matched, Unmatched, is_over, changed, when, opened, begun, chained_by, done_by, is_due, arrived, spending}
use Rattle.run.specs.Run.{tried_by, due_by, step_by, records_by, closed, acting, mending, deed_at, chain_run, lookup_run, run_on}
use Rattle.run.specs.Over.{reason_over, short_not_over, finished_not_over, over_stays}
use Rattle.run.specs.Met.{MetMatch}

-- ---- what is met; `atNone` says whether depth 0 is it, and `halts` which lookup meets it by itself, at the cursor of which text

module _ (at_none : Type 0) (halts : Found → Text → Type 0) where
  -- at a due record, by the depth and the allowance that are left; `met k x` says it of lookup k, tried on x
  abbrev pub MeetsTry : (ℕ → Run → Type 0) → ℕ → ℕ → Record → Stage → Type 0
  MeetsTry met depth zero r v = ⊥
  MeetsTry met zero (suc left) r v = at_none
  MeetsTry met (suc depth) (suc left) r v = met r.lookup (spending left v.run)

  -- at one of the records, as the ones before it left the level
  unfoldable pub MeetsRecords : (ℕ → Run → Type 0) → (ℕ → Effect) → ℕ → List Record → Stage → Type 0
  MeetsRecords met effects depth [] v = ⊥
  MeetsRecords met effects depth (r ∷ rs) v =
      ((is_due r v ≡ true) × MeetsTry met depth v.run.tally.left r (arrived r v)) ⊎ MeetsRecords met effects depth rs (step_by effects depth r v)

  -- by what the lookup does: of a chain, one of its records
  abbrev pub MeetsDeed : (List Record → Stage → Type 0) → Found → Deed → Run → Type 0
  MeetsDeed met found (Acts act) x = halts found x.text
  MeetsDeed met found (Chains match records) x = MetMatch (met records) (match x.text) x

  -- at a record of the level, or of a level below it
  unfoldable pub Meets : Rules → List Lookup → ℕ → List Record → Stage → Type 0
  Meets rules book zero rs v = MeetsRecords (λ k x. ⊥) (acting (mending rules book) (λ k x. x)) zero rs v
  Meets rules book (suc d) rs v =
      MeetsRecords (λ k. MeetsDeed (Meets rules book d) (lookup_at k book) (deed_at rules book k))
      (acting (mending rules book) (lookup_run rules book d)) (suc d) rs v

-- a due record met depth 0 with allowance left
abbrev pub MetDepth : Rules → List Lookup → ℕ → List Record → Stage → Type 0
MetDepth = Meets (Unit {0}) (λ found t. ⊥)

-- a lookup that was tried met a reason, where `halts` says of each which that is
abbrev pub MetReason : (Found → Text → Type 0) → Rules → List Lookup → ℕ → List Record → Stage → Type 0
MetReason = Meets ⊥

-- what `halts` says is so of the lookups of these rules
abbrev pub Halting : Rules → Reason → (Found → Text → Type 0) → Type 0
Halting rules why halts = (found : Found) (act : Text → Made) → rules.deed found ≡ Acts act → (t : Text) → (act t ≡ Halts why) ↔ halts found t

-- ---- reasons and endings: the reason that an ending tells, a line for each

abbrev reason_in : Ending → Option Reason
reason_in Finished = none
reason_in Short = none
reason_in Deep = none
reason_in Full = some PastLimit

reason_back : (why : Reason) → reason_in (ending_for why) ≡ some why
reason_back PastLimit = refl

reason_deep : (why : Reason) → ending_for why ≡ Deep → ⊥
reason_deep why e = none-ne-some why (ap reason_in (sym e) ∙ reason_back why)

reason_same : (w why : Reason) → ending_for w ≡ ending_for why → w ≡ why
reason_same w why e = some_inj.0 (sym (reason_back w) ∙ ap reason_in e ∙ reason_back why)

-- ---- the ending E tells of it

-- what ends E ended so before or met it; and what met it ends E
record Tells (E : Ending) {X : Type 0} (end_in : X → Ending) (f : X → X) (met : X → Type 0) : Type 0 where
  only : (x : X) → end_in (f x) ≡ E → (end_in x ≡ E) ⊎ met x
  so : (x : X) → met x → end_in (f x) ≡ E

abbrev ends : Run → Ending
ends x = x.tally.ending

abbrev end_of : Stage → Ending
end_of v = v.run.tally.ending

module _ (E : Ending) (over : is_over E ≡ true) (at_none : Type 0) (halts : Found → Text → Type 0) (deep : (Deep ≡ E) ↔ at_none) (rules : Rules)
    (made : (found : Found) (act : Text → Made) → rules.deed found ≡ Acts act → (t : Text)
    → Tells E ends (made_in (act t)) (λ x. halts found t)) where
  chained_tells : (g : Stage → Stage) (met : Stage → Type 0) → Tells E end_of g met → (m : Match) → Tells E ends (chained_by g m) (MetMatch met m)
  chained_tells g met G (Matched ps e) = record { only = λ x. G.only (opened ps e x); so = λ x. G.so (opened ps e x) }
  chained_tells g met G Unmatched = record { only = λ x h. inl h; so = λ x m. absurd m }

  module _ (chain : List Record → Stage → Stage) (met : List Record → Stage → Type 0)
      (C : (rs : List Record) → Tells E end_of (chain rs) (met rs)) where
    done_tells : (found : Found) (deed : Deed) → rules.deed found ≡ deed → Tells E ends (done_by chain deed) (MeetsDeed at_none halts met found deed)
    done_tells found (Acts act) e = record { only = λ x. (made found act e x.text).only x; so = λ x. (made found act e x.text).so x }
    done_tells found (Chains match rs) e = record {
      only = λ x. (chained_tells (chain rs) (met rs) (C rs) (match x.text)).only x;
      so = λ x. (chained_tells (chain rs) (met rs) (C rs) (match x.text)).so x;
    }

  module _ (f : ℕ → Effect) (met : ℕ → Run → Type 0) (F : (k : ℕ) → Tells E ends (f k).does (met k)) where
    tried_only : (d l : ℕ) (r : Record) (v : Stage) → end_of (tried_by f d l r v) ≡ E → (end_of v ≡ E) ⊎ MeetsTry at_none halts met d l r v
    unfolding tried_by
    tried_only d zero r v h = absurd (short_not_over over h)
    tried_only zero (suc l) r v h = inr (deep.0 h)
    tried_only (suc d) (suc l) r v h = (F r.lookup).only (spending l v.run) h

    tried_so : (d l : ℕ) (r : Record) (v : Stage) → MeetsTry at_none halts met d l r v → end_of (tried_by f d l r v) ≡ E
    unfolding tried_by
    tried_so d zero r v m = absurd m
    tried_so zero (suc l) r v m = deep.1 m
    tried_so (suc d) (suc l) r v m = (F r.lookup).so (spending l v.run) m

    step_only : (d : ℕ) (r : Record) (v : Stage) → end_of (step_by f d r v) ≡ E
        → (end_of v ≡ E) ⊎ ((is_due r v ≡ true) × MeetsTry at_none halts met d v.run.tally.left r (arrived r v))
    step_only d r v = by (is_due r v) refl
      where
        by : (b : Bool) → is_due r v ≡ b → end_of (when b (due_by f d r) v) ≡ E
            → (end_of v ≡ E) ⊎ ((is_due r v ≡ true) × MeetsTry at_none halts met d v.run.tally.left r (arrived r v))
        by true e h = ⊎_elim (λ s. inl s) (λ m. inr (e, m)) (tried_only d v.run.tally.left r (arrived r v) h)
        by false e h = inl h

    step_so : (d : ℕ) (r : Record) (v : Stage) → is_due r v ≡ true → MeetsTry at_none halts met d v.run.tally.left r (arrived r v)
        → end_of (step_by f d r v) ≡ E
    step_so d r v e m = rw e (tried_so d v.run.tally.left r (arrived r v) m)

    -- once so, it stays so
    stays : (d : ℕ) (rs : List Record) (v : Stage) → end_of v ≡ E → end_of (records_by f d rs v) ≡ E
    stays d rs v e = ap end_of (over_stays f d rs v (ap is_over e ∙ over)) ∙ e

    records_tells : (d : ℕ) (rs : List Record) → Tells E end_of (records_by f d rs) (MeetsRecords at_none halts met f d rs)
    unfolding records_by MeetsRecords
    records_tells d [] = record { only = λ v h. inl h; so = λ v m. absurd m }
    records_tells d (r ∷ rs) = record {
      only = λ v h.
          ⊎_elim (λ s. ⊎_elim (λ o. inl o) (λ m. inr (inl m)) (step_only d r v s)) (λ m. inr (inr m)) ((records_tells d rs).only (step_by f d r v) h);
      so = λ v m. ⊎_elim (λ a. stays d rs (step_by f d r v) (step_so d r v a.0 a.1)) ((records_tells d rs).so (step_by f d r v)) m;
    }

  closed_same : (v : Stage) → end_of (closed v) ≡ end_of v
  unfolding closed
  closed_same v = by (not (is_over v.run.tally.ending))
    where
      by : (b : Bool) → ends (when b (changed (moved_to v.level.end)) v.run) ≡ end_of v
      by true = refl
      by false = refl

  closing_tells : (g : Stage → Stage) (met : Stage → Type 0) → Tells E end_of g met → Tells E end_of (λ v. closed (g v)) met
  closing_tells g met G = record { only = λ v h. G.only v (sym (closed_same (g v)) ∙ h); so = λ v m. closed_same (g v) ∙ G.so v m }

  chain_tells : (book : List Lookup) (d : ℕ) (rs : List Record) → Tells E end_of (chain_run rules book d rs) (Meets at_none halts rules book d rs)
  unfolding chain_run Meets
  chain_tells book zero rs =
      closing_tells _ _ (records_tells (acting (mending rules book) (λ k x. x)) (λ k x. ⊥)
      (λ k. record { only = λ x h. inl h; so = λ x m. absurd m }) zero rs)
  chain_tells book (suc d) rs =
      closing_tells _ _ (records_tells (acting (mending rules book) (lookup_run rules book d))
      (λ k. MeetsDeed at_none halts (Meets at_none halts rules book d) (lookup_at k book) (deed_at rules book k))
      (λ k. done_tells (chain_run rules book d) (Meets at_none halts rules book d) (chain_tells book d) (lookup_at k book) (deed_at rules book k)
      refl)
      (suc d) rs)

-- ---- Deep, and each reason

deep_made : (m : Made) → Tells Deep ends (made_in m) (λ x. ⊥)
deep_made (Into t) = record { only = λ x h. inl h; so = λ x z. absurd z }
deep_made (Halts why) = record { only = λ x h. absurd (reason_deep why h); so = λ x z. absurd z }

goes_on : {t : Text} {why : Reason} → Into t ≡ Halts why → ⊥
goes_on e = let z : ◌≡◌ {A = ℕ} 0 1 = cc in omega arith

halts_same : (w why : Reason) → Halts w ≡ Halts why → w ≡ why
halts_same w why e = cc

reason_made : (why : Reason) {M : Type 0} (m : Made) → (m ≡ Halts why) ↔ M → Tells (ending_for why) ends (made_in m) (λ x. M)
reason_made why (Into t) i = record { only = λ x h. inl h; so = λ x h. absurd (goes_on (i.1 h)) }
reason_made why (Halts w) i = record {
  only = λ x h. inr (i.0 (ap Halts (reason_same w why h)));
  so = λ x h. ap ending_for (halts_same w why (i.1 h));
}

module _ (rules : Rules) (book : List Lookup) (records : List Record) (positions : List ℕ) (end : ℕ) (t : Text) where
  abbrev first : ℕ → Stage
  first a = opened positions end (begun a t)

  pub deep_exactly : (d a : ℕ)
      → ((run_on rules book d records positions end a t).run.tally.ending ≡ Deep) ↔ MetDepth rules book d records (opened positions end (begun a t))
  deep_exactly d a =
      let c = chain_tells Deep refl (Unit {0}) (λ found u. ⊥) (λ e. tt, λ u. refl) rules (λ found act e u. deep_made (act u)) book d records in
      (λ e. ⊎_elim (λ h. absurd (finished_not_over refl h)) (λ m. m) (c.only (first a) e), c.so (first a))

  -- for any reason
  pub stopped_exactly : (why : Reason) (halts : Found → Text → Type 0) → Halting rules why halts → (d a : ℕ)
      → ((run_on rules book d records positions end a t).run.tally.ending ≡ ending_for why)
      ↔ MetReason halts rules book d records (opened positions end (begun a t))
  stopped_exactly why halts told d a =
      let c = chain_tells (ending_for why) (reason_over why) ⊥ halts (λ e. reason_deep why (sym e), λ z. absurd z) rules
      (λ found act e u. reason_made why (act u) (told found act e u)) book d records in
      (λ e. ⊎_elim (λ h. absurd (finished_not_over (reason_over why) h)) (λ m. m) (c.only (first a) e), c.so (first a))
