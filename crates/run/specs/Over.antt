-- After Deep or Full no record at any level is looked at again, and no level ends by a move (01, "Records over a text"): where a run is over, for
-- whatever reason, a level's records leave everything as it is; levels above only repair their positions for what was changed below them.
use Rattle.std.specs.Prelude.{◌≡◌, Bool, true, false, ◌&&◌, ℕ, zero, suc}
use Rattle.std.proofs.Math.Path.{refl, ap}
use Rattle.std.proofs.Common.{sym, ◌∙◌, true≢false}
use mathlib.Core.List.{List, [], ◌∷◌}
use Rattle.book.specs.Book.{Record, Lookup}
use Rattle.run.specs.declared.Ending.{Ending}
use Rattle.run.specs.declared.Ending.TheVariants.{Finished, Short}
use Rattle.run.specs.Repair.{Repairing}
use Rattle.run.specs.Run.{Run, Stage, Effect, Rules, Reason, PastLimit, ending_for, is_over, is_due}
use Rattle.run.specs.Run.{followed_by, step_by, records_by, closed, chain_run, acting, mending, lookup_run}

-- ---- what is over

-- each reason is a line
pub reason_over : (why : Reason) → is_over (ending_for why) ≡ true
reason_over PastLimit = refl

-- what goes on isn't over
pub short_not_over : {e : Ending} → is_over e ≡ true → Short ≡ e → ⊥
short_not_over o e = true≢false (sym o ∙ ap is_over (sym e))

pub finished_not_over : {e : Ending} → is_over e ≡ true → Finished ≡ e → ⊥
finished_not_over o e = true≢false (sym o ∙ ap is_over (sym e))

-- ---- no record is due

pub over_not_due : (r : Record) (v : Stage) → is_over v.run.tally.ending ≡ true → is_due r v ≡ false
over_not_due r v e = rw e (by v.level.live)
  where
    by : (b : Bool) → (b && false) ≡ false
    by true = refl
    by false = refl

module _ (effects : ℕ → Effect) (depth : ℕ) where
  step_over : (r : Record) (v : Stage) → is_over v.run.tally.ending ≡ true → step_by effects depth r v ≡ v
  step_over r v e = rw (over_not_due r v e)

  pub over_stays : (rs : List Record) (v : Stage) → is_over v.run.tally.ending ≡ true → records_by effects depth rs v ≡ v
  unfolding records_by
  over_stays [] v e = refl
  over_stays (r ∷ rs) v e = ap (records_by effects depth rs) (step_over r v e) ∙ over_stays rs v e

pub over_unmoved : (v : Stage) → is_over v.run.tally.ending ≡ true → closed v ≡ v
unfolding closed
over_unmoved v e = rw e

-- so of a whole level
pub over_level : (rules : Rules) (book : List Lookup) (depth : ℕ) (rs : List Record) (v : Stage) → is_over v.run.tally.ending ≡ true
    → chain_run rules book depth rs v ≡ v
unfolding chain_run
over_level rules book zero rs v e = ap closed (over_stays (acting (mending rules book) (λ k x. x)) zero rs v e) ∙ over_unmoved v e
over_level rules book (suc d) rs v e = ap closed (over_stays (acting (mending rules book) (lookup_run rules book d)) (suc d) rs v e)
    ∙ over_unmoved v e

-- and of a level above: the record's lookup left the run y, which is over; its positions are repaired, and that is all
pub over_above : (repair : Repairing) (effects : ℕ → Effect) (depth : ℕ) (r : Record) (rs : List Record) (v : Stage) (y : Run)
    → is_over y.tally.ending ≡ true
    → closed (records_by effects depth rs (followed_by repair r v y)) ≡ followed_by repair r v y
over_above repair effects depth r rs v y e = ap closed (over_stays effects depth rs (followed_by repair r v y) e)
    ∙ over_unmoved (followed_by repair r v y) e
