-- A reply tells the case that it is of: a refusal's number no ending has, and no two endings have one number.
use Rattle.std.specs.Prelude.{◌≡◌, refl, Bool, true, false, cond, List, [], ◌↔◌, ℕ, ⊤, Result, Ok, Err, eqb}
use Rattle.std.specs.Result.{IsOkAnd}
use Rattle.std.proofs.Common.{sym, ap, ◌∙◌, true≢false, inl, inr, ⊎_elim, arith, eq-eqb}
use Rattle.std.proofs.Math.Option.{some, some_inj, none-ne-some}
use Rattle.glyph.specs.Reply.{replies, number_in, has_values, apart_by}
use Rattle.run.specs.declared.Ending.{Ending}
use Rattle.run.specs.declared.Ending.TheVariants.{Finished, Short, Deep, Full}
use Rattle.run.specs.Run.{Stage}
use Rattle.run.specs.declared.RunRefusal.{RunRefusal}
use Rattle.run.specs.declared.RunRefusal.TheVariants.{Shape, Cursor, Limits, Book, Match}
use Rattle.run_calls.specs.declared.RunAnswer.{RunAnswer}
use Rattle.run.specs.Numbers.{ending_number, run_refusal_number}
use Rattle.run_calls.specs.Calls.{SaidBy, RunLeaves, refused_by, checked_number, run_reply}
use Rattle.run_calls.specs.Handed.{Ends}

pub refused_reply : (r : Result RunAnswer RunRefusal) (why : RunRefusal) → r ≡ refused_by why → run_reply r ≡ replies (run_refusal_number why) []
refused_reply r why q = rw q

pub ended_number : (r : Result RunAnswer RunRefusal) (e : Ending) → IsOkAnd r (λ x. x.ending ≡ e) → (run_reply r).number ≡ ending_number e
ended_number (Ok r) e q = rw q
ended_number (Err why) e q = absurd q

-- the number of what a run leaves
pub leaves_number : (v : Stage) (done coming : List ℕ) (r : Result RunAnswer RunRefusal) → IsOkAnd r (RunLeaves v done coming)
    → (run_reply r).number ≡ ending_number v.run.tally.ending
leaves_number v done coming (Ok r) w = rw w.ending
leaves_number v done coming (Err why) w = absurd w

-- ---- numbers tell apart

abbrev pub ending_by : ℕ → Ending
ending_by n = cond (eqb n 8) Short (cond (eqb n 9) Deep (cond (eqb n 10) Full Finished))

pub ending_back : (e : Ending) → ending_by (ending_number e) ≡ e
ending_back Finished = refl
ending_back Short = refl
ending_back Deep = refl
ending_back Full = refl

-- a number that an ending has
abbrev is_ending : ℕ → Bool
is_ending n = eqb (ending_number (ending_by n)) n

ends : (e : Ending) → is_ending (ending_number e) ≡ true
ends e = eq-eqb (ending_number (ending_by (ending_number e))) (ending_number e) (ap ending_number (ending_back e))

refuses : (why : RunRefusal) → is_ending (run_refusal_number why) ≡ false
refuses Shape = refl
refuses Cursor = refl
refuses Limits = refl
refuses Book = refl
refuses Match = refl

-- an ending's number ends a run, and a refusal's doesn't
pub ending_ends : (e : Ending) → Ends (ending_number e)
ending_ends Finished = inl refl
ending_ends Short = inr (inl refl)
ending_ends Deep = inr (inr (inl refl))
ending_ends Full = inr (inr (inr refl))

ends_tell : (n : ℕ) → Ends n → is_ending n ≡ true
ends_tell n = ⊎_elim (ap is_ending) (⊎_elim (ap is_ending) (⊎_elim (ap is_ending) (ap is_ending)))

pub refusal_not_end : (why : RunRefusal) → Ends (run_refusal_number why) → ⊥
refusal_not_end why e = true≢false (sym (ends_tell (run_refusal_number why) e) ∙ refuses why)

-- ---- what a reply of a call tells

-- an ending has values
pub no_values : (v : Stage) (done coming : List ℕ) (r : Result RunAnswer RunRefusal) → IsOkAnd r (RunLeaves v done coming) → (n : ℕ)
    → run_reply r ≡ replies n [] → ⊥
no_values v done coming (Ok r) w n e = has_values e
no_values v done coming (Err why) w n e = w

-- a number with no values is a refusal's
pub told_refused : (k : Result ⊤ RunRefusal) (v : Stage) (done coming done' coming' : List ℕ) (r : Result RunAnswer RunRefusal) (n : ℕ)
    → SaidBy k v done coming done' coming' r → (run_reply r ≡ replies n []) ↔ (checked_number k ≡ some n)
told_refused (Err w) v done coming done' coming' r n s = (
  λ e. ap some (ap number_in (sym (refused_reply r w s.0) ∙ e)),
  λ e. refused_reply r w s.0 ∙ ap (λ (k : ℕ). replies k []) (some_inj.0 e),
)
told_refused (Ok ok) v done coming done' coming' r n s =
    (λ e. absurd (no_values v done' coming' r s n e), λ e. absurd (none-ne-some n e))

-- an ending's number is that ending's
pub told_ended : (k : Result ⊤ RunRefusal) (v : Stage) (done coming done' coming' : List ℕ) (r : Result RunAnswer RunRefusal) (e : Ending)
    → SaidBy k v done coming done' coming' r → ((run_reply r).number ≡ ending_number e) ↔ ((k ≡ Ok tt) × (v.run.tally.ending ≡ e))
told_ended (Err w) v done coming done' coming' r e s = (
  λ z.
      let same : run_refusal_number w ≡ ending_number e = ap number_in (sym (refused_reply r w s.0)) ∙ z in
      absurd (apart_by is_ending (ending_number e) (run_refusal_number w) (ends e) (refuses w) (sym same)),
  λ h. let o = h.0 in let z : ◌≡◌ {A = ℕ} 0 1 = cc in absurd (omega arith),
)
told_ended (Ok ok) v done coming done' coming' r e s = (
  λ z. (refl, sym (ending_back v.run.tally.ending) ∙ ap ending_by (sym (leaves_number v done' coming' r s) ∙ z) ∙ ending_back e),
  λ h. leaves_number v done' coming' r s ∙ ap ending_number h.1,
)
