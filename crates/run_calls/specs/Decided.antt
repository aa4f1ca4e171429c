-- No second answer: what the run's contract says decides the answer and every word of both rows, refusals too.
use Rattle.std.specs.Prelude.{◌≡◌, List, ℕ, ⊤, Result, Ok, Err}
use Rattle.std.proofs.Common.{sym, ◌∙◌}
use Rattle.glyph.specs.Lossless.{Small}
use Rattle.text.specs.declared.Place.{Place}
use Rattle.text.specs.Decided.{decided}
use Rattle.run.specs.Run.{Stage}
use Rattle.run.specs.declared.RunRefusal.{RunRefusal}
use Rattle.run_calls.specs.declared.RunAnswer.{RunAnswer}
use Rattle.run_calls.specs.Calls.{RunLeaves, SaidBy}

-- the same answer and the same rows
pub record SameRun (done coming : List ℕ) (r : Result RunAnswer RunRefusal) (done' coming' : List ℕ) (r' : Result RunAnswer RunRefusal) : Type 0 where
  pub answer : r ≡ r'
  pub done_same : done ≡ done'
  pub coming_same : coming ≡ coming'

whole_decided : (v : Stage) (done coming : List ℕ) (r : RunAnswer) (done' coming' : List ℕ) (r' : RunAnswer) → Small done → Small coming → Small done'
    → Small coming'
    → RunLeaves v done coming r → RunLeaves v done' coming' r' → SameRun done coming (Ok r) done' coming' (Ok r')
whole_decided v done coming r done' coming' r' a b a' b' w w' =
    let p : Place = record { d = r.d; idx = r.idx } in
    let p' : Place = record { d = r'.d; idx = r'.idx } in
    let s = decided done coming done' coming' p p' v.run.text a b a' b' w.holds w.clear w'.holds w'.clear in
    let e = w.ending ∙ sym w'.ending in
    let n = w.spent ∙ sym w'.spent in
    let k = w.count ∙ sym w'.count in
    let q = w.positions ∙ sym w'.positions in
    record {
      answer = λ j. Ok (record { ending = e j; spent = n j; d = s.d_same j; idx = s.idx_same j; count = k j; positions = q j });
      done_same = s.done_same;
      coming_same = s.coming_same;
    }

-- two answers to one call
pub run_decided : (k : Result ⊤ RunRefusal) (v : Stage) (done₀ coming₀ done coming : List ℕ) (r : Result RunAnswer RunRefusal)
    (done' coming' : List ℕ) (r' : Result RunAnswer RunRefusal)
    → Small done → Small coming → Small done' → Small coming'
    → SaidBy k v done₀ coming₀ done coming r → SaidBy k v done₀ coming₀ done' coming' r' → SameRun done coming r done' coming' r'
run_decided (Err why) v done₀ coming₀ done coming r done' coming' r' a b a' b' s s' =
    record { answer = s.0 ∙ sym s'.0; done_same = s.1 ∙ sym s'.1; coming_same = s.2 ∙ sym s'.2 }
run_decided (Ok ok) v done₀ coming₀ done coming (Ok r) done' coming' (Ok r') a b a' b' s s' =
    whole_decided v done coming r done' coming' r' a b a' b' s s'
run_decided (Ok ok) v done₀ coming₀ done coming (Ok r) done' coming' (Err why) a b a' b' s s' = absurd s'
run_decided (Ok ok) v done₀ coming₀ done coming (Err why) done' coming' r' a b a' b' s s' = absurd s
