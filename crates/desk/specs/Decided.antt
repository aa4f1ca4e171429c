-- No second answer: what `cb_run`'s contract says decides every number of its answer and every word of both rows, refusals too.
use Rattle.std.specs.Prelude.{◌≡◌, List, ℕ, Result}
use Rattle.std.proofs.Common.{sym, ap, ◌∙◌}
use Rattle.glyph.specs.Lossless.{Small}
use Rattle.text.specs.declared.Place.{Place}
use Rattle.run.specs.declared.RunRefusal.{RunRefusal}
use Rattle.run_calls.specs.declared.RunAnswer.{RunAnswer}
use Rattle.run_calls.specs.Calls.{Handed, checked_all, run_says, Said}
use Rattle.run_calls.specs.Decided.{run_decided}
use Rattle.desk.specs.declared.matches.Matched.{Matched}
use Rattle.desk.specs.declared.nestings.Switches.{Switches}
use Rattle.desk.specs.declared.nestings.Ran.{Ran}
use Rattle.desk.specs.Runs.{match_from, given_from, ran_of}

module _ (done coming : List ℕ) (place : Place) (sets book records : List ℕ) (matched : Matched) (switches : Switches) (allowance depth : ℕ) where
  abbrev handed : Handed
  handed = record {
    done = done;
    coming = coming;
    place = place;
    sets = sets;
    book = book;
    records = records;
    match = match_from matched;
    given = given_from switches;
  }

  -- what the contract says of the rows after the call and of its answer
  abbrev pub Ended : List ℕ → List ℕ → Ran → Type 0
  Ended done' coming' r =
      (a : Result RunAnswer RunRefusal)
      × (Said handed allowance depth done' coming' a × (r ≡ ran_of a))

  pub ran_decided : (done' coming' : List ℕ) (r : Ran) (done'' coming'' : List ℕ) (r' : Ran) → Small done' → Small coming' → Small done''
      → Small coming''
      → Ended done' coming' r → Ended done'' coming'' r' → (r ≡ r') × (done' ≡ done'') × (coming' ≡ coming'')
  ran_decided done' coming' r done'' coming'' r' a b a' b' s s' =
      let same =
      run_decided (checked_all handed allowance depth) (run_says handed allowance depth) done coming done' coming' s.0 done'' coming''
      s'.0 a b a' b' s.1.0 s'.1.0 in
      (s.1.1 ∙ ap ran_of same.answer ∙ sym s'.1.1, same.done_same, same.coming_same)
