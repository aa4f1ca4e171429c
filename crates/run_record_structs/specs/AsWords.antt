-- The run on structs answers as the run on the same pairs in words: what the two contracts say leaves one answer, and one word for each cell of both
-- rows.
use Rattle.std.specs.Prelude.{◌≡◌, List, ℕ, Result}
use Rattle.std.proofs.Common.{subst}
use Rattle.glyph.specs.Lossless.{Small}
use Rattle.text.specs.declared.Place.{Place}
use Rattle.matching.specs.declared.InputMatch.{InputMatch}
use Rattle.run.specs.declared.Given.{Given}
use Rattle.run.specs.declared.RunRefusal.{RunRefusal}
use Rattle.run_calls.specs.declared.RunAnswer.{RunAnswer}
use Rattle.run_calls.specs.Calls.{Handed, checked_all, run_says}
use Rattle.run_calls.specs.Decided.{SameRun, run_decided}
use Rattle.run_record_structs.specs.declared.Record.{Record}
use Rattle.run_record_structs.specs.Records.{record_words}
use Rattle.run_record_structs.specs.Laws.{SaidOf}

module _ (done coming : List ℕ) (place : Place) (sets book : List ℕ) (m : InputMatch) (given : Given) (allowance depth : ℕ) where
  pub as_the_words : (rs : List Record) (words : List ℕ) → words ≡ record_words rs
      → (done' coming' : List ℕ) (r : Result RunAnswer RunRefusal) (done'' coming'' : List ℕ) (r' : Result RunAnswer RunRefusal)
      → Small done' → Small coming' → Small done'' → Small coming''
      → SaidOf done coming place sets book m given allowance depth done' coming' r (record_words rs)
      → SaidOf done coming place sets book m given allowance depth done'' coming'' r' words
      → SameRun done' coming' r done'' coming'' r'
  as_the_words rs words e done' coming' r done'' coming'' r' a b a' b' structs as_words =
      let h : Handed = record {
        done = done;
        coming = coming;
        place = place;
        sets = sets;
        book = book;
        records = record_words rs;
        match = m;
        given = given;
      } in
      run_decided (checked_all h allowance depth) (run_says h allowance depth) done coming done' coming' r done'' coming'' r' a b a' b' structs
      (subst (SaidOf done coming place sets book m given allowance depth done'' coming'' r') e as_words)
