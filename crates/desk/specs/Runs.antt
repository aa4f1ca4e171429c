-- For C, a layout of our own: what a run is handed and answers as numbers.
use Rattle.std.specs.Prelude.{ℕ, [], Result, Ok, Err}
use Rattle.matching.specs.declared.InputMatch.{InputMatch}
use Rattle.run.specs.declared.Given.{Given}
use Rattle.run.specs.declared.RunRefusal.{RunRefusal}
use Rattle.run_calls.specs.declared.RunAnswer.{RunAnswer}
use Rattle.matching.specs.Answers.{answer_from, slotted}
use Rattle.run.specs.Numbers.{ending_number, run_refusal_number}
use Rattle.desk.specs.declared.matches.Matched.{Matched}
use Rattle.desk.specs.declared.nestings.Switches.{Switches}
use Rattle.desk.specs.declared.nestings.Ran.{Ran}

abbrev pub match_from : Matched → InputMatch
match_from m = record { answer = answer_from m.number m.end m.total; count = m.count; positions = m.positions }

abbrev pub given_from : Switches → Given
given_from s = record { zwnj = s.zwnj; zwj = s.zwj; syllables = s.syllables; mask = s.mask }

-- a refusal: its number, and 0 everywhere else
abbrev pub refused_ran : ℕ → Ran
refused_ran n = record { number = n; spent = 0; d = 0; idx = 0; count = 0; positions = slotted [] }

abbrev pub ran_of : Result RunAnswer RunRefusal → Ran
ran_of (Ok a) = record {
  number = ending_number a.ending;
  spent = a.spent;
  d = a.d;
  idx = a.idx;
  count = a.count;
  positions = a.positions;
}
ran_of (Err why) = refused_ran (run_refusal_number why)
