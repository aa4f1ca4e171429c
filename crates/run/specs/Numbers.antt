-- 01's number of each way in which a run ends or is refused; a run that is Finished has none there, 0 is our choice.
use Rattle.std.specs.Prelude.{ℕ, Result, Ok, Err}
use Rattle.run.specs.declared.Ending.{Ending}
use Rattle.run.specs.declared.Ending.TheVariants.{Finished, Short, Deep, Full}
use Rattle.run.specs.declared.RunRefusal.{RunRefusal}
use Rattle.run.specs.declared.RunRefusal.TheVariants.{Shape, Cursor, Limits, Book, Match}

abbrev pub ending_number : Ending → ℕ
ending_number Finished = 0
ending_number Short = 8
ending_number Deep = 9
ending_number Full = 10

abbrev pub run_refusal_number : RunRefusal → ℕ
run_refusal_number Shape = 1
run_refusal_number Cursor = 2
run_refusal_number Limits = 12
run_refusal_number Book = 11
run_refusal_number Match = 7

abbrev pub run_number : Result Ending RunRefusal → ℕ
run_number (Ok e) = ending_number e
run_number (Err why) = run_refusal_number why
