-- `feed` takes a part of what is left, and what it answers is handed to a write. Assumes nothing.
use Rattle.std.proofs.Common.{arith}
use Rattle.tape_answer.specs.Pieces.{line_rest, answers_rest}
use Rattle.bench_tape.proofs.take_part.Goals as goal

pub returns-clause-part_taken : goal.returns-clause-part_taken
returns-clause-part_taken g c = let a = c.args in
    let fed = c.feed-fed in
    let taken = fed.ensures.from_lt_at in
    record {
      onward = taken.0;
      within = taken.1;
      fits = omega (arith, fed.ensures.kept_len, taken.2);
      answers =
          answers_rest a.piece.now a.from a.kept.now a.out.now 0 _ fed.result.at fed.new.self fed.new.out fed.result.written
          fed.ensures.feeds taken.3;
      leaves = line_rest a.piece.now a.from a.kept.now a.out.now 0 _ fed.result.at fed.new.self fed.new.out fed.result.written fed.ensures.feeds;
    }
