-- A match and no match: the bytes that the definition has. Assumes nothing.
use Rattle.std.proofs.Common.{arith, length, length-take-le, take, ◌≡◌}
use Rattle.tape_answer.specs.AnswerLaws.{reply_matched, reply_without}
use Rattle.tape_answer.proofs.put_answer.Goals as goal

pub returns-in-Ok-clause-puts : goal.returns-in-Ok-clause-puts
returns-in-Ok-clause-puts c =
    let m = c.args.m in
    let n = c.min.result in
    let size : length (take n m.positions) ≡ n = length-take-le n m.positions (omega arith) in
    rw (reply_matched m c.in-Ok.found n c.in-Ok.is c.min.ensures (omega arith)) (rw size at c.put_matched.ensures.puts)

pub returns-in-Err-clause-puts : goal.returns-in-Err-clause-puts
returns-in-Err-clause-puts c = rw (reply_without c.args.m c.in-Err.no c.in-Err.is) c.put_no_match.ensures.puts
