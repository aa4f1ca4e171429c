-- The lines that end in 0A, and the last one that doesn't. Assumes nothing.
use Rattle.std.proofs.Common.{ap, arith, length, take, ◌∙◌, ◌≡◌, ◌≤◌}
use Rattle.tape_answer.specs.Tape.{last_answer}
use Rattle.bench_tape.specs.TakingLaws.{front_stored, on_both, tape_answered}
use Rattle.bench_tape.proofs.run.Goals as goal

pub returns : goal.returns
returns g c =
    let last = c.answer_last-end in
    let read = c.read_all-sent in
    let kept = read.new.kept in
    let room : last.result ≤ length read.new.out = omega (arith, last.ensures.upper_bound) in
    let said : take last.result last.new.out ≡ last_answer kept =
    front_stored _ _ _ _ last.ensures.puts room ∙ ap last_answer c.bytes.ensures in
    on_both _ read.result c.send.result read.ensures.written c.send.ensures.lost c.send.ensures.written
    (λ so p. tape_answered kept _ _ so _ (rw said at p))
