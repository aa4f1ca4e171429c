-- What is taken so far and the next part is what is taken after it; at the end it is the piece. Assumes nothing.
use Rattle.std.proofs.Common.{drop, sym, ◌∙◌}
use Rattle.tape_answer.specs.Feeding.{line_left}
use Rattle.bench_tape.specs.TakingLaws.{part_more, taken_all, left_all, on_ok, on_both}
use Rattle.bench_tape.proofs.take_piece.Goals as goal

pub loop-at-preserved : goal.loop-at-preserved
loop-at-preserved g c =
    let part = c.take_part-part in
    let l = c.loop-at in (
      part.ensures.part_taken.within,
      ◌∙◌ {b = line_left l.kept (drop l.at c.args.piece.now)} part.ensures.part_taken.leaves l.invariant.1,
      on_both _ l.sent part.result.sent l.invariant.2 part.ensures.lost part.ensures.written
          (λ so w. part_more _ _ _ _ _ _ so _ _ _ _ part.ensures.part_taken w),
    )

pub returns-clause-kept_after : goal.returns-clause-kept_after
returns-clause-kept_after g c = let l = c.loop-at in
    sym (left_all c.args.piece.now l.kept l.at c.loop-at-test.false) ∙ l.invariant.1

pub returns-clause-written : goal.returns-clause-written
returns-clause-written g c = let l = c.loop-at in
    on_ok l.sent l.invariant.2 (λ so. taken_all _ _ _ _ _ _ so c.loop-at-test.false)
