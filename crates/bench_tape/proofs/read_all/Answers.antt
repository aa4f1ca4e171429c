-- The line kept is the one that the reads so far leave, one after the other, and their answers are written. Assumes nothing.
use Rattle.std.proofs.Common.{ap, ◌∙◌}
use Rattle.std.specs.Result.{result_from_control_flow}
use Rattle.bench_tape.specs.TakingLaws.{answered_none, answered_more, line_answered, line_more, if_ok}
use Rattle.bench_tape.proofs.read_all.Goals as goal

pub loop-init : goal.loop-init
loop-init g c = rw c.clear.ensures (answered_none _)

pub loop-preserved : goal.loop-preserved
loop-preserved g c =
    answered_more _ _ _ c.loop.invariant _ _ _
    (if_ok _ c.one_read-turn.ensures.written _ (c.branch-turn.ensures ∙ ap result_from_control_flow c.in_ok-turn.is))

pub returns-then-turn-eq0-clause-written : goal.returns-then-turn-eq0-clause-written
returns-then-turn-eq0-clause-written g c =
    answered_more _ _ _ c.loop.invariant _ _ _
    (if_ok _ c.one_read-turn.ensures.written _ (c.branch-turn.ensures ∙ ap result_from_control_flow c.in_ok-turn.is))

pub returns-then-turn-eq0-clause-line_of : goal.returns-then-turn-eq0-clause-line_of
returns-then-turn-eq0-clause-line_of g c = line_more _ (line_answered _ _ _ c.loop.invariant) _ _ c.one_read-turn.ensures.kept_after

pub returns-in_err-turn-clause-line_of : goal.returns-in_err-turn-clause-line_of
returns-in_err-turn-clause-line_of g c = line_more _ (line_answered _ _ _ c.loop.invariant) _ _ c.one_read-turn.ensures.kept_after

pub returns-after-loop-clause-line_of : goal.returns-after-loop-clause-line_of
returns-after-loop-clause-line_of g c = line_answered _ _ _ c.loop.invariant
