-- Where the record is due its position is in the text; the move and the judgement are the definition's. Assumes nothing.
use Rattle.std.proofs.Common.{ap, sym, ◌∙◌}
use Rattle.run_step.specs.declared.State.{State}
use Rattle.run_step.specs.State.{judged_at}
use Rattle.run_step.specs.Steps.{due_shown, prepared_none, prepared_due}
use Rattle.run_step.proofs.prepare.Goals as goal

pub returns-then-not-is_due : goal.returns-then-not-is_due
returns-then-not-is_due c =
    let a = c.args in
    prepared_none a.done.now a.coming.now a.s a.lv a.seq a.depth c.requires
    (sym c.is_due.ensures ∙ c.if-not-is_due.true)

pub returns : goal.returns
returns c =
    let a = c.args in
    let is = sym c.is_due.ensures ∙ c.if-not-is_due.false in
    let told = c.judge.ensures ∙ ap (λ (x : State). judged_at a.depth x.left x a.lv) c.parted.ensures in
    prepared_due a.done.now a.coming.now a.s a.lv a.seq _ _ _ a.depth _ c.judge.result c.requires is
    (due_shown a.done.now a.coming.now a.s a.lv a.seq c.requires is).2 c.move_to-place.ensures told
