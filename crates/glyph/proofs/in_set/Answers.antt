-- The sets have the pair exactly when one of the first k pairs was it, which `hit` says, or one from there on is. Assumes nothing.
use Rattle.std.proofs.Common.{arith, sym, ◌∙◌}
use Rattle.glyph.specs.SetLaws.{pair_step, pair_end}
use Rattle.glyph.proofs.in_set.Goals as goal

pub loop-k-preserved : goal.loop-k-preserved
loop-k-preserved c =
    let a = c.args in
    let l = c.loop-k in
    l.invariant ∙ pair_step a.sets.now l.k a.set a.id l.hit (omega arith)

pub returns : goal.returns
returns c =
    let a = c.args in
    let l = c.loop-k in
    sym (l.invariant ∙ pair_end a.sets.now l.k a.set a.id l.hit (omega arith))
