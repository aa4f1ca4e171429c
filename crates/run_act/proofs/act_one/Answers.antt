-- The glyph that was read is the cursor's. Assumes nothing.
use Rattle.std.proofs.Common.{arith}
use Rattle.text.specs.Laws.{sizes}
use Rattle.run_act.specs.Laws.{one_off, one_on_lem}
use Rattle.run_act.proofs.act_one.Goals as goal

pub read-g-requires : goal.read-g-requires
read-g-requires c =
    let f = sizes c.args.done.now c.args.coming.now c.args.s.place c.requires.0 in
    omega arith

pub returns-then-g-from : goal.returns-then-g-from
returns-then-g-from c =
    let a = c.args in
    let g = c.read-g in
    one_off a.done.now a.coming.now a.s c.requires.0 g.result g.ensures a.from a.to c.if-g-from.true

pub returns : goal.returns
returns c =
    let a = c.args in
    let g = c.read-g in
    rw c.parted.ensures
    (one_on_lem a.done.now a.coming.now a.s c.requires.0 g.result g.ensures a.from a.to _ _ c.if-g-from.false c.replace_one-place.ensures)
