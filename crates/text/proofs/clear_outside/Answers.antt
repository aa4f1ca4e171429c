-- What is cleared lies past d in `done` and before idx in `coming`, which is in neither part. Assumes nothing.
use Rattle.std.proofs.Common.{arith}
use Rattle.glyph.specs.Glyph.{limit}
use Rattle.text.specs.Laws.{sizes, cleared_is}
use Rattle.text.proofs.clear_outside.Goals as goal

pub clear-requires : goal.clear-requires
unfolding limit
clear-requires c =
    let z = sizes c.args.done.now c.args.coming.now c.args.s c.requires in omega arith

pub clear-requires-2 : goal.clear-requires-2
clear-requires-2 c =
    let z = sizes c.args.done.now c.args.coming.now c.args.s c.requires in omega arith

pub returns : goal.returns
unfolding limit
returns c =
    let y = c.clear in
    let x = c.clear-2 in
    cleared_is c.args.done.now c.args.coming.now c.args.s c.requires y.new.row x.new.row y.auto.row x.auto.row y.ensures
    x.ensures
