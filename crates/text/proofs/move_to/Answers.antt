-- Forth or back, the glyphs between the two places go from one row to the other, which leaves the text. Assumes nothing.
use Rattle.std.proofs.Common.{rules}
use Rattle.text.specs.Laws.{moved_forth, moved_back}
use Rattle.text.proofs.move_to.Goals as goal

pub returns-then-d-p : goal.returns-then-d-p
returns-then-d-p c =
    moved_forth c.args.done.now c.args.coming.now c.args.s c.requires.0 c.copy.new.to c.args.p
    c.copy.auto.to (search rules) c.requires.1 c.copy.ensures

pub returns : goal.returns
returns c =
    moved_back c.args.done.now c.args.coming.now c.args.s c.requires.0 c.copy-2.new.to c.args.p
    c.copy-2.auto.to (search rules) c.copy-2.ensures
