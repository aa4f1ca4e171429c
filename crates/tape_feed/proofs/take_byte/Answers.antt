-- The byte ends the line, is kept after it, or only makes a long line longer. Assumes nothing.
use Rattle.std.proofs.Common.{sym, take}
use borrow.Author.Tests.{ne_eqb}
use Rattle.tape_answer.specs.Line.{newline}
use Rattle.tape_answer.specs.Feeding.{line_after}
use Rattle.tape_answer.specs.TapeLaws.{after_newline, answer_newline, answer_other}
use Rattle.tape_feed.proofs.take_byte.Goals as goal

pub returns-then-b-eq-NEWLINE-clause-kept_after : goal.returns-then-b-eq-NEWLINE-clause-kept_after
returns-then-b-eq-NEWLINE-clause-kept_after c =
    sym (after_newline (take c.args.n c.args.kept.now) c.args.b c.if-b-eq-NEWLINE.true)

pub returns-then-b-eq-NEWLINE-clause-puts : goal.returns-then-b-eq-NEWLINE-clause-puts
returns-then-b-eq-NEWLINE-clause-puts c =
    rw (answer_newline (take c.args.n c.args.kept.now) c.args.b c.if-b-eq-NEWLINE.true) c.answer_line-end.ensures.puts

pub returns-clause-kept_after : goal.returns-clause-kept_after
unfolding line_after
returns-clause-kept_after c = rw (ne_eqb c.args.b newline c.if-b-eq-NEWLINE.false) c.keep.ensures.kept_after

pub returns-clause-puts : goal.returns-clause-puts
returns-clause-puts c =
    answer_other (take c.args.n c.args.kept.now) c.args.b c.if-b-eq-NEWLINE.false c.args.out.now c.args.m
