-- The parts that are handed on are the frame's lists. Assumes nothing.
use Rattle.tape_answer.specs.Asking.{asked}
use Rattle.tape_feed.proofs.ask.Goals as goal

pub returns : goal.returns
unfolding asked
returns c = c.match_input.ensures
