-- Where the turns that are left end in a tally, all of them end in it. Assumes nothing.
use Rattle.std.proofs.Common.{◌-◌}
use Rattle.stored.specs.Replay.{ReplayedTo}
use Rattle.stored.proofs.replay.Given as goal

abbrev pub invariant-loop : goal.invariant-loop
invariant-loop g l = (last : _) → ReplayedTo g.T.Tally.line_gives l.words l.count (l.count - l.counter) l.tally l.at last
    → ReplayedTo g.T.Tally.line_gives l.words l.count l.count l.initial.tally 0 last
