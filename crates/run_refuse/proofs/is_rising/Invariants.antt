use Rattle.std.proofs.Common.{drop, ◌≡◌}
use Rattle.run_refuse.specs.Refuse.{rises_to}
use Rattle.run_refuse.proofs.is_rising.Given as goal

-- what is left from here says what the whole says
abbrev pub invariant-loop-place : goal.invariant-loop-place
invariant-loop-place l = rises_to l.from l.end l.places ≡ rises_to l.low l.end (drop l.place-index l.places)
