use Rattle.std.proofs.Common.{[], ◌-◌, ◌≡◌}
use Rattle.verdict.specs.Verdict.{value_of}
use Rattle.walker.specs.Walker.{nth_of}
use Rattle.walker.proofs.nth.Given as goal

abbrev pub invariant-loop : goal.invariant-loop
invariant-loop l = nth_of l.row l.len l.place l.n l.m (value_of l.sign []) l.syllable l.sets
    ≡ nth_of l.row l.len l.at (l.n - l.counter) l.m (value_of l.sign []) l.syllable l.sets
