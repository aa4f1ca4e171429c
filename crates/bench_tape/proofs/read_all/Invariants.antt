use Rattle.bench_tape.specs.Taking.{Answered}
use Rattle.bench_tape.proofs.read_all.Given as goal

abbrev pub invariant-loop : goal.invariant-loop
invariant-loop g l = Answered l.kept (g.W.Write.contents l.initial.stdout) (g.W.Write.contents l.stdout)
