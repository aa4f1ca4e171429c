use Rattle.walk_stretch.specs.Outside.{AdmitsTo}
use Rattle.walk_stretch.proofs.digest_of.Given as goal

abbrev pub invariant-loop-k : goal.invariant-loop-k
invariant-loop-k l = AdmitsTo l.d l.sets l.set l.k
