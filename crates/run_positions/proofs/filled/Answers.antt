-- Each turn fills a slot; the slots past these are 0 from the beginning. Assumes nothing.
use Rattle.std.proofs.Common.{arith, length-set, refl}
use Rattle.run_positions.specs.Laws.{filled_more, none_at, none_more}
use Rattle.run_positions.proofs.filled.Goals as goal

pub loop-j-init : goal.loop-j-init
loop-j-init g c = record { long = refl; held = λ k h. let z : ⊥ = omega arith in absurd z; rest = λ k h. none_at k }

pub loop-j-preserved : goal.loop-j-preserved
loop-j-preserved g c =
    let l = c.loop-j in
    record {
      long = simp length-set l.invariant.long;
      held = filled_more (goal.F-post g c.args.slot) l.out l.j _ (omega arith) l.invariant.held c.slot.ensures;
      rest = none_more l.out l.j _ l.invariant.rest;
    }
