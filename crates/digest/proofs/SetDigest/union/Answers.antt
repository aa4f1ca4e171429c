-- A turn makes one mask more, joined of two. Assumes nothing.
use Rattle.std.proofs.Common.{get_or, arith, length-set}
use Rattle.bits.specs.Bits.{bit}
use Rattle.bits.proofs.Laws.{or_bit}
use Rattle.digest.specs.Digest.{united}
use Rattle.digest.proofs.Masks.{made_more}
use Rattle.digest.proofs.SetDigest.union.Goals as goal

pub loop-i-preserved : goal.loop-i-preserved
loop-i-preserved c = let l = c.loop-i in let a = c.args in
    record {
      three = simp length-set l.invariant.three;
      made = made_more l.masks (united (λ j k. bit k (get_or a.self.masks j 0)) (λ j k. bit k (get_or a.other.masks j 0))) l.i _ (omega arith)
          l.invariant.made
          (λ k h. or_bit k (get_or a.self.masks l.i 0) (get_or a.other.masks l.i 0));
    }
