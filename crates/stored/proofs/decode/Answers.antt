use Rattle.std.proofs.Common.{arith, length-set, take}
use Rattle.stored.specs.Stored.{stored_word}
use Rattle.stored.proofs.Filled.{filled_more}
use Rattle.stored.proofs.decode.Goals as goal

pub loop-k-preserved : goal.loop-k-preserved
unfolding stored_word
loop-k-preserved c = let a = c.args in let l = c.loop-k in (
  simp length-set l.invariant.0,
  filled_more l.word-items (take c.min-n.result a.words.now) (stored_word a.text.now) l.k c.eight.result
      (omega (arith, l.invariant.0, c.loop-k-test.true)) l.invariant.1 c.eight.ensures,
)
