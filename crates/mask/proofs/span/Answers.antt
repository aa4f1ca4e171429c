-- The sum of powers is below 2 ^ 64, since 2 ^ (b + 1) is at most that. Assumes nothing.
use Rattle.std.proofs.Common.{arith, ◌+◌}
use lib.Pow.{pow-add, pow_pos}
use Rattle.bits.proofs.Laws.{shifted, span_bit, pow_le}
use Rattle.mask.proofs.span.Goals as goal

pub overflow_sub-result : goal.overflow_sub-result
overflow_sub-result c = let a = c.args.a in let b = c.args.b in
    rw (shifted a (omega arith), shifted b (omega arith)) (omega (arith, pow_le a b (omega arith)))

pub returns : goal.returns
returns c = λ k. let a = c.args.a in let b = c.args.b in
    rw (shifted a (omega arith), shifted b (omega arith)) (span_bit a b k (omega arith))
