-- Straight on, or up to bit 63 and on from bit 0. Assumes nothing.
use Rattle.std.proofs.Common.{arith, ◌∙◌}
use Rattle.bits.proofs.Laws.{or_bit}
use Rattle.mask.proofs.arc.Goals as goal

pub returns : goal.returns
returns c =
    λ k h. or_bit k c.span-2.result c.span-3.result ∙ grind (arith, c.span-2.ensures k, c.span-3.ensures k, c.if-from-to.false)
