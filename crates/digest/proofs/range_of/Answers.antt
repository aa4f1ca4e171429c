-- All bits where the range is wide, else the arc. Assumes nothing.
use Rattle.std.proofs.Common.{◌∙◌, lt-ltb}
use Rattle.bits.proofs.Laws.{ones_bit}
use Rattle.digest.proofs.range_of.Goals as goal

pub returns-then-is_wide : goal.returns-then-is_wide
returns-then-is_wide c = λ k h. ones_bit 64 k ∙ lt-ltb k 64 h ∙ rw (← c.is_wide.ensures, c.if-is_wide.true)

pub returns : goal.returns
returns c =
    λ k h. c.arc.ensures k h ∙ rw (← c.is_wide.ensures, c.if-is_wide.false)
