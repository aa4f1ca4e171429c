-- The largest mask has every bit. Assumes nothing.
use Rattle.std.proofs.Common.{◌∙◌}
use borrow.Author.Tests.{lt-ltb}
use Rattle.bits.proofs.Laws.{ones_bit}
use Rattle.rule_digest.proofs.RuleSetDigest.full.Goals as goal

pub returns : goal.returns
returns c = λ k h. ones_bit 64 k ∙ lt-ltb k 64 h
