-- The largest mask is the one with every bit. Assumes nothing.
use Rattle.std.proofs.Common.{arith}
use Rattle.bits.proofs.Same.{full_bits}
use Rattle.mask.proofs.is_full.Goals as goal

pub returns : goal.returns
returns c = full_bits 64 c.args.mask (omega arith)
