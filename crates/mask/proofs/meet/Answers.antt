-- A bitwise AND is 0 only where no bit is common. Assumes nothing.
use Rattle.std.proofs.Common.{arith}
use Rattle.bits.proofs.Same.{common_bit}
use Rattle.mask.proofs.meet.Goals as goal

pub returns : goal.returns
returns c = common_bit 64 c.args.a c.args.b (omega arith)
