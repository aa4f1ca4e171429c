-- The largest mask has every bit. Assumes nothing.
use Rattle.std.proofs.Common.{ap, ◌∙◌, lt-ltb}
use lib.ListN.{get_or-replicate}
use Rattle.bits.specs.Bits.{bit}
use Rattle.bits.proofs.Laws.{ones_bit}
use Rattle.digest.proofs.SetDigest.full.Goals as goal

pub returns : goal.returns
returns c = λ i k h l. ap (bit k) (get_or-replicate 3 i 0xffff_ffff_ffff_ffff 0 h) ∙ ones_bit 64 k ∙ lt-ltb k 64 l
