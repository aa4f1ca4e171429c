-- A turn tests one full mask more. Assumes nothing.
use Rattle.std.proofs.Common.{not, ap, get_or, sym, ◌∙◌, arith}
use Rattle.bits.specs.Bits.{bit, every}
use Rattle.bits.proofs.Laws.{every_not}
use Rattle.bits.proofs.Laws.{every_none, every_more, every_done}
use Rattle.digest.proofs.SetDigest.is_full.Goals as goal

pub loop-i-init : goal.loop-i-init
loop-i-init c = every_none _

pub returns-then-not-is_full : goal.returns-then-not-is_full
returns-then-not-is_full c =
    let l = c.loop-i in
    let a = c.args in
    sym (every_not (λ j. every 64 (λ k. bit k (get_or a.self.masks j 0))) 3 l.i (omega arith)
    (sym c.is_full.ensures ∙ c.if-not-is_full.true))

pub loop-i-preserved : goal.loop-i-preserved
loop-i-preserved c =
    let l = c.loop-i in
    let a = c.args in
    every_more (λ j. every 64 (λ k. bit k (get_or a.self.masks j 0))) l.i c.is_full.result l.invariant
    c.is_full.ensures (ap not c.if-not-is_full.false)

pub returns : goal.returns
returns c = every_done _ c.loop-i.i 3 (omega arith) c.loop-i.invariant
