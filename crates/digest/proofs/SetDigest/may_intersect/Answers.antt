-- A turn tests one mask more in which a bit is common. Assumes nothing.
use Rattle.std.proofs.Common.{not, ap, ◌&&◌, get_or, sym, ◌∙◌, arith}
use Rattle.bits.specs.Bits.{bit, some}
use Rattle.bits.proofs.Laws.{every_not}
use Rattle.bits.proofs.Laws.{every_none, every_more, every_done}
use Rattle.digest.proofs.SetDigest.may_intersect.Goals as goal

pub loop-i-init : goal.loop-i-init
loop-i-init c = every_none _

pub returns-then-not-meet : goal.returns-then-not-meet
returns-then-not-meet c =
    let l = c.loop-i in
    let a = c.args in
    sym (every_not (λ j. some 64 (λ k. bit k (get_or a.self.masks j 0) && bit k (get_or a.other.masks j 0))) 3 l.i (omega arith)
    (sym c.meet.ensures ∙ c.if-not-meet.true))

pub loop-i-preserved : goal.loop-i-preserved
loop-i-preserved c =
    let l = c.loop-i in
    let a = c.args in
    every_more (λ j. some 64 (λ k. bit k (get_or a.self.masks j 0) && bit k (get_or a.other.masks j 0))) l.i
    c.meet.result l.invariant c.meet.ensures (ap not c.if-not-meet.false)

pub returns : goal.returns
returns c = every_done _ c.loop-i.i 3 (omega arith) c.loop-i.invariant
