-- A full digest keeps its bits; else a turn makes one mask more, and notes whether the range was narrow there. Assumes nothing.
use Rattle.std.proofs.Common.{◌≡◌, Bool, true, false, ◌||◌, get_or, sym, refl, ap, ◌∙◌, arith, length-set}
use Rattle.bits.specs.Bits.{bit, every}
use Rattle.bits.proofs.Laws.{or_bit, every_at}
use Rattle.digest.specs.Digest.{bits_of, wide, ranged, every_bit}
use Rattle.digest.proofs.Masks.{made_more, noted_more, noted_none}
use Rattle.digest.proofs.SetDigest.add_range.Goals as goal

kept : (a b : Bool) → a ≡ true → a ≡ (a || b)
kept a b e = rw e

pub returns-then-is_full : goal.returns-then-is_full
unfolding ranged
returns-then-is_full c = let d = c.args in
    let e : every_bit (bits_of d.self) ≡ true = sym c.is_full.ensures ∙ c.if-is_full.true in (
      λ i k h l.
          kept (bits_of d.self i k) _ (every_at (bits_of d.self i) 64 k (every_at (λ j. every 64 (bits_of d.self j)) 3 i e h) l),
      rw e,
    )

pub loop-i-init : goal.loop-i-init
loop-i-init c = record { three = refl; noted = noted_none _; made = λ j k h l. absurd (omega arith) }

pub loop-i-preserved : goal.loop-i-preserved
unfolding ranged
loop-i-preserved c =
    let l = c.loop-i in
    let d = c.args in
    record {
      three = simp length-set l.invariant.three;
      noted = noted_more (λ j. wide j d.a d.b) l.i l.yes c.is_wide.result l.invariant.noted
          (rw (c.shifted-from.ensures, c.shifted-to.ensures) at c.is_wide.ensures);
      made = made_more l.masks (ranged d.a d.b (λ j k. bit k (get_or d.self.masks j 0))) l.i _ (omega arith) l.invariant.made
          (λ k h.
          or_bit k (get_or d.self.masks l.i 0) c.range_of.result
          ∙ ap (λ (t : Bool). bit k (get_or d.self.masks l.i 0) || t)
          (rw (c.shifted-from.ensures, c.shifted-to.ensures) at (c.range_of.ensures k h)));
    }

pub returns : goal.returns
returns c =
    let d = c.args in
    let l = c.loop-i in
    let e : every_bit (bits_of d.self) ≡ false = sym c.is_full.ensures ∙ c.if-is_full.false in
    let three : l.i ≡ 3 = omega arith in (
      λ i k h m. l.invariant.made i k (omega arith) m,
      l.invariant.noted ∙ rw (e, three),
    )
