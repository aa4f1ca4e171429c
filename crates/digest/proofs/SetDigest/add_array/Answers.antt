-- The whole list added equals the rest of it added to what the turns made. Assumes nothing.
use Rattle.std.proofs.Common.{◌+◌, get_or, drop, sym, ap, ◌∙◌, arith}
use Rattle.digest.specs.Digest.{Bits, bits_of, added}
use Rattle.digest.specs.Laws.{added_all_on, added_all_end, added_all_same}
use Rattle.digest.proofs.SetDigest.add_array.Goals as goal

pub loop-g-preserved : goal.loop-g-preserved
loop-g-preserved c =
    let l = c.loop-g in
    let gs = c.args.array.now in
    let n = l.g-index in
    λ i k h m.
    added_all_same (drop (n + 1) gs) (bits_of c.add-digest.result) (added (get_or gs n 0) (bits_of l.digest)) c.add-digest.ensures i k h m
    ∙ ap (λ (f : Bits). f i k) (sym (added_all_on gs n (bits_of l.digest) (omega arith)))
    ∙ l.invariant i k h m

pub returns : goal.returns
returns c = λ i k h m. let l = c.loop-g in
    ap (λ (f : Bits). f i k) (sym (added_all_end c.args.array.now l.g-index (bits_of l.digest) (omega arith)))
    ∙ l.invariant i k h m
