-- What is stored with what is left to store from here on is the whole. Assumes nothing.
use Rattle.std.proofs.Common.{ap, arith, drop, get_or, length, refl, sym, take, take_all, ◌*◌, ◌+◌, ◌∙◌, ◌≡◌}
use Rattle.tape_frame.specs.Line.{digits_of, half}
use Rattle.tape_answer.specs.Line.{halves}
use Rattle.tape_answer.specs.LineLaws.{halves_step, halves_end}
use Rattle.tape_frame.specs.Put.{put, put_none, put_then}
use Rattle.tape_answer.proofs.put_positions.Goals as goal

pub loop-i-preserved : goal.loop-i-preserved
unfolding digits_of
loop-i-preserved c =
    let a = c.args in
    let l = c.loop-i in
    let ps = a.positions.now in
    let all : take (length ps) ps ≡ ps = take_all (length ps) ps (omega arith) in
    put_then l.out (a.at + 4 * l.i) (a.at + 4 * (l.i + 1)) (digits_of (half (get_or ps l.i 0))) (digits_of (halves (drop (l.i + 1) ps)))
    c.put_half.ensures (omega arith) refl (omega arith)
    ∙ ap (put l.out (a.at + 4 * l.i)) (sym (rw all at (halves_step ps (length ps) l.i (omega arith) (omega arith))))
    ∙ l.invariant

pub returns : goal.returns
returns c = let a = c.args in
    let l = c.loop-i in
    let ps = a.positions.now in
    let all : take (length ps) ps ≡ ps = take_all (length ps) ps (omega arith) in
    sym (put_none l.out (a.at + 4 * l.i))
    ∙ ap (put l.out (a.at + 4 * l.i)) (sym (rw all at (halves_end ps (length ps) l.i (omega arith) (omega arith))))
    ∙ l.invariant
