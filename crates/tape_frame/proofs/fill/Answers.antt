-- What is stored with what is left to store from here on is the whole. Assumes nothing.
use Rattle.std.proofs.Common.{ap, arith, sym, ℕ, ◌*◌, ◌+◌, ◌-◌, ◌∙◌, ◌∷◌}
use Rattle.tape_frame.specs.Frame.{words_at}
use Rattle.tape_frame.specs.FrameLaws.{words_step, words_end}
use Rattle.tape_frame.specs.Put.{put, put_none, put-cons}
use Rattle.tape_frame.proofs.fill.Goals as goal

pub loop-i-preserved : goal.loop-i-preserved
loop-i-preserved c = let a = c.args in
    let l = c.loop-i in
    sym (put-cons l.out l.i c.word_at.result (words_at (a.n - (l.i + 1)) (a.at + 4 * (l.i + 1)) a.b.now) (omega arith))
    ∙ ap (λ (x : ℕ). put l.out l.i (x ∷ words_at (a.n - (l.i + 1)) (a.at + 4 * (l.i + 1)) a.b.now)) c.word_at.ensures
    ∙ ap (put l.out l.i) (sym (words_step a.b.now a.at a.n l.i (omega arith)))
    ∙ l.invariant

pub returns : goal.returns
returns c = let a = c.args in
    let l = c.loop-i in
    sym (put_none l.out l.i)
    ∙ ap (put l.out l.i) (sym (words_end a.b.now a.at a.n l.i (omega arith)))
    ∙ l.invariant
