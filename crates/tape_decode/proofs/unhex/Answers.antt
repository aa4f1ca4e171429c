-- What is stored with what the rest of the line spells is what the whole line spells. Assumes nothing.
use Rattle.std.proofs.Common.{ap, arith, drop, sym, get_or, ◌*◌, ◌+◌, ◌∙◌, ◌≡◌}
use Rattle.tape_frame.specs.Digits.{digit, bytes_of}
use Rattle.tape_frame.specs.DigitLaws.{bytes_step, bytes_end, spells_on, spells_high, spells_low, spells_end, spells_odd, digit_told, digit_not}
use Rattle.tape_frame.specs.Put.{put, put_none, put-cons}
use Rattle.tape_decode.proofs.unhex.Goals as goal

pub returns-then-line-ne0 : goal.returns-then-line-ne0
returns-then-line-ne0 c = spells_odd c.args.line.now c.if-line-ne0.true

pub returns-in_err-high : goal.returns-in_err-high
returns-in_err-high c =
    let line = c.args.line.now in
    let l = c.loop-i in
    let none = digit_not (get_or line (2 * l.i) 0) c.in_err-high.ensures.value in
    rw c.from_residual.ensures (sym l.invariant.0 ∙ spells_high line l.i (omega arith) (omega arith))

pub returns-in_err-low : goal.returns-in_err-low
returns-in_err-low c =
    let line = c.args.line.now in
    let l = c.loop-i in
    let none = digit_not (get_or line (2 * l.i + 1) 0) c.in_err-low.ensures.value in
    rw c.from_residual-in_err-low.ensures (sym l.invariant.0 ∙ spells_low line l.i (omega arith) (omega arith))

pub loop-i-preserved : goal.loop-i-preserved
loop-i-preserved c =
    let line = c.args.line.now in
    let l = c.loop-i in
    let high = c.in_ok-high.ensures.value in
    let low = c.in_ok-low.ensures.value in
    let h : digit (get_or line (2 * l.i) 0) ≡ c.in_ok-high.high = digit_told (get_or line (2 * l.i) 0) high.0 ∙ sym high.1 in
    let m : digit (get_or line (2 * l.i + 1) 0) ≡ c.in_ok-low.low = digit_told (get_or line (2 * l.i + 1) 0) low.0 ∙ sym low.1 in
    let rest = bytes_of (drop (2 * (l.i + 1)) line) in (
      sym (spells_on line l.i (omega arith) (omega arith) (omega arith)) ∙ l.invariant.0,
      sym (put-cons l.out l.i (c.in_ok-high.high * 16 + c.in_ok-low.low) rest (omega arith))
          ∙ rw (← h, ← m) (ap (put l.out l.i) (sym (bytes_step line l.i (omega arith))) ∙ l.invariant.1),
    )

pub returns : goal.returns
returns c = let line = c.args.line.now in
    let l = c.loop-i in (
      sym l.invariant.0 ∙ spells_end line (2 * l.i) (omega arith),
      sym (put_none l.out l.i)
          ∙ ap (put l.out l.i) (sym (bytes_end line (2 * l.i) (omega arith)))
          ∙ l.invariant.1,
    )
