-- What is left from here says what the whole says. Assumes nothing.
use Rattle.std.proofs.Common.{refl}
use Rattle.run_refuse.specs.Turns.{rise_low, rise_past, rise_on, rise_end}
use Rattle.run_refuse.proofs.is_rising.Goals as goal
use Rattle.run_refuse.proofs.is_rising.Goals.{then-p-low-via-then-p-low, then-p-low-via-else-p-low+then-end-p}

pub returns-then-p-low : goal.returns-then-p-low
returns-then-p-low c =
    let a = c.args in
    let l = c.loop-place in
    elim c.then-p-low.branch [
      | then-p-low-via-then-p-low w ↦
          rise_low a.from a.end a.places.now l.low l.place-index _ c.loop-place-test.true l.invariant refl w.if-p-low.true
      | then-p-low-via-else-p-low+then-end-p w ↦
          rise_past a.from a.end a.places.now l.low l.place-index _ c.loop-place-test.true l.invariant refl w.if-p-low.false w.if-end-p.true
    ]

pub loop-place-preserved : goal.loop-place-preserved
loop-place-preserved c =
    let a = c.args in
    let l = c.loop-place in
    rise_on a.from a.end a.places.now l.low l.place-index _ c.loop-place-test.true l.invariant refl c.if-p-low.false c.if-end-p.false

pub returns : goal.returns
returns c =
    let a = c.args in
    let l = c.loop-place in
    rise_end a.from a.end a.places.now l.low l.place-index c.loop-place-test.false l.invariant
