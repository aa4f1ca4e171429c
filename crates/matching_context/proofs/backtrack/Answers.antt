-- The answer from the row's end with all values is the answer from `place` with the values left. Each turn takes one, by the walk back from
-- there. Assumes nothing.
use Rattle.std.proofs.Common.{ap, arith, drop, get_or, length, sym, ℕ, Err, ◌+◌, ◌<◌, ◌∙◌, ◌≡◌}
use Rattle.glyph.specs.Glyph.{glyphs_of}
use Rattle.verdict.specs.declared.Verdict.{Verdict}
use Rattle.verdict.specs.Verdict.{value_by}
use Rattle.walk.specs.declared.Walked.{Walked}
use Rattle.walk.specs.declared.Walked.TheVariants.{Found}
use Rattle.walk.specs.Backward.{back_found}
use Rattle.matching.specs.declared.NoContext.TheVariants.{Lost}
use Rattle.matching.specs.Take.{behind}
use Rattle.matching.specs.Matchers.{judge, back_on}
use Rattle.matching.specs.Going.{told, told_by, told_on, told_end}
use Rattle.matching_context.proofs.backtrack.Goals as goal
use Rattle.matching_context.proofs.backtrack.Goals.{After-backward_from}

-- after the walk of a turn
module _ (c : After-backward_from) where
  abbrev on : ℕ → ℕ → Verdict
  on = let a = c.args in judge c.matcher_of-m.result a.sets.now (value_by a.test a.lists.now) a.syllable (glyphs_of a.row.now)

  -- what it makes of the whole
  whole : (r : Walked) → c.backward_from.result ≡ r
      → let a = c.args in
      told behind on (length (glyphs_of a.row.now)) a.values.now
      ≡ told_by behind on r (drop (c.loop-value.value-index + 1) a.values.now)
  whole r e =
      let a = c.args in
      let l = c.loop-value in
      l.invariant.1 ∙ told_on behind on l.place l.value-index a.values.now (omega arith)
      ∙ ap (λ (w : Walked). told_by behind on w (drop (l.value-index + 1) a.values.now)) (sym c.backward_from.ensures ∙ e)

  earlier : (p : ℕ) → c.backward_from.result ≡ Found p → p < c.loop-value.place
  earlier p e = let a = c.args in
      ((back_found (on (get_or a.values.now c.loop-value.value-index 0)) c.loop-value.place p).0 (sym c.backward_from.ensures ∙ e)).earlier

pub loop-value-init : goal.loop-value-init
loop-value-init c = (omega (arith, c.count-place.ensures), rw c.count-place.ensures)

pub loop-value-preserved : goal.loop-value-preserved
loop-value-preserved c =
    let r = (goal.at.loop-value-preserved c).After-backward_from in (
      (let l = earlier r _ c.in-Found.is in omega arith),
      whole r _ c.in-Found.is,
    )

pub returns-in-Stopped : goal.returns-in-Stopped
unfolding back_on
returns-in-Stopped c =
    rw (← c.matcher_of-m.ensures) (sym (whole (goal.at.returns-in-Stopped c).After-backward_from _ c.in-Stopped.is))

pub returns-in-RanOut : goal.returns-in-RanOut
unfolding back_on
returns-in-RanOut c =
    ap (λ (n : ℕ). Err (Lost n)) {y = c.in-RanOut.extent} (omega arith)
    ∙ rw (← c.matcher_of-m.ensures) (sym (whole (goal.at.returns-in-RanOut c).After-backward_from _ c.in-RanOut.is))

pub returns : goal.returns
unfolding back_on
returns c =
    let a = c.args in
    let l = c.loop-value in
    let m = c.matcher_of-m in
    rw (← m.ensures)
    (sym (l.invariant.1 ∙ told_end behind (judge m.result a.sets.now (value_by a.test a.lists.now) a.syllable (glyphs_of a.row.now))
    l.place l.value-index a.values.now (omega arith)))
