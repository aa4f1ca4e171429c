-- The answer from the start with all values is the answer from start + next with the values left. Each turn takes one: the walk over the
-- part from the start on is the walk over the whole text, counted from the start. Assumes nothing.
use Rattle.std.proofs.Common.{List, add-zero, add_assoc, ap, arith, drop, get_or, length, length-drop, sym, ℕ, ◌+◌, ◌∙◌, ◌≡◌, ◌≤◌}
use Rattle.glyph.specs.declared.Glyph.{Glyph}
use Rattle.glyph.specs.Glyph.{glyphs_of}
use Rattle.glyph.specs.Laws.{length-glyphs_of}
use Rattle.verdict.specs.declared.Verdict.{Verdict}
use Rattle.verdict.specs.Verdict.{Asked, value_by, judge_at}
use Rattle.walk.specs.declared.Walked.{Walked}
use Rattle.walk.specs.declared.Walked.TheVariants.{Found}
use Rattle.walk.specs.Parts.{raised}
use Rattle.matching.specs.Take.{ahead}
use Rattle.matching.specs.Matchers.{judge, ahead_on}
use Rattle.matching.specs.Going.{told, told_by, told_on, told_end}
use Rattle.matching.specs.Onward.{WalkWithin, walk_within, walk_part}
use Rattle.matching_context.proofs.lookahead.Goals as goal
use Rattle.matching_context.proofs.lookahead.Goals.{After-forward_from}

pub loop-value-init : goal.loop-value-init
loop-value-init c = let a = c.args in (
  omega arith,
  rw (add-zero a.start),
)

-- the part from the start on ends within the text
fits : (start len : ℕ) (text : List ℕ) (part : List Glyph) → part ≡ drop start (glyphs_of text) → len ≡ length part
    → start ≤ length (glyphs_of text) → start + len ≤ length text
fits start len text part onward count within =
    omega (arith, ap length onward, length-drop start (glyphs_of text), length-glyphs_of text)

-- after the walk of a turn
module _ (c : After-forward_from) where
  abbrev on : ℕ → ℕ → Verdict
  on =
      let a = c.args in
      judge c.matcher_of-matcher.result a.sets.now (value_by a.test a.lists.now) a.syllable (glyphs_of a.text.now)

  -- what it makes of the whole
  whole : (r : Walked) → c.forward_from.result ≡ r
      → let a = c.args in
      let len = length (glyphs_of a.text.now) in
      told (ahead len) on a.start a.values.now
      ≡ told_by (ahead len) on (raised a.start r) (drop (c.loop-value.value-index + 1) a.values.now)
  whole r e =
      let a = c.args in
      let l = c.loop-value in
      let gs = glyphs_of a.text.now in
      let sign : Asked = value_by a.test a.lists.now (get_or a.values.now l.value-index 0) in
      l.invariant.1 ∙ told_on (ahead (length gs)) on (a.start + l.next) l.value-index a.values.now (omega arith)
      ∙ ap (λ (w : Walked). told_by (ahead (length gs)) on w (drop (l.value-index + 1) a.values.now))
      (walk_part c.matcher_of-matcher.result sign a.syllable a.sets.now gs
      (glyphs_of c.onward-onward.result.now) a.start c.count-len.result l.next r
      c.requires c.onward-onward.ensures c.count-len.ensures (sym e ∙ c.forward_from.ensures))

  inside : (r : Walked) → c.forward_from.result ≡ r → WalkWithin c.count-len.result r
  inside r e =
      let a = c.args in
      let l = c.loop-value in
      let sign : Asked = value_by a.test a.lists.now (get_or a.values.now l.value-index 0) in
      walk_within (judge_at c.matcher_of-matcher.result sign a.syllable a.sets.now
      (glyphs_of c.onward-onward.result.now))
      c.count-len.result l.next r l.invariant.0 (sym e ∙ c.forward_from.ensures)

pub overflow_add-next : goal.overflow_add-next
overflow_add-next c =
    let l = inside (goal.at.overflow_add-next c).After-forward_from (Found c.in-Found.q) c.in-Found.is in
    omega (
      arith,
      fits c.args.start c.count-len.result c.args.text.now _ c.onward-onward.ensures c.count-len.ensures c.requires,
    )

pub loop-value-preserved : goal.loop-value-preserved
loop-value-preserved c =
    let q = c.in-Found.q in (
      (let l = inside (goal.at.loop-value-preserved c).After-forward_from (Found q) c.in-Found.is in omega arith),
      whole (goal.at.loop-value-preserved c).After-forward_from (Found q) c.in-Found.is
          ∙ ap (λ (n : ℕ). told (ahead (length (glyphs_of c.args.text.now))) (on (goal.at.loop-value-preserved c).After-forward_from) n
          (drop (c.loop-value.value-index + 1) c.args.values.now))
          (add_assoc c.args.start q 1),
    )

pub returns-in-Stopped : goal.returns-in-Stopped
unfolding ahead_on
returns-in-Stopped c =
    rw (← c.matcher_of-matcher.ensures) (sym (whole (goal.at.returns-in-Stopped c).After-forward_from _ c.in-Stopped.is))

pub overflow_add-result : goal.overflow_add-result
overflow_add-result c =
    let l = inside (goal.at.overflow_add-result c).After-forward_from _ c.in-Stopped.is in
    omega (
      arith,
      fits c.args.start c.count-len.result c.args.text.now _ c.onward-onward.ensures c.count-len.ensures c.requires,
    )

pub overflow_add-result-in-RanOut : goal.overflow_add-result-in-RanOut
overflow_add-result-in-RanOut c =
    let l = inside (goal.at.overflow_add-result-in-RanOut c).After-forward_from _ c.in-RanOut.is in
    omega (
      arith,
      fits c.args.start c.count-len.result c.args.text.now _ c.onward-onward.ensures c.count-len.ensures c.requires,
    )

pub returns-in-RanOut : goal.returns-in-RanOut
unfolding ahead_on
returns-in-RanOut c =
    rw (← c.matcher_of-matcher.ensures) (sym (whole (goal.at.returns-in-RanOut c).After-forward_from _ c.in-RanOut.is))

pub overflow_add-result-2 : goal.overflow_add-result-2
overflow_add-result-2 c =
    omega (
      arith,
      fits c.args.start c.count-len.result c.args.text.now _ c.onward-onward.ensures c.count-len.ensures c.requires,
    )

pub returns : goal.returns
unfolding ahead_on
returns c =
    let a = c.args in
    let l = c.loop-value in
    let gs = glyphs_of a.text.now in
    rw (← c.matcher_of-matcher.ensures)
    (sym (l.invariant.1 ∙ told_end (ahead (length gs))
    (judge c.matcher_of-matcher.result a.sets.now (value_by a.test a.lists.now) a.syllable gs) (a.start + l.next) l.value-index
    a.values.now (omega arith)))
