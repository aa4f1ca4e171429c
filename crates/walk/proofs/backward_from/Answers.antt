-- The walk back from where it began is the walk back from after p, the next place to test: what is between was passed over. Each turn tests one
-- place.
-- Assumes nothing.
use Rattle.std.proofs.Common.{ap, arith, get_or, refl, sym, ℕ, true, false, ◌+◌, ◌-◌, ◌∙◌, ◌≡◌}
use Rattle.glyph.specs.Glyph.{glyphs_of, blank}
use Rattle.glyph.specs.declared.Glyph.{Glyph}
use Rattle.verdict.specs.declared.Verdict.{Verdict}
use Rattle.verdict.specs.declared.Verdict.TheVariants.{Skip}
use Rattle.verdict.specs.Verdict.{value_of, skip_yes, judge_at}
use Rattle.verdict.specs.Rest.{rest_of}
use Rattle.verdict.specs.Laws.{judged_yes, judged_rest}
use Rattle.walk.specs.declared.Walked.TheVariants.{Stopped}
use Rattle.walk.specs.Walk.{on_verdict_back, walk_back}
use Rattle.walk.specs.Steps.{back_on_by}
use Rattle.walk.proofs.backward_from.Goals as goal
use Rattle.walk.proofs.backward_from.Goals.{After-is_skip_yes, then-not-is_skip_yes+in-Skip, else-not-is_skip_yes}

module _ (c : After-is_skip_yes) where
  abbrev judge : ℕ → Verdict
  judge =
      let a = c.args in
      judge_at a.m (value_of a.sign a.lists.now) a.syllable a.sets.now (glyphs_of a.row.now)

  abbrev tested : ℕ
  tested = c.loop-m.p

  -- a turn whose verdict is r
  turn : (r : Verdict) → judge tested ≡ r
      → walk_back judge c.args.place
      ≡ on_verdict_back r tested (walk_back judge tested)
  turn r e =
      let l = c.loop-m in
      l.invariant.1 ∙ back_on_by judge (l.p + 1) tested (omega arith) r e

  -- what was asked of the glyph that was read
  asked :
      c.is_skip_yes.result
      ≡ skip_yes c.args.m c.args.sets.now
      (get_or (glyphs_of c.args.row.now) tested blank)
  asked =
      let a = c.args in
      c.is_skip_yes.ensures ∙ ap (skip_yes a.m a.sets.now) c.read.ensures

  -- where the glyph isn't skipped, what the rest says of it is the verdict
  told : (g : Glyph) (rest r : Verdict) → c.is_skip_yes.result ≡ false → g ≡ get_or (glyphs_of c.args.row.now) tested blank
      → rest ≡ rest_of c.args.m (value_of c.args.sign c.args.lists.now) c.args.syllable g → rest ≡ r → judge tested ≡ r
  told g rest r not_skipped read said e =
      let a = c.args in
      let gs = glyphs_of a.row.now in
      judged_rest a.m (value_of a.sign a.lists.now) a.syllable a.sets.now gs tested (get_or gs tested blank)
      c.is_skip_yes.result rest refl asked not_skipped
      (said ∙ ap (rest_of a.m (value_of a.sign a.lists.now) a.syllable) read)
      ∙ e

  -- where it is, it is passed over
  skips : c.is_skip_yes.result ≡ true → judge tested ≡ Skip
  skips skipped =
      let a = c.args in
      let gs = glyphs_of a.row.now in
      judged_yes a.m (value_of a.sign a.lists.now) a.syllable a.sets.now gs tested (get_or gs tested blank)
      c.is_skip_yes.result refl asked skipped

pub returns-in-Match : goal.returns-in-Match
returns-in-Match c =
    let at_asked = (goal.at.returns-in-Match c).After-is_skip_yes in
    sym (turn at_asked _ (told at_asked _ _ _ c.if-not-is_skip_yes.true c.read-then-not-is_skip_yes.ensures c.on_rest.ensures c.in-Match.is))

pub returns-in-NotMatch : goal.returns-in-NotMatch
returns-in-NotMatch c =
    let at_asked = (goal.at.returns-in-NotMatch c).After-is_skip_yes in
    ap Stopped c.back_extent.ensures
    ∙ sym (turn at_asked _ (told at_asked _ _ _ c.if-not-is_skip_yes.true c.read-then-not-is_skip_yes.ensures c.on_rest.ensures c.in-NotMatch.is))

pub loop-m-preserved : goal.loop-m-preserved
loop-m-preserved c =
    let at_asked = (goal.at.loop-m-preserved c).After-is_skip_yes in
    let skipped : judge at_asked (tested at_asked) ≡ Skip = elim c.if-not-is_skip_yes.branch [
      | then-not-is_skip_yes+in-Skip w ↦ told at_asked _ _ _ w.if-not-is_skip_yes.true w.read-then-not-is_skip_yes.ensures w.on_rest.ensures
          w.in-Skip.is
      | else-not-is_skip_yes w ↦ skips at_asked w.if-not-is_skip_yes.false
    ] in
    let s : tested at_asked ≡ tested at_asked - 1 + 1 = omega arith in
    (omega arith, turn at_asked Skip skipped ∙ ap (walk_back (judge at_asked)) s)
