-- The places taken so far are in their slots, and what all values take is what the values left take after them, from `next` on. Each turn
-- walks to the place for the value that is due. What is known of the base stays so. Assumes nothing.
use Rattle.std.proofs.Common.{Bool, List, Ok, Result, [], ap, ap₂, arith, cond, drop, get_or, length, set, subst, sym, true, ℕ, ◌+◌, ◌<◌, ◌∙◌}
use Rattle.std.proofs.Common.{◌∷◌, ◌≡◌, ◌≤◌}
use Rattle.glyph.specs.declared.Glyph.{Glyph}
use Rattle.glyph.specs.Glyph.{limit, glyphs_of, blank}
use Rattle.verdict.specs.declared.Verdict.{Verdict}
use Rattle.verdict.specs.Verdict.{value_by, judge_at}
use Rattle.walk.specs.declared.Walked.{Walked}
use Rattle.walk.specs.declared.Walked.TheVariants.{Found}
use Rattle.walk.specs.Walk.{walk_from}
use Rattle.walk.specs.Laws.{walk_found}
use Rattle.ligature.specs.declared.Ligbase.{Ligbase}
use Rattle.matching.specs.declared.Success.{Success}
use Rattle.matching.specs.declared.NoMatch.{NoMatch}
use Rattle.matching.specs.Take.{ahead, Outcome, unlike, having, on_walked, takes}
use Rattle.ligature.specs.Ligature.{may_join, base_skips}
use Rattle.ligature.specs.Laws.{Known, looked_known, looked_serves}
use Rattle.matching.specs.Matchers.{judge, joins, input_by}
use Rattle.matching.specs.Answers.{slotted, input_told}
use Rattle.matching.specs.Cases.{made_of}
use Rattle.matching.specs.Going.{Going, going_none, going_more, going_done, turn}
use Rattle.ligature.specs.Search.{base_needed, looked, may_skip}
use Rattle.matching.proofs.take_input.Goals as goal
use Rattle.matching.proofs.take_input.Goals.{After-forward_from}

pub loop-i-init : goal.loop-i-init
loop-i-init c =
    let a = c.args in
    let gs = glyphs_of a.text.now in
    let on : ℕ → ℕ → Verdict = judge a.m a.sets.now (value_by a.test a.lists.now) (get_or gs a.idx blank).syllable gs in
    let ok = joins a.m a.sets.now (glyphs_of a.searched.now) gs a.idx in
    let small : c.read-first.result.count ≤ 255 = omega arith in
    let told = c.read-first.ensures in (
      subst (λ (l : List ℕ). Going gs on ok a.idx a.values.now (set l 0 a.idx) c.read-first.result.count (a.idx + 1) 0)
          (sym c.requires.1)
          (subst (λ (g : Glyph). Going gs on ok a.idx a.values.now (slotted (a.idx ∷ [])) g.count (a.idx + 1) 0) (sym told)
          (going_none gs on ok a.idx a.values.now c.requires.0.0 (subst (λ (g : Glyph). g.count ≤ 255) told small))),
      tt,
    )

-- after the walk of a turn
module _ (c : After-forward_from) where
  abbrev gs : List Glyph
  gs = glyphs_of c.args.text.now

  abbrev values : List ℕ
  values = c.args.values.now

  abbrev idx : ℕ
  idx = c.args.idx

  abbrev i : ℕ
  i = c.loop-i.i

  abbrev next : ℕ
  next = c.loop-i.next

  abbrev on : ℕ → ℕ → Verdict
  on = let a = c.args in judge a.m a.sets.now (value_by a.test a.lists.now) (get_or gs idx blank).syllable gs

  abbrev ok : ℕ → Bool
  ok = let a = c.args in joins a.m a.sets.now (glyphs_of a.searched.now) gs idx

  -- what the values from here on take
  abbrev from : ℕ → List ℕ → Outcome
  from = takes (ahead (length gs)) on ok

  abbrev going : Going gs on ok idx values c.loop-i.positions c.loop-i.total next i
  going = c.loop-i.invariant.0

  abbrev skips : Bool
  skips = base_skips c.args.m c.args.sets.now c.read-first.result.lig (glyphs_of c.args.searched.now)

  walked : walk_from (on (get_or values i 0)) (length gs) next ≡ c.forward_from.result
  walked =
      let a = c.args in
      sym (c.forward_from.ensures
      ∙ ap₂ (λ (g : Glyph) (n : ℕ). walk_from (judge_at a.m (value_by a.test a.lists.now (get_or values i 0)) g.syllable a.sets.now gs) n next)
      c.read-first.ensures c.count-len.ensures)

  -- what the walk for the value that is due makes of the whole
  whole : (w : Walked) → c.forward_from.result ≡ w
      → from (idx + 1) values ≡ having going.qs (on_walked ok w (λ q. from (q + 1) (drop (i + 1) values)))
  whole w e = turn gs on ok idx values c.loop-i.positions c.loop-i.total next i going (omega arith) w (walked ∙ e)

  module _ (q : ℕ) (found : c.forward_from.result ≡ Found q) where
    inside : q < length gs
    inside = ((walk_found (on (get_or values i 0)) (length gs) next q).0 (walked ∙ found)).inside

    -- the search made once tells the rule's answer
    kept : (this : Glyph) (base : Ligbase) (b : Bool) → this ≡ get_or gs q blank
        → base ≡ looked c.loop-i.base (base_needed c.read-first.result this) skips → b ≡ may_join c.read-first.result this (may_skip base) → ok q ≡ b
    kept this base b read known said =
        let a = c.args in
        let first = c.read-first.result in
        let l = c.loop-i in
        sym (said ∙ ap (λ (x : Ligbase). may_join first this (may_skip x)) known
        ∙ looked_serves l.base first this skips l.invariant.1
        ∙ ap₂ (λ (f t : Glyph). may_join f t (base_skips a.m a.sets.now f.lig (glyphs_of a.searched.now))) c.read-first.ensures read)

    -- a glyph that is taken
    more : (this : Glyph) → this ≡ get_or gs q blank → ok q ≡ true → this.ligated ≤ 255
        → let l = c.loop-i in
        Going gs on ok idx values (set l.positions (i + 1) q) (l.total + this.ligated) (q + 1) (i + 1)
    more this read allowed small =
        let l = c.loop-i in
        subst (λ (g : Glyph). Going gs on ok idx values (set l.positions (i + 1) q) (l.total + g.ligated) (q + 1) (i + 1))
        (sym read)
        (going_more gs on ok idx values l.positions l.total next i going q
        (omega arith) c.requires.0.2 inside (subst (λ (g : Glyph). g.ligated ≤ 255) read small) (walked ∙ found) allowed)

pub read-this-requires : goal.read-this-requires
read-this-requires c = inside (goal.at.read-this-requires c).After-forward_from c.in-Found.q c.in-Found.is

pub returns-then-not-may_join : goal.returns-then-not-may_join
unfolding input_by
returns-then-not-may_join c =
    let r = (goal.at.returns-then-not-may_join c).After-forward_from in
    let q = c.in-Found.q in
    ap₂ (λ (a : Result Success NoMatch) (l : List ℕ). made_of a (length (values r)) l) c.lose.ensures.0
    c.lose.ensures.1
    ∙ sym (ap (input_told (gs r) (idx r)) (whole r (Found q) c.in-Found.is
    ∙ ap (λ (b : Bool). having (going r).qs (cond b (having (q ∷ []) (from r (q + 1) (drop (i r + 1) (values r)))) unlike))
    (kept r q c.in-Found.is _ _ _ c.read-this.ensures c.look_for_base-base.ensures c.may_join.ensures ∙ c.if-not-may_join.true)))

pub overflow_cast-positions-in-Found : goal.overflow_cast-positions-in-Found
unfolding limit
overflow_cast-positions-in-Found c =
    omega (arith, inside (goal.at.overflow_cast-positions-in-Found c).After-forward_from c.in-Found.q c.in-Found.is, c.requires.0.1)

pub overflow_add-next-in-Found : goal.overflow_add-next-in-Found
unfolding limit
overflow_add-next-in-Found c =
    omega (arith, inside (goal.at.overflow_add-next-in-Found c).After-forward_from c.in-Found.q c.in-Found.is, c.requires.0.1)

pub loop-i-preserved : goal.loop-i-preserved
loop-i-preserved c =
    let r = (goal.at.loop-i-preserved c).After-forward_from in
    let q = c.in-Found.q in
    let small : c.read-this.result.ligated ≤ 255 = omega arith in (
      more r q c.in-Found.is _ c.read-this.ensures
          (kept r q c.in-Found.is _ _ _ c.read-this.ensures c.look_for_base-base.ensures c.may_join.ensures ∙ c.if-not-may_join.false) small,
      subst (λ (b : Ligbase). Known b (skips r)) (sym c.look_for_base-base.ensures)
          (looked_known c.loop-i.base (base_needed c.read-first.result c.read-this.result) (skips r) c.loop-i.invariant.1),
    )

pub returns-in-Stopped : goal.returns-in-Stopped
unfolding input_by
returns-in-Stopped c =
    let r = (goal.at.returns-in-Stopped c).After-forward_from in
    ap₂ (λ (a : Result Success NoMatch) (l : List ℕ). made_of a (length (values r)) l) c.lose-in-Stopped.ensures.0 c.lose-in-Stopped.ensures.1
    ∙ sym (ap (input_told (gs r) (idx r)) (whole r _ c.in-Stopped.is))

pub returns-in-RanOut : goal.returns-in-RanOut
unfolding input_by
returns-in-RanOut c =
    let r = (goal.at.returns-in-RanOut c).After-forward_from in
    ap₂ (λ (a : Result Success NoMatch) (l : List ℕ). made_of a (length (values r)) l) c.lose-in-RanOut.ensures.0 c.lose-in-RanOut.ensures.1
    ∙ sym (ap (input_told (gs r) (idx r)) (whole r _ c.in-RanOut.is))

pub returns : goal.returns
unfolding input_by
returns c =
    let a = c.args in
    let l = c.loop-i in
    let gs = glyphs_of a.text.now in
    let n : length a.values.now + 1 ≡ l.i + 1 = omega (arith, l.invariant.0.within, c.loop-i-test.false) in
    (λ j. record { answer = Ok (record { end = l.next; total = l.total }); count = n j; positions = l.positions })
    ∙ sym (going_done gs (judge a.m a.sets.now (value_by a.test a.lists.now) (get_or gs a.idx blank).syllable gs)
    (joins a.m a.sets.now (glyphs_of a.searched.now) gs a.idx)
    a.idx a.values.now l.positions l.total l.next l.i l.invariant.0 (omega arith))
