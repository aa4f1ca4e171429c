-- The tests in 01's order are the definition's; what was asked of the rows is what the text shows. Assumes nothing.
use Rattle.std.proofs.Common.{List, ap, arith, length, sym, take, ℕ, ◌∙◌, ◌≡◌, ◌≤◌, Bool}
use lib.ListN.{length-map}
use Rattle.glyph.specs.declared.Glyph.{Glyph}
use Rattle.glyph.specs.Glyph.{glyphs_of}
use Rattle.text.specs.Laws.{sizes}
use Rattle.verdict.specs.Verdict.{Asked, value_by}
use Rattle.matching.specs.Matchers.{input_on, ahead_on, back_on}
use Rattle.matching.specs.Answers.{input_told, match_end}
use Rattle.book.specs.Book.{Chain}
use Rattle.book.specs.Places.{part_of}
use Rattle.book.specs.Inside.{part_few}
use Rattle.std.specs.Prelude.{Result, Ok, is_ok}
use Rattle.matching.specs.declared.NoMatch.{NoMatch}
use Rattle.matching.specs.declared.Success.{Success}
use Rattle.run.specs.Run.{moved_level}
use Rattle.run.specs.Chain.{is_taken, itself}
use Rattle.run_positions.specs.Slots.{shown}
use Rattle.run_chain_match.specs.Aim.{handed_chain}
use Rattle.run_chain_match.specs.Shifts.{Shown, input_shown}
use Rattle.run_chain_match.specs.Laws.{aim_other, aim_lost, aim_behind, aim_ahead, aim_hit, open_asks}
use Rattle.run_chain_match.proofs.Search.match_chain.Goals as goal
use Rattle.run_chain_match.proofs.Search.match_chain.Goals.{After-match_values-m}

ended : {a : Result Success NoMatch} {s : Success} → a ≡ Ok s → s.end ≡ match_end a
ended e = sym (ap match_end e)

-- what input matching answered, of the first d glyphs of `done`
module _ (c : After-match_values-m) where
  abbrev k : Chain Asked
  k = let a = c.args in handed_chain a.tests a.self.book.now a.chain

  m_is :
      let a = c.args in
      c.match_values-m.result ≡ input_told (glyphs_of a.coming.now) a.p.idx
      (input_on a.self.terms a.self.sets.now itself (take a.p.d (glyphs_of a.done.now)) (glyphs_of a.coming.now) a.p.idx k.input)
  m_is =
      let a = c.args in
      c.match_values-m.ensures
      ∙ ap (λ (D : List Glyph). input_told (glyphs_of a.coming.now) a.p.idx
      (input_on a.self.terms a.self.sets.now itself D (glyphs_of a.coming.now) a.p.idx k.input)) c.first-before.ensures

  shows : (s : Success) → c.match_values-m.result.answer ≡ Ok s →
      let a = c.args in
      Shown a.done.now a.coming.now a.p c.requires.0 a.self.terms a.self.sets.now k.input c.match_values-m.result
  shows s e =
      let a = c.args in
      input_shown a.done.now a.coming.now a.p c.requires.0 a.self.terms a.self.sets.now c.requires.1 k.input c.match_values-m.result m_is (ap is_ok e)

  asked_ahead : (end : ℕ) (b : Bool) → end ≡ match_end c.match_values-m.result.answer →
      let a = c.args in
      b ≡ is_taken (ahead_on a.self.terms a.self.sets.now itself (glyphs_of a.coming.now) end c.read-g.result.syllable k.lookahead)
      → is_taken (ahead_on a.self.terms a.self.sets.now itself (glyphs_of a.coming.now) (match_end c.match_values-m.result.answer)
      c.read-g.result.syllable k.lookahead) ≡ b
  asked_ahead end b e said =
      let a = c.args in
      ap (λ (n : ℕ). is_taken (ahead_on a.self.terms a.self.sets.now itself (glyphs_of a.coming.now) n c.read-g.result.syllable k.lookahead))
      (sym e) ∙ sym said

  asked_back : (b : Bool) →
      let a = c.args in
      b ≡ is_taken (back_on a.self.terms a.self.sets.now itself (glyphs_of c.first-before.result.now) c.read-g.result.syllable k.backtrack)
      → is_taken (back_on a.self.terms a.self.sets.now itself (take a.p.d (glyphs_of a.done.now)) c.read-g.result.syllable k.backtrack) ≡ b
  asked_back b said =
      let a = c.args in
      ap (λ (D : List Glyph). is_taken (back_on a.self.terms a.self.sets.now itself D c.read-g.result.syllable k.backtrack))
      (sym c.first-before.ensures) ∙ sym said

pub read-g-requires : goal.read-g-requires
read-g-requires c =
    let z = sizes c.args.done.now c.args.coming.now c.args.p c.requires.0 in
    omega (arith, c.requires.1)

pub returns-then-not-is_value : goal.returns-then-not-is_value
returns-then-not-is_value c =
    let a = c.args in
    let g = c.read-g in
    aim_other a.done.now a.coming.now a.p c.requires.0 a.self.terms a.self.sets.now (handed_chain a.tests a.self.book.now a.chain)
    a.chain.records g.result g.ensures
    (sym c.is_value.ensures ∙ c.if-not-is_value.true)

pub first-before-requires : goal.first-before-requires
first-before-requires c =
    let z = sizes c.args.done.now c.args.coming.now c.args.p c.requires.0 in
    omega arith

pub match_values-m-requires : goal.match_values-m-requires
match_values-m-requires c =
    let z = sizes c.args.done.now c.args.coming.now c.args.p c.requires.0 in
    (omega (arith, c.requires.1), omega arith, part_few c.args.self.book.now _ _ _ c.requires.2.input)

pub returns-in_default : goal.returns-in_default
returns-in_default c =
    let r = (goal.at.returns-in_default c).After-match_values-m in
    let a = c.args in
    let g = c.read-g in
    let said = sym c.is_value.ensures ∙ c.if-not-is_value.false in
    aim_lost a.done.now a.coming.now a.p c.requires.0 a.self.terms a.self.sets.now (k r) a.chain.records g.result g.ensures said
    c.match_values-m.result (m_is r) (ap is_ok c.in_default.is)

pub is_ahead-requires : goal.is_ahead-requires
is_ahead-requires c =
    let h = shows (goal.at.is_ahead-requires c).After-match_values-m c.in-Ok.success c.in-Ok.is in
    (omega (arith, h.end, h.inside, ended c.in-Ok.is), part_few c.args.self.book.now _ _ _ c.requires.2.lookahead)

pub returns-then-not-is_ahead : goal.returns-then-not-is_ahead
returns-then-not-is_ahead c =
    let r = (goal.at.returns-then-not-is_ahead c).After-match_values-m in
    let a = c.args in
    let g = c.read-g in
    let said = sym c.is_value.ensures ∙ c.if-not-is_value.false in
    aim_behind a.done.now a.coming.now a.p c.requires.0 a.self.terms a.self.sets.now (k r) a.chain.records g.result g.ensures said
    c.match_values-m.result (m_is r) (shows r c.in-Ok.success c.in-Ok.is)
    (asked_ahead r _ _ (ended c.in-Ok.is) c.is_ahead.ensures ∙ c.if-not-is_ahead.true)

pub returns-then-not-is_behind : goal.returns-then-not-is_behind
returns-then-not-is_behind c =
    let r = (goal.at.returns-then-not-is_behind c).After-match_values-m in
    let a = c.args in
    let g = c.read-g in
    let said = sym c.is_value.ensures ∙ c.if-not-is_value.false in
    aim_ahead a.done.now a.coming.now a.p c.requires.0 a.self.terms a.self.sets.now (k r) a.chain.records g.result g.ensures said
    c.match_values-m.result (m_is r) (shows r c.in-Ok.success c.in-Ok.is)
    (asked_ahead r _ _ (ended c.in-Ok.is) c.is_ahead.ensures ∙ c.if-not-is_ahead.false)
    (asked_back r _ c.is_behind.ensures ∙ c.if-not-is_behind.true)

pub open-level-requires : goal.open-level-requires
open-level-requires c =
    let r = (goal.at.open-level-requires c).After-match_values-m in
    let a = c.args in
    let g = c.read-g in
    let said = sym c.is_value.ensures ∙ c.if-not-is_value.false in
    let few : length (k r).input ≤ 63 =
    omega (
      arith,
      part_few a.self.book.now _ _ _ c.requires.2.input,
      length-map (part_of a.self.book.now a.chain.input) (value_by a.tests.input a.self.book.now),
    ) in
    let asks =
    open_asks a.done.now a.coming.now a.p c.requires.0 a.self.terms a.self.sets.now (k r) a.chain.records g.result g.ensures said
    c.match_values-m.result (m_is r) (shows r c.in-Ok.success c.in-Ok.is) few in
    rw (ended c.in-Ok.is) (asks.1, asks.2, asks.3, asks.4)

pub returns : goal.returns
returns c =
    let r = (goal.at.returns c).After-match_values-m in
    let a = c.args in
    let g = c.read-g in
    let m = c.match_values-m.result in
    let said = sym c.is_value.ensures ∙ c.if-not-is_value.false in
    let opened = c.open-level.ensures ∙ ap (λ (n : ℕ). shown (moved_level a.p.idx a.p.d (take m.count m.positions) n))
    (ended c.in-Ok.is) in
    aim_hit a.done.now a.coming.now a.p c.requires.0 a.self.terms a.self.sets.now (k r) a.chain.records g.result g.ensures said
    m (m_is r) (shows r c.in-Ok.success c.in-Ok.is)
    (asked_ahead r _ _ (ended c.in-Ok.is) c.is_ahead.ensures ∙ c.if-not-is_ahead.false)
    (asked_back r _ c.is_behind.ensures ∙ c.if-not-is_behind.false)
    c.open-level.result opened
