-- The lookups before `at` are read and their starts stand in their slots; what the whole book says is what they and the words from `at` on say.
-- Assumes nothing.
use Rattle.std.proofs.Common.{arith, sym, ◌+◌, ◌∙◌}
use Rattle.book.specs.Starts.{ReadSoFar, going_none, going_more, going_stuck, going_over, index_long, index_none, index_done}
use Rattle.book.specs.Starts.{slots_none, slots_more, size_some}
use Rattle.book_index.proofs.index_of.Goals as goal
use Rattle.book_index.proofs.index_of.Goals.{In_ok-size}

pub returns-then-words-gt-BOOK_WORDS : goal.returns-then-words-gt-BOOK_WORDS
returns-then-words-gt-BOOK_WORDS c = sym (index_long c.args.words.now c.if-words-gt-BOOK_WORDS.true)

pub loop-at-init : goal.loop-at-init
loop-at-init c = let ws = c.args.words.now in
    (omega arith, c.if-words-gt-BOOK_WORDS.false, going_none ws, slots_none ws)

pub returns-then-count-eq-LOOKUPS : goal.returns-then-count-eq-LOOKUPS
returns-then-count-eq-LOOKUPS c =
    let ws = c.args.words.now in
    let l = c.loop-at in
    sym (index_none ws l.invariant.1 (going_over ws l.count l.at l.invariant.2 c.loop-at-test.true c.if-count-eq-LOOKUPS.true))

pub returns-in_err-size : goal.returns-in_err-size
returns-in_err-size c =
    let ws = c.args.words.now in
    let l = c.loop-at in
    c.from_residual.ensures
    ∙ sym
    (index_none ws l.invariant.1
    (going_stuck ws l.count l.at l.invariant.2 c.loop-at-test.true (omega (arith, l.invariant.0, c.if-count-eq-LOOKUPS.false))
    (sym c.size_at.ensures ∙ c.in_err-size.was)))

-- a turn
module _ (c : In_ok-size) where
  on : ReadSoFar c.args.words.now (c.loop-at.count + 1) (c.loop-at.at + c.in_ok-size.size)
  on =
      let l = c.loop-at in
      going_more c.args.words.now l.count l.at l.invariant.2 c.loop-at-test.true (omega (arith, l.invariant.0, c.if-count-eq-LOOKUPS.false))
      c.in_ok-size.size (sym c.size_at.ensures ∙ c.in_ok-size.was)

pub overflow_add-at : goal.overflow_add-at
overflow_add-at c = omega (arith, (on c).within, c.loop-at.invariant.1)

pub loop-at-smaller : goal.loop-at-smaller
loop-at-smaller c =
    omega (arith, (on c).within, (size_some c.args.words.now c.loop-at.at c.in_ok-size.size (sym c.size_at.ensures ∙ c.in_ok-size.was)).some)

pub loop-at-preserved : goal.loop-at-preserved
loop-at-preserved c = let l = c.loop-at in (
  omega (arith, l.invariant.0, c.if-count-eq-LOOKUPS.false),
  l.invariant.1,
  on c,
  rw l.invariant.3 (slots_more c.args.words.now l.count l.at l.invariant.2.place),
)

pub returns : goal.returns
returns c = let ws = c.args.words.now in
    let l = c.loop-at in
    rw l.invariant.3 (sym (index_done ws l.invariant.1 l.count l.at l.invariant.2 c.loop-at-test.false))
