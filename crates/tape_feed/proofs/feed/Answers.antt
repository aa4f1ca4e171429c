-- What comes of the bytes that are still to be taken comes of the whole. Assumes nothing.
use Rattle.std.proofs.Common.{arith, inl, length, take, ◌-◌, ◌∙◌, ◌≡◌}
use Rattle.tape_answer.specs.TapeLaws.{taken_full, taken_all, leads_on, leads_end}
use Rattle.tape_feed.proofs.feed.Goals as goal

pub returns-then-out-written-lt-MOST_ANSWER-clause-feeds : goal.returns-then-out-written-lt-MOST_ANSWER-clause-feeds
returns-then-out-written-lt-MOST_ANSWER-clause-feeds c = let l = c.loop-at in
    let a = c.args in
    leads_end a.piece.now a.from (take a.n a.kept.now) a.out.now a.m l.at (take l.held l.kept) l.out l.written
    l.invariant.3
    (taken_full a.piece.now l.at (length l.out - l.written) (take l.held l.kept) c.loop-at-test.true c.if-out-written-lt-MOST_ANSWER.true)

pub loop-at-preserved : goal.loop-at-preserved
loop-at-preserved c =
    let a = c.args in
    let l = c.loop-at in
    let t = c.take_byte-taken in (
      t.ensures.kept_le_most_kept.0,
      t.auto.kept ∙ l.invariant.1,
      omega (arith, t.ensures.kept_le_most_kept.1, t.auto.out),
      leads_on a.piece.now a.from (take a.n a.kept.now) a.out.now a.m l.at
          (take l.held l.kept) l.out l.written
          (take t.result.kept t.new.kept) t.new.out t.result.written
          c.loop-at-test.true
          c.if-out-written-lt-MOST_ANSWER.false
          t.ensures.kept_after t.ensures.puts t.auto.out t.ensures.kept_le_most_kept.1 l.invariant.3,
      inl (omega arith),
    )

pub returns-clause-feeds : goal.returns-clause-feeds
returns-clause-feeds c =
    let l = c.loop-at in
    let a = c.args in
    let end : l.at ≡ length a.piece.now = omega arith in
    rw (← end)
    (leads_end a.piece.now a.from (take a.n a.kept.now) a.out.now a.m l.at (take l.held l.kept) l.out l.written
    l.invariant.3
    (taken_all a.piece.now l.at (length l.out - l.written) (take l.held l.kept) c.loop-at-test.false))
