-- The measure is twice the depth, and one more for a lookup: it falls from a chain to the lookups of its records, and from a lookup to its chain.
-- The loop's invariant: the records that are left, from here, do what all of them do from the start, and the level is sound over the text.
use Rattle.std.proofs.Common.{length, ◌+◌, ◌≡◌}
use Rattle.std.specs.Slice.Iter.{chunks_exact_rest, chunks_exact_size}
use Rattle.book.specs.Book.{records_of}
use Rattle.run.specs.Run.{records_by}
use Rattle.run_step.specs.State.{stage_of, Able}
use Rattle.run_cycle.specs.Turns.{nested_at}
use Rattle.run_cycle.proofs.+chain_lookup.Given as goal

abbrev pub decreases-chain : goal.decreases-chain
decreases-chain l = l.depth + l.depth

abbrev pub decreases-lookup : goal.decreases-lookup
decreases-lookup l = l.depth + l.depth + 1

abbrev pub invariant-chain-loop-pair : goal.invariant-chain-loop-pair
invariant-chain-loop-pair l =
    let o = l.initial in
    let h = l.shared in
    (length l.done ≡ length o.done) × (length l.coming ≡ length o.coming) × Able l.done l.coming l.st l.lv
    × (records_by (nested_at h.given h.sets.now h.book.now l.depth) l.depth (records_of (chunks_exact_rest l.pair-iterator))
    (stage_of l.done l.coming l.st l.lv)
    ≡ records_by (nested_at h.given h.sets.now h.book.now l.depth) l.depth (records_of l.recs) (stage_of o.done o.coming o.st o.lv))
    × (chunks_exact_size l.pair-iterator ≡ 2)
