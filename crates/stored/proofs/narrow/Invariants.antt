-- A turn narrows one word more. Assumes nothing.
use Rattle.std.proofs.Common.{◌≡◌, ℕ, ◌%◌, cond, ltb, length, get_or}
use Rattle.stored.proofs.narrow.Given as goal

abbrev pub invariant-loop-k : goal.invariant-loop-k
invariant-loop-k l = (length l.out ≡ length l.initial.out)
    × ((j : ℕ) → get_or l.out j 0 ≡ cond (ltb j l.k) (get_or l.words j 0 % 65536) (get_or l.initial.out j 0))
