-- A turn decodes one word more. Assumes nothing.
use Rattle.std.proofs.Common.{◌≡◌, ℕ, cond, ltb, length, get_or}
use Rattle.stored.specs.Stored.{stored_word}
use Rattle.stored.proofs.decode.Given as goal

abbrev pub invariant-loop-k : goal.invariant-loop-k
invariant-loop-k l = (length l.word-items ≡ length l.initial.word-items)
    × ((j : ℕ) → get_or l.word-items j 0 ≡ cond (ltb j l.k) (stored_word l.text j) (get_or l.initial.word-items j 0))
