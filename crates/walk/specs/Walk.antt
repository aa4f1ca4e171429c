-- A walk, for any judge of places (01, port order 4). Forward and backward, with the extent of each answer.
use Rattle.std.specs.Prelude.{ℕ, zero, suc, ◌+◌, ◌-◌, max}
use Rattle.verdict.specs.declared.Verdict.{Verdict}
use Rattle.verdict.specs.declared.Verdict.TheVariants.{Match, NotMatch, Skip}
use Rattle.walk.specs.declared.Walked.{Walked}
use Rattle.walk.specs.declared.Walked.TheVariants.{Found, Stopped, RanOut}

-- what the verdict on place p makes of a forward walk; `rest` is the walk from there on. Stopped at p: extent p + 1
abbrev pub on_verdict : Verdict → ℕ → Walked → Walked
on_verdict Match p rest = Found p
on_verdict NotMatch p rest = Stopped (p + 1)
on_verdict Skip p rest = rest

-- the forward walk with n places left to test, of which `next` is the next; run out: one past the last place reached, which is `next`
unfoldable pub walk : (ℕ → Verdict) → ℕ → ℕ → Walked
walk v zero next = RanOut next
walk v (suc n) next = let rest = walk v n (next + 1) in on_verdict (v next) next rest

-- in a row of len glyphs
unfoldable pub walk_from : (ℕ → Verdict) → ℕ → ℕ → Walked
walk_from v len next = walk v (len - next) next

-- backward. Stopped at p: max(p,1) - 1
abbrev pub on_verdict_back : Verdict → ℕ → Walked → Walked
on_verdict_back Match p rest = Found p
on_verdict_back NotMatch p rest = Stopped (max p 1 - 1)
on_verdict_back Skip p rest = rest

-- back from a place: the next tested is one earlier; run out: 0
unfoldable pub walk_back : (ℕ → Verdict) → ℕ → Walked
walk_back v zero = RanOut 0
walk_back v (suc p) = let rest = walk_back v p in on_verdict_back (v p) p rest
