-- Words that definitions are made of: bit k of a number, a test of every number below n or of some, and cells that hold 0.
use Rattle.std.specs.Prelude.{Bool, true, false, ◌&&◌, ◌||◌, ℕ, zero, suc, ◌/◌, ◌%◌, ◌^◌, List, eqb, replicate}

-- bit k of a number, counted from the lowest, which is bit 0
abbrev pub bit : ℕ → ℕ → Bool
bit k n = eqb (n / 2 ^ k % 2) 1

-- every number below n passes the test
unfoldable pub every : ℕ → (ℕ → Bool) → Bool
every zero p = true
every (suc n) p = every n p && p n

-- some number below n passes the test
unfoldable pub some : ℕ → (ℕ → Bool) → Bool
some zero p = false
some (suc n) p = some n p || p n

-- n cells that hold 0
abbrev pub zeros : ℕ → List ℕ
zeros n = replicate n 0
