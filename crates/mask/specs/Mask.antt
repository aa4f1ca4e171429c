-- The bits of a mask that are met on the way from one to another. (01, port order 1.)
use Rattle.std.specs.Prelude.{Bool, cond, ◌&&◌, ◌||◌, ℕ, leb}

-- k is met on the way from bit a up to bit b, which goes round past bit 63 where b is below a
abbrev pub round : ℕ → ℕ → ℕ → Bool
round a b k = cond (leb a b) (leb a k && leb k b) (leb a k || leb k b)
