-- A bench card: what the definitions give, and what the paper says. (01, "Bench cards".)
-- Each answer is a list of lists of numbers, as the card reads from left to right; yes is 1.
use Rattle.std.specs.Prelude.{List, ℕ}

pub record Card : Type 0 where
  pub given : List (List ℕ)
  pub wanted : List (List ℕ)
