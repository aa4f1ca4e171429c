-- Charges made one after another: their answers, what they take of each counter, and what is left. (01, port order 2.)
use Rattle.std.specs.Prelude.{List, [], ◌∷◌, ℕ, ◌+◌, ◌*◌, ⊤, Result, Ok, Err}
use Rattle.allowance.specs.declared.Budget.{Budget}
use Rattle.allowance.specs.declared.Charged.{Charged}
use Rattle.allowance.specs.declared.Exhausted.{Exhausted}
use Rattle.allowance.specs.Allowance.{worked, allocated}

-- what is charged: so many visits, or count things of size bytes each
pub data Charging : Type 0 where
  Visits : ℕ → Charging
  Things : ℕ → ℕ → Charging

abbrev pub charged_for : Charging → Budget → Charged
charged_for (Visits n) b = worked n b
charged_for (Things count size) b = allocated count size b

-- how much of it is work, and how much bytes
unfoldable pub work_asked : Charging → ℕ
work_asked (Visits n) = n
work_asked (Things count size) = 0

unfoldable pub bytes_asked : Charging → ℕ
bytes_asked (Visits n) = 0
bytes_asked (Things count size) = count * size

-- the answers, and what is left: each charge is made on what those before it left
unfoldable pub answers_to : List Charging → Budget → List (Result ⊤ Exhausted)
answers_to [] b = []
answers_to (a ∷ more) b = (charged_for a b).charge ∷ answers_to more (charged_for a b).left

unfoldable pub left_after : List Charging → Budget → Budget
left_after [] b = b
left_after (a ∷ more) b = left_after more (charged_for a b).left

-- what was taken of a counter: the sum over the charges that weren't Exhausted
unfoldable pub sum_taken : (Charging → ℕ) → List Charging → List (Result ⊤ Exhausted) → ℕ
sum_taken of [] answers = 0
sum_taken of (a ∷ more) [] = 0
sum_taken of (a ∷ more) (Ok u ∷ answers) = of a + sum_taken of more answers
sum_taken of (a ∷ more) (Err e ∷ answers) = sum_taken of more answers
