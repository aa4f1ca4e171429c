-- For C, a layout of our own: an allowance as it is lent: what is left of the work, then of the bytes.
use Rattle.std.specs.Prelude.{List, [], ◌∷◌, ℕ, get_or}
use Rattle.allowance.specs.declared.Budget.{Budget}

abbrev pub budget_of : List ℕ → Budget
budget_of left = record { work = get_or left 0 0; bytes = get_or left 1 0 }

abbrev pub budget_words : Budget → List ℕ
budget_words b = b.work ∷ b.bytes ∷ []
