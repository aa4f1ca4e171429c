-- What holds of charges made one after another, whatever they are; proofs/ChargesLaws.antt shows it.
use Rattle.std.specs.Prelude.{List, ◌≡◌, ◌+◌, ⊤, Result}
use Rattle.allowance.specs.declared.Budget.{Budget}
use Rattle.allowance.specs.declared.Exhausted.{Exhausted}
use Rattle.allowance.specs.Charges.{Charging, work_asked, bytes_asked, sum_taken}

-- what was taken of each counter, plus what remains of it, is what it had
abbrev pub ChargesAddUp : List Charging → List (Result ⊤ Exhausted) → Budget → Budget → Type 0
ChargesAddUp charges answers b left =
    (sum_taken work_asked charges answers + left.work ≡ b.work) × (sum_taken bytes_asked charges answers + left.bytes ≡ b.bytes)
