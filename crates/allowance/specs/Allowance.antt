-- Allowances: two numbers that only fall, one for work and one for bytes. (01, port order 2; budget.rs.)
use Rattle.std.specs.Prelude.{Bool, cond, ⊤, Result, Ok, Err, ℕ, ◌-◌, ◌*◌, ◌^◌, min, max, ltb, leb}
use Rattle.allowance.specs.declared.Budget.{Budget}
use Rattle.std.specs.Result.{is_ok}
use Rattle.allowance.specs.declared.Charged.{Charged}
use Rattle.allowance.specs.declared.Exhausted.{Exhausted}

-- the largest number of 64 bits
abbrev pub most : ℕ
most = 2 ^ 64 - 1

-- the opening size: bytes × 256 saturating, held to 4,194,304 .. 134,217,728
abbrev pub opening : ℕ → ℕ
opening bytes = max 4194304 (min 134217728 (min most (bytes * 256)))

abbrev pub budget_with : ℕ → ℕ → Budget
budget_with work bytes = record { work = work; bytes = bytes }

-- the charge was taken, and not Exhausted
abbrev pub was_taken : Result ⊤ Exhausted → Bool
was_taken charge = is_ok charge

-- what is answered, beside what is left
abbrev pub charge_taken : Budget → Charged
charge_taken b = record { charge = Ok tt; left = b }

abbrev pub charge_exhausted : Budget → Charged
charge_exhausted b = record { charge = Err (record {}); left = b }

-- more than remains is Exhausted and takes nothing; anything else, 0 always, is taken
unfoldable pub worked : ℕ → Budget → Charged
worked visits b =
    cond (leb visits b.work) (charge_taken (budget_with (b.work - visits) b.bytes)) (charge_exhausted b)

-- the same for count × size bytes; a product that passes 64 bits is Exhausted
unfoldable pub allocated : ℕ → ℕ → Budget → Charged
allocated count size b =
    cond (ltb most (count * size)) (charge_exhausted b)
    (cond (leb (count * size) b.bytes) (charge_taken (budget_with b.work (b.bytes - count * size))) (charge_exhausted b))
