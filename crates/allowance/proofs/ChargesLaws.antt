-- Of charges made one after another, whatever they are: what was taken plus what remains is what was opened, in each counter, and a charge that is
-- Exhausted changes nothing. By induction on the charges, with the law of one charge (Laws). That the bytes are at most `most` holds of every
-- allowance: a counter has 64 bits.
use Rattle.std.specs.Prelude.{⊤, Result, Ok, Err, List, [], ◌∷◌, ◌++◌, ◌≡◌, ℕ, ◌+◌, ◌*◌, ◌≤◌}
use Rattle.std.proofs.Common.{ap, ◌∙◌, arith}
use Rattle.allowance.specs.declared.Budget.{Budget}
use Rattle.allowance.specs.declared.Exhausted.{Exhausted}
use Rattle.allowance.specs.Allowance.{most, opening, budget_with}
use Rattle.allowance.specs.Laws.{Balances, worked_kept, allocated_kept}
use Rattle.allowance.specs.ChargesLaws.{ChargesAddUp}
use Rattle.allowance.specs.Charges.{Charging, Visits, Things, charged_for, work_asked, bytes_asked, answers_to, left_after, sum_taken}

-- ---- one charge, in both counters

abbrev Keeps : Result ⊤ Exhausted → Charging → Budget → Budget → Type 0
Keeps (Ok u) a b left = (work_asked a + left.work ≡ b.work) × (bytes_asked a + left.bytes ≡ b.bytes)
Keeps (Err e) a b left = left ≡ b

same_budget : (b c : Budget) → b.work ≡ c.work → b.bytes ≡ c.bytes → b ≡ c
same_budget b c e f = λ i. record { work = e i; bytes = f i }

of_visits : (answer : Result ⊤ Exhausted) (n : ℕ) (b left : Budget) → Balances answer n b.work left.work b.bytes left.bytes
    → Keeps answer (Visits n) b left
unfolding work_asked bytes_asked
of_visits (Ok u) n b left k = (k.0, omega (arith, k.1))
of_visits (Err e) n b left k = same_budget left b k.1 k.2

of_things : (answer : Result ⊤ Exhausted) (n s : ℕ) (b left : Budget) → Balances answer (n * s) b.bytes left.bytes b.work left.work
    → Keeps answer (Things n s) b left
unfolding work_asked bytes_asked
of_things (Ok u) n s b left k = (omega (arith, k.1), k.0)
of_things (Err e) n s b left k = same_budget left b k.2 k.1

one_keeps : (a : Charging) (b : Budget) → b.bytes ≤ most → Keeps (charged_for a b).charge a b (charged_for a b).left
one_keeps (Visits n) b h = of_visits (charged_for (Visits n) b).charge n b (charged_for (Visits n) b).left (worked_kept b n)
one_keeps (Things n s) b h = of_things (charged_for (Things n s) b).charge n s b (charged_for (Things n s) b).left (allocated_kept b n s h)

no_more : (answer : Result ⊤ Exhausted) (a : Charging) (b left : Budget) → Keeps answer a b left → b.bytes ≤ most → left.bytes ≤ most
no_more (Ok u) a b left k h = omega (arith, k.1)
no_more (Err e) a b left k h = rw k h

left_within : (a : Charging) (b : Budget) → b.bytes ≤ most → (charged_for a b).left.bytes ≤ most
left_within a b h = no_more (charged_for a b).charge a b (charged_for a b).left (one_keeps a b h) h

-- ---- all of them

adds_more : (answer : Result ⊤ Exhausted) (a : Charging) (more : List Charging) (answers : List (Result ⊤ Exhausted)) (b mid left : Budget)
    → Keeps answer a b mid → ChargesAddUp more answers mid left → ChargesAddUp (a ∷ more) (answer ∷ answers) b left
unfolding sum_taken
adds_more (Ok u) a more answers b mid left k s = (omega (arith, k.0, s.0), omega (arith, k.1, s.1))
adds_more (Err e) a more answers b mid left k s = (s.0 ∙ ap (λ (c : Budget). c.work) k, s.1 ∙ ap (λ (c : Budget). c.bytes) k)

pub adds_up : (charges : List Charging) (b : Budget) → b.bytes ≤ most → ChargesAddUp charges (answers_to charges b) b (left_after charges b)
unfolding sum_taken answers_to left_after
adds_up [] b h = (omega arith, omega arith)
adds_up (a ∷ more) b h =
    adds_more (charged_for a b).charge a more (answers_to more (charged_for a b).left) b (charged_for a b).left
    (left_after more (charged_for a b).left)
    (one_keeps a b h) (adds_up more (charged_for a b).left (left_within a b h))

-- from the opening of a table of any size
pub opening_adds_up : (table : ℕ) (charges : List Charging) → let b = budget_with (opening table) (opening table) in
    ChargesAddUp charges (answers_to charges b) b (left_after charges b)
opening_adds_up table charges = adds_up charges (budget_with (opening table) (opening table)) (omega arith)

-- ---- Exhausted changes nothing

by_exhausted : (answer : Result ⊤ Exhausted) (a : Charging) (b left : Budget) → Keeps answer a b left → answer ≡ Err (record {}) → left ≡ b
by_exhausted (Ok u) a b left k e = cc
by_exhausted (Err x) a b left k e = k

pub exhausted_same : (a : Charging) (b : Budget) → b.bytes ≤ most → (charged_for a b).charge ≡ Err (record {}) → (charged_for a b).left ≡ b
exhausted_same a b h e = by_exhausted (charged_for a b).charge a b (charged_for a b).left (one_keeps a b h) e

-- wherever it stands among others: without it the others leave the same
pub exhausted_left_out : (before after : List Charging) (a : Charging) (b : Budget) → b.bytes ≤ most
    → (charged_for a (left_after before b)).charge ≡ Err (record {})
    → left_after (before ++ a ∷ after) b ≡ left_after (before ++ after) b
unfolding left_after
exhausted_left_out [] after a b h e = ap (left_after after) (exhausted_same a b h e)
exhausted_left_out (x ∷ before) after a b h e = exhausted_left_out before after a (charged_for x b).left (left_within x b h) e
