-- The tests that the lines of 01's table of refusals are made of ("When the desk says no"): a test is false exactly where the line lets pass.
use Rattle.std.specs.Prelude.{◌≡◌, Bool, false, ◌||◌, List, ◌↔◌, ℕ, ◌%◌, ◌≤◌, ◌<◌, eqb, leb, ltb, length}
use Rattle.std.proofs.Common.{arith, le-ltb, eq-eqb, ne_eqb, leb-false, ltb-false, eqb-true}
use Rattle.std.proofs.lemmas.Bool.{lt-leb, eqb-false, not-false}
use Rattle.bits.proofs.Laws.{neither_left, neither_right}
use Rattle.glyph.specs.Sets.{odd_sets}

pub both : {P Q : Type 0} (a b : Bool) → ((a ≡ false) ↔ P) → ((b ≡ false) ↔ Q) → ((a || b) ≡ false) ↔ (P × Q)
both a b p q = (λ e. (p.0 (neither_left a b e), q.0 (neither_right a b e)), λ h. rw (p.1 h.0, q.1 h.1))

pub at_or_past : (a b : ℕ) → (leb a b ≡ false) ↔ (b < a)
at_or_past a b = (leb-false a b, lt-leb a b)

pub over : (a b : ℕ) → (ltb a b ≡ false) ↔ (b ≤ a)
over a b = (ltb-false a b, le-ltb a b)

pub nothing : (n : ℕ) → (eqb n 0 ≡ false) ↔ (1 ≤ n)
nothing n = (λ e. let z = eqb-false n 0 e in omega arith, λ h. ne_eqb n 0 (λ z. omega arith))

-- mark sets
pub paired : (sets : List ℕ) → (odd_sets sets ≡ false) ↔ (length sets % 2 ≡ 0)
paired sets = (λ e. eqb-true (length sets % 2) 0 (not-false (eqb (length sets % 2) 0) e), λ e. rw (eq-eqb (length sets % 2) 0 e))
