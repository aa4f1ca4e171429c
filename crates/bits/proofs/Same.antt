-- Numbers below 2 ^ n with the same n bits are the same, so that whoever says each bit has said the number.
use Rattle.std.specs.Prelude.{Bool, true, false, not, ◌&&◌, ◌≡◌, refl, ◌↔◌, ℕ, zero, suc, ◌-◌, ◌*◌, ◌/◌, ◌%◌, ◌^◌, ◌<◌, eqb}
use Rattle.std.proofs.Common.{true≢false, sym, ap, ◌∙◌, arith, lt_of_le_of_lt, div-one, mul_comm, pow-suc, pow_pos, eq-eqb, ne_eqb, lt-ltb}
use Rattle.std.proofs.Math.Nat.{div-div-eq-div-mul}
use Rattle.std.specs.Int.Bits.{bit_and}
use Rattle.std.proofs.lemmas.Nat.{and_le_l}
use Rattle.std.proofs.Math.Pow.{ones_lt}
use Rattle.bits.specs.Bits.{bit, every, some}
use Rattle.bits.proofs.Laws.{and_both, and_bit, zero_bit, ones_bit, some_at, some_none, every_at, every_so}

-- two numbers below 2 that test alike
same_low : (x y : ℕ) → x < 2 → y < 2 → eqb x 1 ≡ eqb y 1 → x ≡ y
same_low zero zero h k e = refl
same_low zero (suc zero) h k e = absurd (true≢false (sym e))
same_low (suc zero) zero h k e = absurd (true≢false e)
same_low (suc zero) (suc zero) h k e = refl
same_low (suc (suc x)) y h k e = absurd (omega arith)
same_low zero (suc (suc y)) h k e = absurd (omega arith)
same_low (suc zero) (suc (suc y)) h k e = absurd (omega arith)

half_bit : (k x : ℕ) → x / 2 / 2 ^ k ≡ x / 2 ^ suc k
half_bit k x = rw (div-div-eq-div-mul x 2 (2 ^ k), mul_comm 2 (2 ^ k), ← pow-suc 2 k)

pub same_number : (n x y : ℕ) → x < 2 ^ n → y < 2 ^ n → ((k : ℕ) → k < n → bit k x ≡ bit k y) → x ≡ y
same_number zero x y h l e = omega arith
same_number (suc n) x y h l e =
    let hx : x < 2 ^ n * 2 = rw (pow-suc 2 n) at h in
    let hy : y < 2 ^ n * 2 = rw (pow-suc 2 n) at l in
    let lowest : x % 2 ≡ y % 2 = same_low (x % 2) (y % 2) (omega arith) (omega arith) (rw (div-one x, div-one y) at (e 0 (omega arith))) in
    let rest : x / 2 ≡ y / 2 =
    same_number n (x / 2) (y / 2) (omega arith) (omega arith)
    (λ k m.
    ap (λ (z : ℕ). eqb (z % 2) 1) (half_bit k x) ∙ e (suc k) (omega arith) ∙ ap (λ (z : ℕ). eqb (z % 2) 1) (sym (half_bit k y))) in
    omega arith

-- ---- what a test of the whole number tells of its bits

some_clear : (n : ℕ) (p : ℕ → Bool) (k : ℕ) (b : Bool) → p k ≡ b → k < n → some n p ≡ false → b ≡ false
some_clear n p k true e h f = absurd (true≢false (sym (some_at p n k h e) ∙ f))
some_clear n p k false e h f = refl

not_both : (s t : Bool) → (s ≡ true → t ≡ true → ⊥) → (s && t) ≡ false
not_both true true h = absurd (h refl refl)
not_both true false h = refl
not_both false t h = refl

below_power : (n : ℕ) → n < 2 ^ n
below_power zero = pow_pos 0
below_power (suc n) = rw (pow-suc 2 n) (omega (arith, below_power n))

no_common : (n a b : ℕ) → a < 2 ^ n → some n (λ k. bit k a && bit k b) ≡ false → bit_and a b ≡ 0
no_common n a b h f =
    same_number n (bit_and a b) 0 (lt_of_le_of_lt (and_le_l a b) h) (pow_pos n)
    (λ k l. and_bit k a b ∙ some_clear n (λ j. bit j a && bit j b) k (bit k a && bit k b) refl l f ∙ sym (zero_bit k))

common_by : (n a b : ℕ) (t : Bool) → a < 2 ^ n → some n (λ k. bit k a && bit k b) ≡ t → not (eqb (bit_and a b) 0) ≡ t
common_by n a b false h f = ap not (eq-eqb (bit_and a b) 0 (no_common n a b h f))
common_by n a b true h f =
    ap not
    (ne_eqb (bit_and a b) 0
    (λ z.
    let none : some n (λ k. bit k a && bit k b) ≡ false =
    some_none (λ k. bit k a && bit k b) n (λ k l. sym (and_bit k a b) ∙ ap (bit k) z ∙ zero_bit k) in
    absurd (true≢false (sym f ∙ none))))

-- a bitwise AND is not 0 exactly when some bit is set in both
pub common_bit : (n a b : ℕ) → a < 2 ^ n → not (eqb (bit_and a b) 0) ≡ some n (λ k. bit k a && bit k b)
common_bit n a b h = common_by n a b (some n (λ k. bit k a && bit k b)) h refl

-- a bitwise AND is 0 exactly when no bit is set in both
pub no_common_bit : (a b : ℕ) → (bit_and a b ≡ 0) ↔ ((k : ℕ) → bit k a ≡ true → bit k b ≡ true → ⊥)
no_common_bit a b = (
  λ e k s t. true≢false (sym (and_both (bit k a) (bit k b) s t) ∙ sym (and_bit k a b) ∙ ap (bit k) e ∙ zero_bit k),
  λ h. no_common a a b (below_power a) (some_none (λ k. bit k a && bit k b) a (λ k l. not_both (bit k a) (bit k b) (h k))),
)

full_by : (n m : ℕ) (t : Bool) → m < 2 ^ n → every n (λ k. bit k m) ≡ t → eqb m (2 ^ n - 1) ≡ t
full_by n m true h f =
    eq-eqb m (2 ^ n - 1)
    (same_number n m (2 ^ n - 1) h (ones_lt n) (λ k l. every_at (λ k. bit k m) n k f l ∙ sym (ones_bit n k ∙ lt-ltb k n l)))
full_by n m false h f =
    ne_eqb m (2 ^ n - 1)
    (λ z.
    let all : every n (λ k. bit k m) ≡ true =
    every_so (λ k. bit k m) n (λ k l. ap (bit k) z ∙ ones_bit n k ∙ lt-ltb k n l) in
    absurd (true≢false (sym all ∙ f)))

-- a number of n bits is 2 ^ n - 1 exactly when every bit is set
pub full_bits : (n m : ℕ) → m < 2 ^ n → eqb m (2 ^ n - 1) ≡ every n (λ k. bit k m)
full_bits n m h = full_by n m (every n (λ k. bit k m)) h refl
