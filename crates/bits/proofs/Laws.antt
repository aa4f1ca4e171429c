-- Laws of every and some, and the bits of a sum by bits, of a power, and of a run of ones.
use Rattle.std.specs.Prelude.{Bool, not, ◌&&◌, ◌||◌, ◌≡◌, eqb, ltb, leb}
use Rattle.std.proofs.Math.Bool.{true, false}
use Rattle.std.proofs.Common.{true≢false, sym, ◌∙◌, eq-or-lt_of_le, lt_of_lt_of_le, le_of_lt, le_refl, pow-suc, one-mul, mul_assoc, add-one, pow_pos}
use Rattle.std.proofs.Common.{pow-add, shr-shr, shl_exact, eq-eqb, ne_eqb, ltb-true, ltb-false, leb-true, leb-false, lt-ltb, le-ltb}
use Rattle.std.proofs.Math.Path.{refl, ap}
use Rattle.std.proofs.Math.Logic.{⊎_elim}
use Prim.Native.Nat.{ℕ, zero, suc, ◌+◌, ◌-◌, ◌*◌, ◌/◌, ◌%◌, ◌^◌, min, max, ◌≤◌, ◌<◌}
use native.Mathlib.Omega.{arith}
use Rattle.std.proofs.Math.Nat.{div-eq_of_lt, max-le}
use Rattle.std.specs.Int.Bits.{bit_or, bit_and, or_step, and_step}
use Rattle.std.proofs.lemmas.Nat.{or_shr, and_shr, shl-shr}
use Rattle.std.proofs.Math.Pow.{pow-lt, high, ones_lt, ones_split, high_ones}
use Rattle.bits.specs.Bits.{bit, every, some}

-- ---- both, either

pub and_left : (a b : Bool) → (a && b) ≡ true → a ≡ true
and_left true b e = refl
and_left false b e = e

pub and_right : (a b : Bool) → (a && b) ≡ true → b ≡ true
and_right true b e = e
and_right false b e = absurd (true≢false (sym e))

pub and_both : (a b : Bool) → a ≡ true → b ≡ true → (a && b) ≡ true
and_both a b e f = rw (e, f)

pub or_left : (a b : Bool) → a ≡ true → (a || b) ≡ true
or_left a b e = rw e

pub or_right : (a b : Bool) → b ≡ true → (a || b) ≡ true
or_right true b e = refl
or_right false b e = e

pub neither_left : (a b : Bool) → (a || b) ≡ false → a ≡ false
neither_left true b e = e
neither_left false b e = refl

pub neither_right : (a b : Bool) → (a || b) ≡ false → b ≡ false
neither_right true b e = absurd (true≢false e)
neither_right false b e = e

pub or_mono : (a b c d : Bool) → (a ≡ true → c ≡ true) → (b ≡ true → d ≡ true) → (a || b) ≡ true → (c || d) ≡ true
or_mono true b c d f g e = or_left c d (f refl)
or_mono false b c d f g e = or_right c d (g e)

pub and_mono : (a b c d : Bool) → (a ≡ true → c ≡ true) → (b ≡ true → d ≡ true) → (a && b) ≡ true → (c && d) ≡ true
and_mono a b c d f g e = and_both c d (f (and_left a b e)) (g (and_right a b e))

-- ---- every and some

module _ (p : ℕ → Bool) where
  pub every_at : (n k : ℕ) → every n p ≡ true → k < n → p k ≡ true
  unfolding every
  every_at zero k e h = absurd (omega arith)
  every_at (suc n) k e h =
      let g : k ≤ n = omega arith in
      ⊎_elim (λ s. ap p s ∙ and_right (every n p) (p n) e)
      (λ l. every_at n k (and_left (every n p) (p n) e) l)
      (eq-or-lt_of_le g)

  pub every_so : (n : ℕ) → ((k : ℕ) → k < n → p k ≡ true) → every n p ≡ true
  unfolding every
  every_so zero h = refl
  every_so (suc n) h = and_both (every n p) (p n) (every_so n (λ k l. h k (omega arith))) (h n (omega arith))

  every_by : (n k : ℕ) (b : Bool) → every n p ≡ b → k < n → p k ≡ false → b ≡ false
  every_by n k true e h f = absurd (true≢false (sym (every_at n k e h) ∙ f))
  every_by n k false e h f = refl

  -- one that fails is enough
  pub every_not : (n k : ℕ) → k < n → p k ≡ false → every n p ≡ false
  every_not n k h f = every_by n k (every n p) refl h f

  -- a test of each number in turn: none yet, one more that passes, all of them
  pub every_none : every 0 p ≡ true
  unfolding every
  every_none = refl

  pub every_more : (i : ℕ) (b : Bool) → every i p ≡ true → b ≡ p i → not b ≡ false → every (i + 1) p ≡ true
  unfolding every
  every_more i true e f g = rw (add-one, e) (sym f)
  every_more i false e f g = absurd (true≢false g)

  pub every_done : (i n : ℕ) → i ≡ n → every i p ≡ true → true ≡ every n p
  every_done i n e f = sym f ∙ ap (λ (m : ℕ). every m p) e

  pub some_at : (n k : ℕ) → k < n → p k ≡ true → some n p ≡ true
  unfolding some
  some_at zero k h e = absurd (omega arith)
  some_at (suc n) k h e =
      let g : k ≤ n = omega arith in
      ⊎_elim (λ s. or_right (some n p) (p n) (ap p (sym s) ∙ e)) (λ l. or_left (some n p) (p n) (some_at n k l e))
      (eq-or-lt_of_le g)

  pub some_none : (n : ℕ) → ((k : ℕ) → k < n → p k ≡ false) → some n p ≡ false
  unfolding some
  some_none zero h = refl
  some_none (suc n) h = rw (some_none n (λ k l. h k (omega arith)), h n (omega arith))

-- tests that agree below n agree on every and on some
pub every_same : (n : ℕ) (p q : ℕ → Bool) → ((k : ℕ) → k < n → p k ≡ q k) → every n p ≡ every n q
unfolding every
every_same zero p q h = refl
every_same (suc n) p q h = rw (every_same n p q (λ k l. h k (omega arith)), h n (omega arith))

pub some_same : (n : ℕ) (p q : ℕ → Bool) → ((k : ℕ) → k < n → p k ≡ q k) → some n p ≡ some n q
unfolding some
some_same zero p q h = refl
some_same (suc n) p q h = rw (some_same n p q (λ k l. h k (omega arith)), h n (omega arith))

-- ---- a bit as a number

two : (x : ℕ) → x % 2 < 2
two x = omega arith

-- a test of the larger of two bits, and of the smaller
max-bit : (x y : ℕ) → x < 2 → y < 2 → eqb (max x y) 1 ≡ (eqb x 1 || eqb y 1)
max-bit zero zero h k = refl
max-bit zero (suc zero) h k = refl
max-bit (suc zero) zero h k = refl
max-bit (suc zero) (suc zero) h k = refl
max-bit (suc (suc x)) y h k = absurd (omega arith)
max-bit zero (suc (suc y)) h k = absurd (omega arith)
max-bit (suc zero) (suc (suc y)) h k = absurd (omega arith)

min-bit : (x y : ℕ) → x < 2 → y < 2 → eqb (min x y) 1 ≡ (eqb x 1 && eqb y 1)
min-bit zero zero h k = refl
min-bit zero (suc zero) h k = refl
min-bit (suc zero) zero h k = refl
min-bit (suc zero) (suc zero) h k = refl
min-bit (suc (suc x)) y h k = absurd (omega arith)
min-bit zero (suc (suc y)) h k = absurd (omega arith)
min-bit (suc zero) (suc (suc y)) h k = absurd (omega arith)

low : (q m : ℕ) → m < 2 → (q * 2 + m) % 2 ≡ m
low q m h = omega arith

max_two : (x y : ℕ) → x < 2 → y < 2 → max x y < 2
max_two x y p q = let h : max x y ≤ 1 = max-le (omega arith) (omega arith) in omega arith

min_two : (x y : ℕ) → x < 2 → min x y < 2
min_two x y p = omega arith

or_low : (k a b : ℕ) → bit_or a b / 2 ^ k % 2 ≡ max (a / 2 ^ k % 2) (b / 2 ^ k % 2)
or_low k a b = rw or_shr (rw or_step (low _ _ (max_two _ _ (two _) (two _))))

and_low : (k a b : ℕ) → bit_and a b / 2 ^ k % 2 ≡ min (a / 2 ^ k % 2) (b / 2 ^ k % 2)
and_low k a b = rw and_shr (rw and_step (low _ _ (min_two _ _ (two _))))

-- bit k of a bitwise OR
pub or_bit : (k a b : ℕ) → bit k (bit_or a b) ≡ (bit k a || bit k b)
or_bit k a b = ap (λ (n : ℕ). eqb n 1) (or_low k a b) ∙ max-bit (a / 2 ^ k % 2) (b / 2 ^ k % 2) (two _) (two _)

-- bit k of a bitwise AND
pub and_bit : (k a b : ℕ) → bit k (bit_and a b) ≡ (bit k a && bit k b)
and_bit k a b = ap (λ (n : ℕ). eqb n 1) (and_low k a b) ∙ min-bit (a / 2 ^ k % 2) (b / 2 ^ k % 2) (two _) (two _)

-- no bit of 0 is set
pub zero_bit : (k : ℕ) → bit k 0 ≡ false
zero_bit k =
    let e : 0 / 2 ^ k ≡ 0 = div-eq_of_lt (pow_pos k) in
    let f : 0 / 2 ^ k % 2 ≡ 0 = rw e in
    ne_eqb (0 / 2 ^ k % 2) 1 (λ z. omega arith)

-- ---- tests of orders

ltb_by : (a b : ℕ) (t : Bool) → ((t ≡ true) → a < b) → ((t ≡ false) → b ≤ a) → ltb a b ≡ t
ltb_by a b true h k = lt-ltb a b (h refl)
ltb_by a b false h k = le-ltb a b (k refl)

-- the same order, said of other numbers
pub ltb_same : (a b c d : ℕ) → (c < d → a < b) → (d ≤ c → b ≤ a) → ltb a b ≡ ltb c d
ltb_same a b c d h k = ltb_by a b (ltb c d) (λ e. h (ltb-true c d e)) (λ e. k (ltb-false c d e))

one_by : (b k : ℕ) (s t : Bool) → leb b k ≡ s → ltb k (1 + b) ≡ t → (s && t) ≡ eqb k b
one_by b k true true e f = sym (eq-eqb k b (let h = leb-true b k e in let l = ltb-true k (1 + b) f in omega arith))
one_by b k true false e f = sym (ne_eqb k b (λ z. let l = ltb-false k (1 + b) f in omega arith))
one_by b k false t e f = sym (ne_eqb k b (λ z. let l = leb-false b k e in omega arith))

-- from b up to below b + 1 there is b
between_one : (b k : ℕ) → (leb b k && ltb k (1 + b)) ≡ eqb k b
between_one b k = one_by b k (leb b k) (ltb k (1 + b)) refl refl

-- ---- a run of ones: 2 ^ n - 1 moved up by a

twice : (n : ℕ) → n * 2 % 2 ≡ 0
twice n = omega arith

-- below the place that a number is moved up to every bit is clear
moved_low : (x k d : ℕ) → bit k (x * 2 ^ (suc d + k)) ≡ false
moved_low x k d =
    let e : x * 2 ^ (suc d + k) / 2 ^ k ≡ x * 2 ^ d * 2 =
    rw (pow-add 2 (suc d) k, ← mul_assoc x (2 ^ suc d) (2 ^ k), shl-shr (x * 2 ^ suc d) k, pow-suc 2 d, ← mul_assoc x (2 ^ d) 2) in
    ap (λ (n : ℕ). eqb (n % 2) 1) e ∙ ap (λ (n : ℕ). eqb n 1) (twice (x * 2 ^ d))

-- from there on the bits are the number's own
moved_high : (x a d : ℕ) → bit (a + d) (x * 2 ^ a) ≡ bit d x
moved_high x a d =
    let e : x * 2 ^ a / 2 ^ (a + d) ≡ x / 2 ^ d = rw (← shr-shr (x * 2 ^ a) a d, shl-shr x a) in
    ap (λ (n : ℕ). eqb (n % 2) 1) e

odd : (m : ℕ) → 0 < m → (m * 2 - 1) % 2 ≡ 1
odd m h = omega arith

ones_low : (k j : ℕ) → bit k (2 ^ (suc j + k) - 1) ≡ true
ones_low k j =
    let e : (2 ^ (suc j + k) - 1) / 2 ^ k ≡ 2 ^ suc j - 1 = rw (ones_split (suc j) k) (high (2 ^ suc j - 1) k (ones_lt k)) in
    let f : (2 ^ suc j - 1) % 2 ≡ 1 = rw (pow-suc 2 j) (odd (2 ^ j) (pow_pos j)) in
    ap (λ (n : ℕ). eqb (n % 2) 1) e ∙ ap (λ (n : ℕ). eqb n 1) f

-- a number below 2 ^ k has no bit k
pub small_bit : (k x : ℕ) → x < 2 ^ k → bit k x ≡ false
small_bit k x h = ap (λ (n : ℕ). eqb (n % 2) 1) (div-eq_of_lt h)

pub pow_le : (n k : ℕ) → n ≤ k → 2 ^ n ≤ 2 ^ k
pow_le n k h = ⊎_elim (λ e. rw e (le_refl (2 ^ k))) (λ l. le_of_lt (pow-lt l)) (eq-or-lt_of_le h)

ones_by : (n k : ℕ) (t : Bool) → ltb k n ≡ t → bit k (2 ^ n - 1) ≡ t
ones_by n k true e =
    let h : k < n = ltb-true k n e in
    let f : n ≡ suc (n - k - 1) + k = omega arith in
    ap (λ (m : ℕ). bit k (2 ^ m - 1)) f ∙ ones_low k (n - k - 1)
ones_by n k false e =
    small_bit k (2 ^ n - 1) (lt_of_lt_of_le (ones_lt n) (pow_le n k (ltb-false k n e)))

-- the bits of 2 ^ n - 1 are the first n
pub ones_bit : (n k : ℕ) → bit k (2 ^ n - 1) ≡ ltb k n
ones_bit n k = ones_by n k (ltb k n) refl

run_by : (n a k : ℕ) (t : Bool) → leb a k ≡ t → bit k (2 ^ (n + a) - 2 ^ a) ≡ (t && ltb k (n + a))
run_by n a k true e =
    let h : a ≤ k = leb-true a k e in
    let f : k ≡ a + (k - a) = omega arith in
    rw (high_ones n a)
    (ap (λ (m : ℕ). bit m ((2 ^ n - 1) * 2 ^ a)) f
    ∙ moved_high (2 ^ n - 1) a (k - a)
    ∙ ones_bit n (k - a)
    ∙ ltb_same (k - a) n k (n + a) (λ l. omega arith) (λ l. omega arith))
run_by n a k false e =
    let h : k < a = leb-false a k e in
    let f : a ≡ suc (a - k - 1) + k = omega arith in
    rw (high_ones n a) (ap (λ (m : ℕ). bit k ((2 ^ n - 1) * 2 ^ m)) f ∙ moved_low (2 ^ n - 1) k (a - k - 1))

-- the bits of a run of n ones from bit a on
pub run_bit : (n a k : ℕ) → bit k (2 ^ (n + a) - 2 ^ a) ≡ (leb a k && ltb k (n + a))
run_bit n a k = run_by n a k (leb a k) refl

leb_by : (k b : ℕ) (t : Bool) → leb k b ≡ t → ltb k (b + 1) ≡ t
leb_by k b true e = lt-ltb k (b + 1) (let h = leb-true k b e in omega arith)
leb_by k b false e = le-ltb k (b + 1) (let h = leb-false k b e in omega arith)

-- the bits from a up to b, made as a sum of powers
pub span_bit : (a b k : ℕ) → a ≤ b → bit k (2 ^ b + (2 ^ b - 2 ^ a)) ≡ (leb a k && leb k b)
span_bit a b k h =
    let n : ℕ = b + 1 - a in
    let f : b + 1 - a + a ≡ b + 1 = omega arith in
    let e : 2 ^ b + (2 ^ b - 2 ^ a) ≡ 2 ^ (b + 1 - a + a) - 2 ^ a = rw (f, pow-add 2 b 1) (omega (arith, pow_le a b h)) in
    ap (bit k) e ∙ run_bit (b + 1 - a) a k ∙ rw (f, leb_by k b (leb k b) refl)

-- the one bit of a power
pub power_bit : (b k : ℕ) → bit k (2 ^ b) ≡ eqb k b
power_bit b k =
    let e : 2 ^ b ≡ 2 ^ (1 + b) - 2 ^ b = omega (arith, pow-add 2 1 b) in
    ap (bit k) e ∙ run_bit 1 b k ∙ between_one b k

-- what the code's shift makes, at 64 bits
pub shifted : (b : ℕ) → b < 64 → (1 * 2 ^ b) % 2 ^ 64 ≡ 2 ^ b
shifted b h = shl_exact 1 b 64 (omega arith) (omega arith) ∙ one-mul (2 ^ b)
