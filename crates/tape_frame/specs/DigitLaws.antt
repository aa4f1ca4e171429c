-- A line two digits at a time: what a turn of the code's loop does, and where it ends.
use Rattle.std.specs.Prelude.{ℕ, suc, ◌+◌, ◌*◌, ◌/◌, ◌%◌, ◌≤◌, ◌<◌, ◌≡◌, refl, List, [], ◌∷◌, true, false, ◌&&◌, length, get_or, drop}
use Rattle.std.proofs.Common.{ap, ◌∙◌, arith, lt-ltb, le-ltb, drop_of_length-le, drop-cons}
use Rattle.std.specs.Char.{digit_value}
use Rattle.std.proofs.lemmas.Bool.Decides.{nat_tests}
use Rattle.std.proofs.Math.Bool.{and-false}
use Rattle.tape_frame.specs.Digits.{no_digit, digit, is_digit, spells, bytes_of}

-- a pair taken off
drop_pair : (l : List ℕ) (i : ℕ) → 2 * i + 1 < length l
    → drop (2 * i) l ≡ get_or l (2 * i) 0 ∷ get_or l (2 * i + 1) 0 ∷ drop (2 * (i + 1)) l
drop_pair l i h =
    let e : suc (suc (2 * i)) ≡ 2 * (i + 1) = omega arith in
    let f : suc (2 * i) ≡ 2 * i + 1 = omega arith in
    drop-cons l (2 * i) 0 (omega arith)
    ∙ ap (λ (r : List ℕ). get_or l (2 * i) 0 ∷ r)
    (drop-cons l (suc (2 * i)) 0 (omega arith)
    ∙ ap (λ (n : ℕ). get_or l n 0 ∷ drop (suc (suc (2 * i))) l) f
    ∙ ap (λ (n : ℕ). get_or l (2 * i + 1) 0 ∷ drop n l) e)

module _ (l : List ℕ) (i : ℕ) (h : 2 * i + 1 < length l) where
  pub bytes_step : bytes_of (drop (2 * i) l) ≡ (digit (get_or l (2 * i) 0) * 16 + digit (get_or l (2 * i + 1) 0)) ∷ bytes_of (drop (2 * (i + 1)) l)
  unfolding bytes_of
  bytes_step = rw (drop_pair l i h)

  spells_step : spells (drop (2 * i) l) ≡ ((is_digit (get_or l (2 * i) 0) && is_digit (get_or l (2 * i + 1) 0)) && spells (drop (2 * (i + 1)) l))
  unfolding spells
  spells_step = rw (drop_pair l i h)

  -- both are digits
  pub spells_on : digit (get_or l (2 * i) 0) < no_digit → digit (get_or l (2 * i + 1) 0) < no_digit
      → spells (drop (2 * i) l) ≡ spells (drop (2 * (i + 1)) l)
  spells_on p q =
      spells_step
      ∙ rw (lt-ltb (digit (get_or l (2 * i) 0)) no_digit p, lt-ltb (digit (get_or l (2 * i + 1) 0)) no_digit q)

  -- one of them is none
  pub spells_high : no_digit ≤ digit (get_or l (2 * i) 0) → spells (drop (2 * i) l) ≡ false
  spells_high p = spells_step ∙ rw (le-ltb (digit (get_or l (2 * i) 0)) no_digit p)

  pub spells_low : no_digit ≤ digit (get_or l (2 * i + 1) 0) → spells (drop (2 * i) l) ≡ false
  spells_low p =
      spells_step
      ∙ rw (le-ltb (digit (get_or l (2 * i + 1) 0)) no_digit p, and-false (is_digit (get_or l (2 * i) 0)))

module _ (l : List ℕ) (n : ℕ) (h : length l ≤ n) where
  pub spells_end : spells (drop n l) ≡ true
  unfolding spells
  spells_end = rw (drop_of_length-le l {i = n} h)

  pub bytes_end : bytes_of (drop n l) ≡ []
  unfolding bytes_of
  bytes_end = rw (drop_of_length-le l {i = n} h)

-- an odd digit
pub spells_odd : (l : List ℕ) → (length l % 2 ≡ 0 → ⊥) → spells l ≡ false
unfolding spells
spells_odd [] h = absurd (h refl)
spells_odd (a ∷ []) h = refl
spells_odd (a ∷ b ∷ rest) h =
    rw (spells_odd rest (λ e. h (omega arith))) (and-false (is_digit a && is_digit b))

-- what is spelled has a pair for each byte
pub length_bytes : (l : List ℕ) → length (bytes_of l) ≡ length l / 2
unfolding bytes_of
length_bytes [] = refl
length_bytes (a ∷ []) = refl
length_bytes (a ∷ b ∷ rest) = let e = length_bytes rest in omega arith

-- ---- digits as std reads them

pub digit_told : (b : ℕ) → digit_value b < 16 → digit b ≡ digit_value b
unfolding digit
digit_told b h = grind (arith, nat_tests)

pub digit_not : (b : ℕ) → ¬ (digit_value b < 16) → digit b ≡ no_digit
unfolding digit
digit_not b h = grind (arith, nat_tests)
