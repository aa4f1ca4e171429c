-- The code's side: one AND tells an ignorable glyph: the flag bits that count are the default ignorable's and each that isn't ignored.
-- Only the low four flags count, so a table of 16 values, which computes, is the whole of it.
use Rattle.std.specs.Prelude.{ℕ, ◌+◌, ◌/◌, ◌%◌, ◌^◌, ◌<◌, ◌≡◌, refl, Bool, true, false, cond, eqb}
use Rattle.std.proofs.Common.{ap, ◌∙◌, arith}
use Rattle.std.proofs.lemmas.Bool.{agree_below, agree_below_at}
use Rattle.std.specs.Int.Bits.{bit_and}
use Rattle.std.proofs.lemmas.Nat.{and_mod, and_le_r}
use Rattle.verdict.specs.Verdict.{ignorable_by}

abbrev pub care_of : Bool → Bool → Bool → ℕ
care_of zwnj zwj hidden = 1 + cond zwnj 0 2 + cond zwj 0 4 + cond hidden 0 8

low_and : (f k : ℕ) → k < 16 → bit_and f k ≡ bit_and (f % 16) k
low_and f k h =
    let e : k % 16 ≡ k = omega arith in
    let low : bit_and f k % 16 ≡ bit_and (f % 16) k = and_mod f k 4 ∙ ap (bit_and (f % 16)) e in
    omega (arith, and_le_r f k)

module _ (f : ℕ) where
  low_bit0 : f % 16 / 2 ^ 0 % 2 ≡ f / 2 ^ 0 % 2
  low_bit0 = omega arith

  low_bit1 : f % 16 / 2 ^ 1 % 2 ≡ f / 2 ^ 1 % 2
  low_bit1 = omega arith

  low_bit2 : f % 16 / 2 ^ 2 % 2 ≡ f / 2 ^ 2 % 2
  low_bit2 = omega arith

  low_bit3 : f % 16 / 2 ^ 3 % 2 ≡ f / 2 ^ 3 % 2
  low_bit3 = omega arith

low_ignorable : (z j h : Bool) (f : ℕ) → ignorable_by z j h (f % 16) ≡ ignorable_by z j h f
low_ignorable z j h f = rw (low_bit0 f, low_bit1 f, low_bit2 f, low_bit3 f)

by_table : (z j h : Bool) (f : ℕ) → care_of z j h < 16
    → agree_below (λ x. eqb (bit_and x (care_of z j h)) 1) (ignorable_by z j h) 16 ≡ true
    → eqb (bit_and f (care_of z j h)) 1 ≡ ignorable_by z j h f
by_table z j h f l e =
    ap (λ (n : ℕ). eqb n 1) (low_and f (care_of z j h) l)
    ∙ agree_below_at (λ x. eqb (bit_and x (care_of z j h)) 1) (ignorable_by z j h) 16 (f % 16) e (omega arith)
    ∙ low_ignorable z j h f

pub care_tells : (z j h : Bool) (f : ℕ) → eqb (bit_and f (care_of z j h)) 1 ≡ ignorable_by z j h f
care_tells true true true f = by_table true true true f (omega arith) refl
care_tells true true false f = by_table true true false f (omega arith) refl
care_tells true false true f = by_table true false true f (omega arith) refl
care_tells true false false f = by_table true false false f (omega arith) refl
care_tells false true true f = by_table false true true f (omega arith) refl
care_tells false true false f = by_table false true false f (omega arith) refl
care_tells false false true f = by_table false false true f (omega arith) refl
care_tells false false false f = by_table false false false f (omega arith) refl
