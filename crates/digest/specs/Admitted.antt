-- What a digest is for: whatever was added to it is admitted, by whichever call, and two that have no bit in common
-- in some mask admit no glyph in common. (01, port order 1.)
use Rattle.std.specs.Prelude.{◌≡◌, ℕ, zero, suc, ◌+◌, ◌-◌, ◌*◌, ◌/◌, ◌%◌, ◌^◌, ◌<◌, ◌≤◌, Bool, true, false, cond, ◌&&◌, ◌||◌, List, [], ◌∷◌, length}
use Rattle.std.specs.Prelude.{◌==◌, ◌≢◌, nat_le, slice_index, refl}
use Rattle.std.proofs.Common.{true≢false, sym, ap, ◌∙◌, ⊎_elim, arith, eq-or-lt_of_le, le_refl, mul-le-mul_right, add-mul, one-mul, div-mul-le_self}
use Rattle.std.proofs.Common.{pow_pos, eq-eqb, le-leb, leb-true, leb-false}
use Rattle.std.proofs.Math.Nat.{lt-div-mul-add}
use Rattle.std.proofs.Math.Pow.{shr_mono}
use Rattle.std.proofs.lemmas.Nat.{shr_le, shl-shr}
use Rattle.bits.specs.Bits.{some}
use Rattle.bits.proofs.Laws.{and_left, and_right, and_both, or_left, or_right, every_at, every_so, some_at}
use Rattle.mask.specs.Mask.{round}
use Rattle.digest.specs.Digest.{Bits, shift, place, united, added, added_all, wide, ranged, may_have, may_intersect}

-- every bit of the first is a bit of the second
abbrev pub BitsWithin : Bits → Bits → Type 0
BitsWithin f h = (i k : ℕ) → f i k ≡ true → h i k ≡ true

-- more bits admit no fewer glyphs
pub admits_more : (f h : Bits) (g : ℕ) → BitsWithin f h → may_have f g ≡ true → may_have h g ≡ true
admits_more f h g w e =
    every_so (λ i. h i (place i g)) 3 (λ i l. w i (place i g) (every_at (λ i. f i (place i g)) 3 i e l))

module _ (f : Bits) where
  pub added_keeps : (g : ℕ) → BitsWithin f (added g f)
  added_keeps g i k e = or_left (f i k) (k == place i g) e

  -- by add
  pub added_admits : (g : ℕ) → may_have (added g f) g ≡ true
  added_admits g = every_so (λ i. added g f i (place i g)) 3
      (λ i l. or_right (f i (place i g)) (place i g == place i g) (eq-eqb (place i g) (place i g) refl))

  -- by union, from either side
  pub union_admits_left : (h : Bits) (g : ℕ) → may_have f g ≡ true → may_have (united f h) g ≡ true
  union_admits_left h g e = admits_more f (united f h) g (λ i k t. or_left (f i k) (h i k) t) e

  pub union_admits_right : (h : Bits) (g : ℕ) → may_have h g ≡ true → may_have (united f h) g ≡ true
  union_admits_right h g e = admits_more h (united f h) g (λ i k t. or_right (f i k) (h i k) t) e

  pub ranged_keeps : (a b : ℕ) → BitsWithin f (ranged a b f)
  unfolding ranged
  ranged_keeps a b i k e = or_left (f i k) (wide i a b || round (place i a) (place i b) k) e

pub added_all_keeps : (gs : List ℕ) (f : Bits) → BitsWithin f (added_all gs f)
unfolding added_all
added_all_keeps [] f i k e = e
added_all_keeps (g ∷ gs) f i k e = added_all_keeps gs (added g f) i k (added_keeps f g i k e)

-- by array: the glyph at each place of the list
pub array_admits : (gs : List ℕ) (f : Bits) (n : ℕ) → n < length gs → may_have (added_all gs f) (slice_index gs n) ≡ true
unfolding added_all
array_admits [] f n h = absurd (omega arith)
array_admits (g ∷ gs) f zero h = admits_more (added g f) (added_all gs (added g f)) g (added_all_keeps gs (added g f)) (added_admits f g)
array_admits (g ∷ gs) f (suc n) h = array_admits gs (added g f) n (omega arith)

-- ---- ranges

-- on the way from x to y, of which the way is shorter than once round, each number's bit is met
met_by : (x z y : ℕ) (t : Bool) → x ≤ z → z ≤ y → y - x < 63 → nat_le (x % 64) (y % 64) ≡ t
    → cond t (nat_le (x % 64) (z % 64) && nat_le (z % 64) (y % 64)) (nat_le (x % 64) (z % 64) || nat_le (z % 64) (y % 64)) ≡ true
met_by x z y true h l m e =
    let n = leb-true (x % 64) (y % 64) e in
    and_both (nat_le (x % 64) (z % 64)) (nat_le (z % 64) (y % 64)) (le-leb (x % 64) (z % 64) (omega arith)) (le-leb (z % 64) (y % 64) (omega arith))
met_by x z y false h l m e =
    let n = leb-false (x % 64) (y % 64) e in
    either (nat_le (x % 64) (z % 64)) refl
  where
    either : (b : Bool) → nat_le (x % 64) (z % 64) ≡ b → (nat_le (x % 64) (z % 64) || nat_le (z % 64) (y % 64)) ≡ true
    either true f = or_left (nat_le (x % 64) (z % 64)) (nat_le (z % 64) (y % 64)) f
    either false f =
        let k = leb-false (x % 64) (z % 64) f in
        let n = leb-false (x % 64) (y % 64) e in
        or_right (nat_le (x % 64) (z % 64)) (nat_le (z % 64) (y % 64)) (le-leb (z % 64) (y % 64) (omega arith))

module _ (i a b : ℕ) (up : a ≤ b) (small : b < 2 ^ 32) where
  -- a range that is not wide is less than 63 long at the shift
  narrow : wide i a b ≡ false → b / 2 ^ shift i - a / 2 ^ shift i < 63
  narrow e =
      let h = leb-false 63 ((b / 2 ^ shift i + 2 ^ 64 - a / 2 ^ shift i) % 2 ^ 64) e in
      omega (arith, shr_mono (shift i) up, shr_le b (shift i))

  met : (g : ℕ) → a ≤ g → g ≤ b → wide i a b ≡ false → round (place i a) (place i b) (place i g) ≡ true
  met g h l e =
      met_by (a / 2 ^ shift i) (g / 2 ^ shift i) (b / 2 ^ shift i) (nat_le (place i a) (place i b)) (shr_mono (shift i) h) (shr_mono (shift i) l)
      (narrow e) refl

  set_by : (g : ℕ) (t : Bool) → a ≤ g → g ≤ b → wide i a b ≡ t → (wide i a b || round (place i a) (place i b) (place i g)) ≡ true
  set_by g true h l e = or_left (wide i a b) (round (place i a) (place i b) (place i g)) e
  set_by g false h l e = or_right (wide i a b) (round (place i a) (place i b) (place i g)) (met g h l e)

-- by range: every glyph from a to b
pub range_admits : (a b g : ℕ) (f : Bits) → a ≤ g → g ≤ b → b < 2 ^ 32 → may_have (ranged a b f) g ≡ true
unfolding ranged
range_admits a b g f h l small =
    every_so (λ i. ranged a b f i (place i g)) 3
    (λ i m. or_right (f i (place i g)) (wide i a b || round (place i a) (place i b) (place i g))
    (set_by i a b (omega arith) small g (wide i a b) h l refl))

-- a number on the way from x to y whose bit is k
abbrev reached : ℕ → ℕ → ℕ
reached x k = x + (k + 64 - x % 64) % 64

reached_bit : (x k : ℕ) → k < 64 → reached x k % 64 ≡ k
reached_bit x k h = omega arith

reached_by : (x y k : ℕ) (s t : Bool) → x ≤ y → y - x < 63 → k < 64 → nat_le (x % 64) (y % 64) ≡ s → nat_le (x % 64) k ≡ t
    → cond s (nat_le (x % 64) k && nat_le k (y % 64)) (nat_le (x % 64) k || nat_le k (y % 64)) ≡ true → reached x k ≤ y
reached_by x y k true t h l m e f r =
    let p = leb-true (x % 64) (y % 64) e in
    let q = leb-true (x % 64) k (and_left (nat_le (x % 64) k) (nat_le k (y % 64)) r) in
    let o = leb-true k (y % 64) (and_right (nat_le (x % 64) k) (nat_le k (y % 64)) r) in
    omega arith
reached_by x y k false true h l m e f r =
    let p = leb-false (x % 64) (y % 64) e in
    let q = leb-true (x % 64) k f in
    omega arith
reached_by x y k false false h l m e f r =
    let p = leb-false (x % 64) (y % 64) e in
    let q = leb-false (x % 64) k f in
    let o = leb-true k (y % 64) (sym (ap (λ (b : Bool). b || nat_le k (y % 64)) f) ∙ r) in
    omega arith

-- a number z at the shift from a's to b's is that of a glyph from a to b
between : (a b s z : ℕ) → a ≤ b → a / 2 ^ s ≤ z → z ≤ b / 2 ^ s → (g : ℕ) × ((a ≤ g) × (g ≤ b) × (g / 2 ^ s ≡ z))
between a b s z h l m =
    ⊎_elim (λ e. (a, (le_refl a, h, e)))
    (λ n.
    let above : (a / 2 ^ s + 1) * 2 ^ s ≤ z * 2 ^ s = mul-le-mul_right (2 ^ s) (omega arith) in
    let below : z * 2 ^ s ≤ b / 2 ^ s * 2 ^ s = mul-le-mul_right (2 ^ s) m in
    let next : a < a / 2 ^ s * 2 ^ s + 2 ^ s = lt-div-mul-add (pow_pos s) in
    let sum : (a / 2 ^ s + 1) * 2 ^ s ≡ a / 2 ^ s * 2 ^ s + 2 ^ s = rw (add-mul, one-mul) in
    (z * 2 ^ s, (omega arith, omega (arith, div-mul-le_self b (2 ^ s)), shl-shr z s)))
    (eq-or-lt_of_le l)

-- a range that is not wide sets only the bits of the values between
pub range_only : (i a b k : ℕ) → a ≤ b → b < 2 ^ 32 → k < 64 → wide i a b ≡ false → round (place i a) (place i b) k ≡ true
    → (g : ℕ) × ((a ≤ g) × (g ≤ b) × (place i g ≡ k))
range_only i a b k up small h e r =
    let x = a / 2 ^ shift i in
    let y = b / 2 ^ shift i in
    let l : reached x k ≤ y =
    reached_by x y k (nat_le (x % 64) (y % 64)) (nat_le (x % 64) k) (shr_mono (shift i) up) (narrow i a b up small e) h refl refl r in
    let g = between a b (shift i) (reached x k) up (omega arith) l in
    (g.0, (g.1.0, g.1.1, ap (λ (n : ℕ). n % 64) g.1.2 ∙ reached_bit x k h))

-- and the bits of all of them
pub range_each : (i a b g : ℕ) → a ≤ g → g ≤ b → b < 2 ^ 32 → wide i a b ≡ false → round (place i a) (place i b) (place i g) ≡ true
range_each i a b g h l small e = met i a b (omega arith) small g h l e

-- ---- two digests

pub intersect_so : (f h : Bits) (g : ℕ) → may_have f g ≡ true → may_have h g ≡ true → may_intersect f h ≡ true
intersect_so f h g e t =
    every_so (λ i. some 64 (λ k. f i k && h i k)) 3
    (λ i l.
    some_at (λ k. f i k && h i k) 64 (place i g) (omega arith)
    (and_both (f i (place i g)) (h i (place i g)) (every_at (λ i. f i (place i g)) 3 i e l) (every_at (λ i. h i (place i g)) 3 i t l)))

-- false only if no glyph is admitted by both
pub apart : (f h : Bits) (g : ℕ) → may_intersect f h ≡ false → may_have f g ≡ true → may_have h g ≢ true
apart f h g n e t = true≢false (sym (intersect_so f h g e t) ∙ n)
