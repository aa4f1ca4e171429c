-- A digest of a set of glyphs: three masks of 64 bits, at the shifts 4, 0 and 6. (01, port order 1; set_digest.rs.)
-- Everything is said of bits: which bit k of which mask i is set.
use Rattle.std.specs.Prelude.{◌≡◌, ℕ, ◌+◌, ◌-◌, ◌/◌, ◌%◌, ◌^◌, ◌<◌, Bool, true, false, not, ◌&&◌, ◌||◌, List, [], ◌∷◌, ◌==◌, nat_le, slice_index}
use Rattle.bits.specs.Bits.{bit, every, some}
use Rattle.mask.specs.Mask.{round}
use Rattle.digest.specs.declared.SetDigest.{SetDigest}

-- bit k of mask i is set, or not
abbrev pub Bits : Type 0
Bits = ℕ → ℕ → Bool

abbrev pub bits_of : SetDigest → Bits
bits_of d i k = bit k (slice_index d.masks i)

-- the digest has these bits: three masks of 64
abbrev pub Says : SetDigest → Bits → Type 0
Says d f = (i k : ℕ) → i < 3 → k < 64 → bits_of d i k ≡ f i k

abbrev pub shift : ℕ → ℕ
shift i = slice_index (4 ∷ 0 ∷ 6 ∷ []) i

-- a glyph's bit in mask i: (g >> shift) mod 64
abbrev pub place : ℕ → ℕ → ℕ
place i g = g / 2 ^ shift i % 64

abbrev pub none_set : Bits
none_set i k = false

abbrev pub all_set : Bits
all_set i k = true

abbrev pub united : Bits → Bits → Bits
united f h i k = f i k || h i k

-- the glyph's bit in each mask is set too
abbrev pub added : ℕ → Bits → Bits
added g f i k = f i k || k == place i g

unfoldable pub added_all : List ℕ → Bits → Bits
added_all [] f = f
added_all (g ∷ gs) f = added_all gs (added g f)

-- the difference of the shifted ends, wrapping on 64 bits, is at least 63
abbrev pub wide : ℕ → ℕ → ℕ → Bool
wide i a b = nat_le 63 ((b / 2 ^ shift i + 2 ^ 64 - a / 2 ^ shift i) % 2 ^ 64)

-- the bits from a's round to b's are set too, or all 64 where the range is wide
unfoldable pub ranged : ℕ → ℕ → Bits → Bits
ranged a b f i k = f i k || (wide i a b || round (place i a) (place i b) k)

abbrev pub every_bit : Bits → Bool
every_bit f = every 3 (λ i. every 64 (f i))

-- what adding a range answers: false if all masks were full before, or if it is wide at all three shifts
abbrev pub range_yes : ℕ → ℕ → Bits → Bool
range_yes a b f = not (every_bit f) && not (every 3 (λ i. wide i a b))

-- the glyph's bit is set in each mask
abbrev pub may_have : Bits → ℕ → Bool
may_have f g = every 3 (λ i. f i (place i g))

-- in each mask some bit is set in both
abbrev pub may_intersect : Bits → Bits → Bool
may_intersect f h = every 3 (λ i. some 64 (λ k. f i k && h i k))
