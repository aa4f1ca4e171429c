-- Glyphs added one by one (01, port order 1): what a turn over a list and its end do, and that digests with the same bits stay so.
use Rattle.std.specs.Prelude.{◌≡◌, ℕ, ◌+◌, ◌<◌, ◌≤◌, Bool, ◌||◌, List, [], ◌∷◌, length, drop, ◌==◌, slice_index}
use Rattle.std.proofs.Common.{ap, add-one, drop_of_length-le, drop-cons}
use Rattle.digest.specs.Digest.{Bits, place, added, added_all}

-- the same bits, as far as a digest has them
abbrev pub SameBits : Bits → Bits → Type 0
SameBits f h = (i k : ℕ) → i < 3 → k < 64 → f i k ≡ h i k

pub added_same : (g : ℕ) (f h : Bits) → SameBits f h → SameBits (added g f) (added g h)
added_same g f h s i k l m = ap (λ (b : Bool). b || k == place i g) (s i k l m)

-- a glyph more, and no glyph: what a turn over the list does, and its end
pub added_all_on : (gs : List ℕ) (i : ℕ) (f : Bits) → i < length gs → added_all (drop i gs) f
    ≡ added_all (drop (i + 1) gs) (added (slice_index gs i) f)
unfolding added_all
added_all_on gs i f h = rw (drop-cons gs i 0 h, add-one)

pub added_all_end : (gs : List ℕ) (i : ℕ) (f : Bits) → length gs ≤ i → added_all (drop i gs) f ≡ f
unfolding added_all
added_all_end gs i f h = rw (drop_of_length-le gs {i = i} h)

pub added_all_same : (gs : List ℕ) (f h : Bits) → SameBits f h → SameBits (added_all gs f) (added_all gs h)
unfolding added_all
added_all_same [] f h s = s
added_all_same (g ∷ gs) f h s = added_all_same gs (added g f) (added g h) (added_same g f h s)
