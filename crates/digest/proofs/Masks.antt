-- Masks that are made one after the other: the first i have their bits.
-- Assumes nothing.
use Rattle.std.proofs.Common.{◌≡◌, ℕ, ◌+◌, ◌<◌, ◌≤◌, Bool, true, false, not, ◌&&◌, ◌||◌, List, length, get_or, set, refl, ap, ◌∙◌, ⊎_elim}
use Rattle.std.proofs.Common.{eq-or-lt_of_le, add-one, arith, get_or-set_other, get_or-set_same}
use Rattle.bits.specs.Bits.{bit, every}
use Rattle.digest.specs.Digest.{Bits}

-- the first n masks have these bits
abbrev pub Made : ℕ → List ℕ → Bits → Type 0
Made n ms f = (j k : ℕ) → j < n → k < 64 → bit k (get_or ms j 0) ≡ f j k

-- one mask more
pub made_more : (ms : List ℕ) (f : Bits) (i v : ℕ) → i < length ms → Made i ms f → ((k : ℕ) → k < 64 → bit k v ≡ f i k) → Made (i + 1) (set ms i v) f
made_more ms f i v l h g j k m o =
    let le : j ≤ i = omega arith in
    ⊎_elim (λ s. rw s (ap (bit k) (get_or-set_same ms i v 0 l) ∙ g k o))
    (λ q. ap (bit k) (get_or-set_other ms i j v 0 (λ z. omega arith)) ∙ h j k q o)
    (eq-or-lt_of_le le)

-- ---- whether one of the numbers so far fails the test

pub noted_none : (p : ℕ → Bool) → false ≡ not (every 0 p)
unfolding every
noted_none p = refl

noted_by : (a b : Bool) → (not a || not b) ≡ not (a && b)
noted_by true b = refl
noted_by false b = refl

pub noted_more : (p : ℕ → Bool) (i : ℕ) (so b : Bool) → so ≡ not (every i p) → b ≡ p i → (so || not b) ≡ not (every (i + 1) p)
unfolding every
noted_more p i so b e f = rw (add-one, e, f) (noted_by (every i p) (p i))
