-- Cards K7, K8 and K10: digests and opening sizes (01, "Bench cards").
use Rattle.std.specs.Prelude.{Bool, cond, List, [], ◌∷◌, ℕ, zero, suc}
use Rattle.digest.specs.Digest.{Bits, none_set, added, ranged, may_have}
use Rattle.allowance.specs.Allowance.{opening}
use Rattle.cards.specs.Card.{Card}

abbrev numbers : List ℕ → List (List ℕ)
numbers ns = ns ∷ []

abbrev yes : Bool → ℕ
yes b = cond b 1 0

-- the bits below n that are set, the lowest first
unfoldable pub bits_below : ℕ → (ℕ → Bool) → List ℕ → List ℕ
bits_below zero f more = more
bits_below (suc n) f more = bits_below n f (cond (f n) (n ∷ more) more)

-- the bits of each of the three masks
unfoldable pub masks_of : Bits → List (List ℕ) → List (List ℕ)
masks_of f more = bits_below 64 (f 0) [] ∷ bits_below 64 (f 1) [] ∷ bits_below 64 (f 2) [] ∷ more

-- K7: glyph 4,660 sets bits 35, 52, 8; 8,756 is then also admitted
abbrev pub k7 : Card
k7 = record {
  given = let d = added 4660 none_set in masks_of d (numbers (yes (may_have d 8756) ∷ []));
  wanted = (35 ∷ []) ∷ (52 ∷ []) ∷ (8 ∷ []) ∷ (1 ∷ []) ∷ [];
}

-- K8: range 62 to 65 sets 3, 4; 62, 63, 0, 1; 0, 1
abbrev pub k8 : Card
k8 = record {
  given = masks_of (ranged 62 65 none_set) [];
  wanted = (3 ∷ 4 ∷ []) ∷ (0 ∷ 1 ∷ 62 ∷ 63 ∷ []) ∷ (0 ∷ 1 ∷ []) ∷ [];
}

-- K10: sizes 16,384, 16,385, 524,289 open 4,194,304, 4,194,560, 134,217,728
abbrev pub k10 : Card
k10 = record {
  given = numbers (opening 16384 ∷ opening 16385 ∷ opening 524289 ∷ []);
  wanted = numbers (4194304 ∷ 4194560 ∷ 134217728 ∷ []);
}
