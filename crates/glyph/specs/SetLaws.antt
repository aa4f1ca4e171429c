-- Mark sets two words at a time, what they have, and that a glyph above 65,535 is in none.
use Rattle.std.specs.Prelude.{ℕ, zero, suc, ◌+◌, ◌*◌, ◌/◌, ◌≤◌, ◌<◌, List, [], ◌∷◌, ◌≡◌, refl, ◌↔◌, ◌⊎◌, Bool, true, false, ◌&&◌, ◌||◌, eqb, length}
use Rattle.std.specs.Prelude.{get_or, drop}
use Rattle.std.proofs.Common.{sym, ap, ◌∙◌, inl, inr, ⊎_elim, true≢false, arith, add-one, eq-or-lt_of_le, ne_eqb, eq-eqb, eqb-true, drop_of_length-le}
use Rattle.std.proofs.Common.{drop-cons}
use Rattle.std.proofs.Math.Bool.{and-false, or-true, or-false, or_assoc}
use Rattle.std.proofs.Math.Numerals.{add-two}
use Rattle.glyph.specs.Sets.{in_set}

-- one pair on
set_step : (xs : List ℕ) (i s g : ℕ) → i + 1 < length xs
    → in_set (drop i xs) s g ≡ ((eqb (get_or xs i 0) s && eqb (get_or xs (i + 1) 0) g) || in_set (drop (i + 2) xs) s g)
unfolding in_set
set_step xs i s g h =
    rw (add-one, add-two)
    (ap (λ (l : List ℕ). in_set l s g)
    (drop-cons xs i 0 (omega arith) ∙ ap (λ (l : List ℕ). get_or xs i 0 ∷ l) (drop-cons xs (suc i) 0 (omega arith))))

-- at the end, and at a lone last word
set_end : (xs : List ℕ) (i s g : ℕ) → length xs ≤ i + 1 → in_set (drop i xs) s g ≡ false
unfolding in_set
set_end xs i s g h =
    ⊎_elim
    (λ e.
    ap (λ (l : List ℕ). in_set l s g)
    (drop-cons xs i 0 (omega arith) ∙ ap (λ (l : List ℕ). get_or xs i 0 ∷ l) (drop_of_length-le xs {i = suc i} (omega arith))))
    (λ l. ap (λ (l : List ℕ). in_set l s g) (drop_of_length-le xs {i = i} (omega arith)))
    (eq-or-lt_of_le h)

-- the same after k pairs, of which `hit` says whether one was the pair: what the code's turn does
module _ (xs : List ℕ) (k s g : ℕ) (hit : Bool) where
  pub pair_step : k < length xs / 2
      → (hit || in_set (drop (2 * k) xs) s g)
      ≡ ((hit || (eqb (get_or xs (2 * k) 0) s && eqb (get_or xs (2 * k + 1) 0) g)) || in_set (drop (2 * (k + 1)) xs) s g)
  pair_step h =
      let on : 2 * k + 2 ≡ 2 * (k + 1) = omega arith in
      ap (λ (b : Bool). hit || b)
      (set_step xs (2 * k) s g (omega arith)
      ∙ ap (λ (n : ℕ). (eqb (get_or xs (2 * k) 0) s && eqb (get_or xs (2 * k + 1) 0) g) || in_set (drop n xs) s g) on)
      ∙ sym (or_assoc hit (eqb (get_or xs (2 * k) 0) s && eqb (get_or xs (2 * k + 1) 0) g) (in_set (drop (2 * (k + 1)) xs) s g))

  pub pair_end : length xs / 2 ≤ k → (hit || in_set (drop (2 * k) xs) s g) ≡ hit
  pair_end h = rw (set_end xs (2 * k) s g (omega arith)) (or-false hit)

-- words of 16 bits
abbrev pub Short : List ℕ → Type 0
Short xs = (k : ℕ) → get_or xs k 0 < 65536

-- a glyph above 65,535 is in no set
pub in_no_set : (xs : List ℕ) (s g : ℕ) → Short xs → 65535 < g → in_set xs s g ≡ false
unfolding in_set
in_no_set [] s g h l = refl
in_no_set (a ∷ []) s g h l = refl
in_no_set (a ∷ b ∷ rest) s g h l =
    let other : eqb b g ≡ false = ne_eqb b g (λ e. let f = h 1 in omega arith) in
    rw (other, and-false (eqb a s)) (in_no_set rest s g (λ k. h (suc (suc k))) l)

-- ---- the sets have a pair exactly when it stands at an even word

pub record HasPair (xs : List ℕ) (s g : ℕ) : Type 0 where
  pub at : ℕ
  pub inside : 2 * at + 1 < length xs
  pub set : get_or xs (2 * at) 0 ≡ s
  pub glyph : get_or xs (2 * at + 1) 0 ≡ g

either : (p q : Bool) → (p || q) ≡ true → (p ≡ true) ⊎ (q ≡ true)
either true q e = inl refl
either false q e = inr e

both : (p q : Bool) → (p && q) ≡ true → (p ≡ true) × (q ≡ true)
both true q e = (refl, e)
both false q e = absurd (true≢false (sym e))

found : (xs : List ℕ) (s g : ℕ) → in_set xs s g ≡ true → HasPair xs s g
unfolding in_set
found [] s g e = absurd (true≢false (sym e))
found (a ∷ []) s g e = absurd (true≢false (sym e))
found (a ∷ b ∷ rest) s g e =
    ⊎_elim
    (λ here.
    let h = both (eqb a s) (eqb b g) here in
    record { at = 0; inside = omega arith; set = eqb-true a s h.0; glyph = eqb-true b g h.1 })
    (λ later.
    let f = found rest s g later in
    let i = f.inside in
    let e₀ : 2 * suc f.at ≡ suc (suc (2 * f.at)) = omega arith in
    let e₁ : 2 * suc f.at + 1 ≡ suc (suc (2 * f.at + 1)) = omega arith in
    record {
      at = suc f.at;
      inside = omega arith;
      set = ap (λ (n : ℕ). get_or (a ∷ b ∷ rest) n 0) e₀ ∙ f.set;
      glyph = ap (λ (n : ℕ). get_or (a ∷ b ∷ rest) n 0) e₁ ∙ f.glyph;
    })
    (either (eqb a s && eqb b g) (in_set rest s g) e)

has : (xs : List ℕ) (s g k : ℕ) → 2 * k + 1 < length xs → get_or xs (2 * k) 0 ≡ s → get_or xs (2 * k + 1) 0 ≡ g → in_set xs s g ≡ true
unfolding in_set
has [] s g k h x y = absurd (omega arith)
has (a ∷ []) s g k h x y = absurd (omega arith)
has (a ∷ b ∷ rest) s g zero h x y = rw (eq-eqb a s x, eq-eqb b g y)
has (a ∷ b ∷ rest) s g (suc k) h x y =
    let e₀ : suc (suc (2 * k)) ≡ 2 * suc k = omega arith in
    let e₁ : suc (suc (2 * k + 1)) ≡ 2 * suc k + 1 = omega arith in
    let later : in_set rest s g ≡ true =
    has rest s g k (omega arith)
    (ap (λ (n : ℕ). get_or (a ∷ b ∷ rest) n 0) e₀ ∙ x)
    (ap (λ (n : ℕ). get_or (a ∷ b ∷ rest) n 0) e₁ ∙ y) in
    rw (later, or-true (eqb a s && eqb b g))

pub in_set_lem : (xs : List ℕ) (s g : ℕ) → (in_set xs s g ≡ true) ↔ HasPair xs s g
in_set_lem xs s g = (found xs s g, λ f. has xs s g f.at f.inside f.set f.glyph)
