-- The code's side: marks outside the set that a lookup names, shown by a digest that admits each glyph of the set.
use Rattle.std.specs.Prelude.{ℕ, ◌+◌, ◌*◌, ◌/◌, ◌<◌, ◌≤◌, List, ◌≡◌, refl, Bool, true, false, not, ◌&&◌, ◌||◌, eqb, length, get_or, drop}
use Rattle.std.proofs.Common.{sym, ap, ◌∙◌, true≢false, arith, eqb-true}
use Rattle.bits.proofs.Laws.{and_left, and_right, or_left, or_right, every_at, every_so}
use Rattle.glyph.specs.declared.Glyph.{Glyph}
use Rattle.glyph.specs.Glyph.{blank}
use Rattle.glyph.specs.Sets.{in_set}
use Rattle.glyph.specs.SetLaws.{pair_step, pair_end}
use Rattle.digest.specs.declared.SetDigest.{SetDigest}
use Rattle.digest.specs.Digest.{Bits, Says, bits_of, place, all_set, added, may_have}
use Rattle.digest.specs.Admitted.{admits_more, added_keeps, added_admits}
use Rattle.verdict.specs.Verdict.{ignored_class, is_mark, uses_set, set_named, other_mark}
use Rattle.walk_stretch.specs.Stretch.{yes_at}

-- the marks outside a set
abbrev pub outside_at : ℕ → List ℕ → List Glyph → ℕ → Bool
outside_at set sets gs i = let g = get_or gs i blank in is_mark g.props && not (in_set sets set g.id)

-- the digest admits each glyph of the set
abbrev pub Admits : SetDigest → List ℕ → ℕ → Type 0
Admits d sets s = (g : ℕ) → in_set sets s g ≡ true → may_have (bits_of d) g ≡ true

-- of the pairs before pair k
abbrev pub AdmitsTo : SetDigest → List ℕ → ℕ → ℕ → Type 0
AdmitsTo d sets s k = (g : ℕ) → in_set sets s g ≡ true → (may_have (bits_of d) g || in_set (drop (2 * k) sets) s g) ≡ true

-- a digest admits what its bits say
says_admits : (d : SetDigest) (f : Bits) (g : ℕ) → Says d f → may_have f g ≡ true → may_have (bits_of d) g ≡ true
says_admits d f g h e =
    every_so (λ i. bits_of d i (place i g)) 3
    (λ i l. h i (place i g) l (omega arith) ∙ every_at (λ i. f i (place i g)) 3 i e l)

pub full_admits : (d : SetDigest) (sets : List ℕ) (s : ℕ) → Says d all_set → Admits d sets s
full_admits d sets s h g e = says_admits d all_set g h (every_so (λ i. all_set i (place i g)) 3 (λ i l. refl))

-- one more glyph leaves what was admitted
pub add_admits : (d r : SetDigest) (x g : ℕ) → Says r (added x (bits_of d)) → may_have (bits_of d) g ≡ true → may_have (bits_of r) g ≡ true
add_admits d r x g h e = says_admits r (added x (bits_of d)) g h (admits_more (bits_of d) (added x (bits_of d)) g (added_keeps (bits_of d) x) e)

pub add_admitted : (d r : SetDigest) (x : ℕ) → Says r (added x (bits_of d)) → may_have (bits_of r) x ≡ true
add_admitted d r x h = says_admits r (added x (bits_of d)) x h (added_admits (bits_of d) x)

-- what a turn does to the digest: it keeps what was admitted, and the glyph of a pair of the set is admitted
pub record Grown (d r : SetDigest) (s a b : ℕ) : Type 0 where
  pub keeps : (g : ℕ) → may_have (bits_of d) g ≡ true → may_have (bits_of r) g ≡ true
  pub admits : a ≡ s → may_have (bits_of r) b ≡ true

-- a pair of another set leaves it as it is
pub grown_not : (d : SetDigest) (s a b : ℕ) → (a ≡ s → ⊥) → Grown d d s a b
grown_not d s a b n = record { keeps = λ g e. e; admits = λ e. absurd (n e) }

-- the glyph of one of the set is added
pub grown_by : (d r : SetDigest) (s a b : ℕ) → Says r (added b (bits_of d)) → Grown d r s a b
grown_by d r s a b h = record { keeps = λ g e. add_admits d r b g h e; admits = λ e. add_admitted d r b h }

module _ (d r : SetDigest) (sets : List ℕ) (s k : ℕ) where
  step : (m p q n : Bool) → (m ≡ true → n ≡ true) → (p ≡ true → n ≡ true) → (m || (p || q)) ≡ true → (n || q) ≡ true
  step true p q n f h e = or_left n q (f refl)
  step false true q n f h e = or_left n q (h refl)
  step false false q n f h e = or_right n q e

  pub admits_step : k < length sets / 2 → Grown d r s (get_or sets (2 * k) 0) (get_or sets (2 * k + 1) 0) → AdmitsTo d sets s k
      → AdmitsTo r sets s (k + 1)
  admits_step l t h g e =
      let x = get_or sets (2 * k) 0 in
      let y = get_or sets (2 * k + 1) 0 in
      let q = in_set (drop (2 * (k + 1)) sets) s g in
      let both = eqb x s && eqb y g in
      step (may_have (bits_of d) g) both q (may_have (bits_of r) g) (t.keeps g)
      (λ w.
      ap (may_have (bits_of r)) (sym (eqb-true y g (and_right (eqb x s) (eqb y g) w)))
      ∙ t.admits (eqb-true x s (and_left (eqb x s) (eqb y g) w)))
      (sym (ap (λ (b : Bool). may_have (bits_of d) g || b) (pair_on g)) ∙ h g e)
    where
      pair_on : (g : ℕ) → in_set (drop (2 * k) sets) s g
          ≡ ((eqb (get_or sets (2 * k) 0) s && eqb (get_or sets (2 * k + 1) 0) g) || in_set (drop (2 * (k + 1)) sets) s g)
      pair_on g = pair_step sets k s g false l

pub admits_none : (d : SetDigest) (sets : List ℕ) (s : ℕ) → AdmitsTo d sets s 0
admits_none d sets s g e = or_right (may_have (bits_of d) g) (in_set sets s g) e

pub admits_end : (d : SetDigest) (sets : List ℕ) (s k : ℕ) → length sets / 2 ≤ k → AdmitsTo d sets s k → Admits d sets s
admits_end d sets s k l h g e = sym (pair_end sets k s g (may_have (bits_of d) g) l) ∙ h g e

-- ---- a mark that it doesn't admit is outside

pub not_admitted : (d : SetDigest) (sets : List ℕ) (s g : ℕ) → Admits d sets s → may_have (bits_of d) g ≡ false → in_set sets s g ≡ false
not_admitted d sets s g h n = by (in_set sets s g) refl
  where
    by : (b : Bool) → in_set sets s g ≡ b → b ≡ false
    by true e = absurd (true≢false (sym (h g e) ∙ n))
    by false e = refl

-- a lookup that names the set passes it over
pub outside_yes : (asked : ℕ) (sets : List ℕ) (gs : List Glyph) (i : ℕ) → uses_set asked ≡ true → outside_at (set_named asked) sets gs i ≡ true
    → yes_at asked sets gs i ≡ true
outside_yes asked sets gs i named e =
    let g = get_or gs i blank in
    or_right (ignored_class asked g.props) (other_mark asked sets g.props g.id) (rw named e)
