-- The code's side: glyphs that are passed over for their class, shown of a whole block at one look. The props of a block's glyphs have bits in
-- common, with those of the attachment class asked flipped, so that a mark of another class is one with a bit from bit 8 on. What the common
-- bits tell holds of each glyph.
use Rattle.std.specs.Prelude.{ℕ, ◌+◌, ◌*◌, ◌/◌, ◌%◌, ◌^◌, ◌≤◌, ◌<◌, List, ◌≡◌, refl, Bool, true, false, not, cond, ◌&&◌, ◌||◌, eqb, ltb, get_or}
use Rattle.std.proofs.Common.{sym, ap, ◌∙◌, true≢false, arith, eqb-true, leb-true, le-leb, ltb-true, ltb-false}
use Rattle.std.proofs.Math.Dec.{leb}
use Rattle.std.specs.Int.Bits.{bit_and, bit_xor, xor_zero_r, xor_self}
use Rattle.std.proofs.lemmas.Nat.{and_le_l, and_le_r, xor_mod, xor_shr}
use Rattle.bits.specs.Bits.{bit}
use Rattle.bits.proofs.Laws.{and_left, and_right, and_both, and_bit, or_mono, and_mono}
use Rattle.glyph.specs.declared.Glyph.{Glyph}
use Rattle.glyph.specs.Glyph.{blank}
use Rattle.verdict.specs.Verdict.{ignored_class, is_mark, uses_set, class_asked, class_of, other_mark}
use Rattle.walk_stretch.specs.Stretch.{yes_at, AllYes}

-- glyphs a block
abbrev pub block : ℕ
block = 8

-- the attachment class that a lookup goes by; 0: none
abbrev pub class_by : ℕ → ℕ
class_by asked = cond (uses_set asked) 0 (class_asked asked)

abbrev pub flipped : ℕ → ℕ → ℕ
flipped class props = bit_xor props (class * 256)

-- what flipped props tell
unfoldable pub props_show : ℕ → ℕ → ℕ → Bool
props_show asked class x = ignored_class asked x || ((not (eqb class 0) && is_mark x) && leb 256 x)

-- the places of a list of glyphs
abbrev pub flipped_at : ℕ → List Glyph → ℕ → ℕ
flipped_at class gs i = flipped class (get_or gs i blank).props

abbrev pub shown_at : ℕ → ℕ → List Glyph → ℕ → Bool
shown_at asked class gs i = props_show asked class (flipped_at class gs i)

-- the bits of a are bits of x
abbrev pub Under : ℕ → ℕ → Type 0
Under a x = (a ≤ x) × ((k : ℕ) → bit k a ≡ true → bit k x ≡ true)

-- and of every place from a on and before b
abbrev pub Common : (ℕ → ℕ) → ℕ → ℕ → ℕ → Type 0
Common x all a b = (i : ℕ) → a ≤ i → i < b → Under all (x i)

-- ---- one more place has what it has in common with the others

module _ (x : ℕ → ℕ) (a b all : ℕ) where
  under_left : (t : ℕ) → Under all t → (s : ℕ) → Under (bit_and all s) t
  under_left t u s = (
    (let l = and_le_l all s in let w = u.0 in omega arith),
    λ k e. u.1 k (and_left (bit k all) (bit k s) (sym (and_bit k all s) ∙ e)),
  )

  under_right : (s : ℕ) → Under (bit_and all s) s
  under_right s = (and_le_r all s, λ k e. and_right (bit k all) (bit k s) (sym (and_bit k all s) ∙ e))

  pub common_none : b ≤ a → Common x all a b
  common_none h i l g = absurd (omega arith)

  pub common_more : (s e : ℕ) → s ≡ x b → e ≡ b + 1 → Common x all a b → Common x (bit_and all s) a e
  common_more s e f q h i l g = by (ltb i b) refl
    where
      last : x i ≡ s → Under (bit_and all s) (x i)
      last t = rw t (under_right s)

      by : (t : Bool) → ltb i b ≡ t → Under (bit_and all s) (x i)
      by true w = under_left (x i) (h i l (ltb-true i b w)) s
      by false w = let k = ltb-false i b w in let t : i ≡ b = omega arith in last (ap x t ∙ sym f)

-- ---- what common bits tell

same : (a : Bool) → a ≡ true → a ≡ true
same a e = e

module _ (asked a x : ℕ) (u : Under a x) where
  flag_under : (k : ℕ) → (bit k a && bit k asked) ≡ true → (bit k x && bit k asked) ≡ true
  flag_under k = and_mono (bit k a) (bit k asked) (bit k x) (bit k asked) (u.1 k) (same (bit k asked))

  ignored_under : ignored_class asked a ≡ true → ignored_class asked x ≡ true
  ignored_under =
      or_mono ((bit 1 a && bit 1 asked) || (bit 2 a && bit 2 asked)) (bit 3 a && bit 3 asked)
      ((bit 1 x && bit 1 asked) || (bit 2 x && bit 2 asked)) (bit 3 x && bit 3 asked)
      (or_mono (bit 1 a && bit 1 asked) (bit 2 a && bit 2 asked) (bit 1 x && bit 1 asked) (bit 2 x && bit 2 asked) (flag_under 1) (flag_under 2))
      (flag_under 3)

  high_under : leb 256 a ≡ true → leb 256 x ≡ true
  high_under e = le-leb 256 x (let l = leb-true 256 a e in let w = u.0 in omega arith)

  pub shown_under : (class : ℕ) → props_show asked class a ≡ true → props_show asked class x ≡ true
  unfolding props_show
  shown_under class =
      or_mono (ignored_class asked a) ((not (eqb class 0) && is_mark a) && leb 256 a)
      (ignored_class asked x) ((not (eqb class 0) && is_mark x) && leb 256 x)
      ignored_under
      (and_mono (not (eqb class 0) && is_mark a) (leb 256 a) (not (eqb class 0) && is_mark x) (leb 256 x)
      (and_mono (not (eqb class 0)) (is_mark a) (not (eqb class 0)) (is_mark x) (same (not (eqb class 0))) (u.1 3))
      high_under)

pub shown_block : (asked class all : ℕ) (gs : List Glyph) (a b : ℕ) → Common (flipped_at class gs) all a b → props_show asked class all ≡ true
    → AllYes (shown_at asked class gs) a b
shown_block asked class all gs a b h e i l g = shown_under asked all (flipped_at class gs i) (h i l g) class e

-- ---- what is shown so is skip Yes

module _ (class p : ℕ) where
  low_kept : flipped class p % 256 ≡ p % 256
  low_kept =
      let z : class * 256 % 2 ^ 8 ≡ 0 = omega arith in
      xor_mod p (class * 256) 8 ∙ ap (bit_xor (p % 2 ^ 8)) z ∙ xor_zero_r (p % 2 ^ 8)

  bit_1 : flipped class p / 2 ^ 1 % 2 ≡ p / 2 ^ 1 % 2
  bit_1 = let e = low_kept in omega arith

  bit_2 : flipped class p / 2 ^ 2 % 2 ≡ p / 2 ^ 2 % 2
  bit_2 = let e = low_kept in omega arith

  bit_3 : flipped class p / 2 ^ 3 % 2 ≡ p / 2 ^ 3 % 2
  bit_3 = let e = low_kept in omega arith

  ignored_kept : (asked : ℕ) → ignored_class asked (flipped class p) ≡ ignored_class asked p
  ignored_kept asked = rw (bit_1, bit_2, bit_3)

  mark_kept : is_mark (flipped class p) ≡ is_mark p
  mark_kept = rw bit_3

  -- of the class asked nothing is left
  class_gone : class ≡ class_of p → flipped class p < 256
  class_gone e =
      let z : class * 256 / 2 ^ 8 ≡ class = omega arith in
      let n : flipped class p / 2 ^ 8 ≡ 0 =
      xor_shr p (class * 256) 8 ∙ ap (bit_xor (p / 2 ^ 8)) (z ∙ e) ∙ xor_self (p / 2 ^ 8) in
      omega (arith, n)

  class_other : leb 256 (flipped class p) ≡ true → not (eqb class (class_of p)) ≡ true
  class_other h = by (eqb class (class_of p)) refl
    where
      by : (b : Bool) → eqb class (class_of p) ≡ b → not b ≡ true
      by true e = let l = leb-true 256 (flipped class p) h in let g = class_gone (eqb-true class (class_of p) e) in absurd (omega arith)
      by false e = refl

module _ (asked : ℕ) (sets : List ℕ) (p id : ℕ) where
  other_shown : (b : Bool) → uses_set asked ≡ b
      → ((not (eqb (cond b 0 (class_asked asked)) 0) && is_mark p) && not (eqb (cond b 0 (class_asked asked)) (class_of p))) ≡ true
      → other_mark asked sets p id ≡ true
  other_shown true e h = absurd (true≢false (sym h))
  other_shown false e h =
      let c = not (eqb (class_asked asked) 0) in
      let d = not (eqb (class_asked asked) (class_of p)) in
      let l = and_left (c && is_mark p) d h in
      rw e (and_both (is_mark p) (c && d) (and_right c (is_mark p) l) (and_both c d (and_left c (is_mark p) l) (and_right (c && is_mark p) d h)))

pub shown_yes : (asked : ℕ) (sets : List ℕ) (gs : List Glyph) (i : ℕ) → shown_at asked (class_by asked) gs i ≡ true → yes_at asked sets gs i ≡ true
unfolding props_show
shown_yes asked sets gs i e =
    let c = class_by asked in
    let g = get_or gs i blank in
    let p = g.props in
    let x = flipped c p in
    or_mono (ignored_class asked x) ((not (eqb c 0) && is_mark x) && leb 256 x) (ignored_class asked p) (other_mark asked sets p g.id)
    (λ h. sym (ignored_kept c p asked) ∙ h)
    (λ h.
    other_shown asked sets p g.id (uses_set asked) refl
    (and_mono (not (eqb c 0) && is_mark x) (leb 256 x) (not (eqb c 0) && is_mark p) (not (eqb c (class_of p)))
    (and_mono (not (eqb c 0)) (is_mark x) (not (eqb c 0)) (is_mark p) (same (not (eqb c 0))) (λ k. sym (mark_kept c p) ∙ k))
    (class_other c p)
    h))
    e
