-- The code's side: which places of a row a stretch crosses, and that each of them is skip Yes. Forward the places left to test are the last ones
-- before len, backward the first ones of the row; either way a number says how many are left.
use Rattle.std.specs.Prelude.{ℕ, ◌+◌, ◌-◌, ◌≤◌, ◌<◌, List, ◌≡◌, refl, Bool, true, false, not, cond, ◌||◌, eqb, ltb, get_or, take}
use Rattle.std.proofs.Common.{sym, ap, ◌∙◌, arith, ltb-true, ltb-false, get_or-take}
use Rattle.bits.specs.Bits.{bit}
use Rattle.glyph.specs.declared.Glyph.{Glyph}
use Rattle.glyph.specs.Glyph.{blank}
use Rattle.verdict.specs.Verdict.{ignored_class, uses_set, class_asked, other_mark}

-- skip Yes; of a matcher its props alone decide it. And the places of a list of glyphs that are
abbrev pub yes_of : ℕ → List ℕ → Glyph → Bool
yes_of asked sets g = ignored_class asked g.props || other_mark asked sets g.props g.id

abbrev pub yes_at : ℕ → List ℕ → List Glyph → ℕ → Bool
yes_at asked sets gs i = yes_of asked sets (get_or gs i blank)

-- a lookup that passes over some marks: it ignores them, or names a set, or asks a class
abbrev pub may_pass_marks : ℕ → Bool
may_pass_marks asked = (bit 3 asked || uses_set asked) || not (eqb (class_asked asked) 0)

-- every place from a on and before b
abbrev pub AllYes : (ℕ → Bool) → ℕ → ℕ → Type 0
AllYes y a b = (i : ℕ) → a ≤ i → i < b → y i ≡ true

-- every place that is tested while the number left falls from `left` to `rest`
abbrev pub Crossed : (ℕ → Bool) → Bool → ℕ → ℕ → ℕ → Type 0
Crossed y back len left rest = AllYes y (cond back rest (len - left)) (cond back left (len - rest))

-- the lowest of the next n places
abbrev pub lowest_of : Bool → ℕ → ℕ → ℕ → ℕ
lowest_of back len left n = cond back (left - n) (len - left)

-- ---- laws

module _ (y : ℕ → Bool) where
  yes_join : (a b c : ℕ) → AllYes y a b → AllYes y b c → AllYes y a c
  yes_join a b c f g i l h = by (ltb i b) refl
    where
      by : (t : Bool) → ltb i b ≡ t → y i ≡ true
      by true e = f i l (ltb-true i b e)
      by false e = g i (ltb-false i b e) h

  pub crossed_none : (back : Bool) (len left : ℕ) → Crossed y back len left left
  crossed_none true len left i l h = absurd (omega arith)
  crossed_none false len left i l h = absurd (omega arith)

  pub crossed_join : (back : Bool) (len a b c : ℕ) → Crossed y back len a b → Crossed y back len b c → Crossed y back len a c
  crossed_join true len a b c f g = yes_join c b a g f
  crossed_join false len a b c f g = yes_join (len - a) (len - b) (len - c) f g

  -- the next n places
  pub crossed_next : (back : Bool) (len left n : ℕ) → n ≤ left → left ≤ len → AllYes y (lowest_of back len left n) (lowest_of back len left n + n)
      → Crossed y back len left (left - n)
  crossed_next true len left n w v h i l g = h i l (omega arith)
  crossed_next false len left n w v h i l g = h i l (omega arith)

  pub crossed_more : (back : Bool) (len left rest n : ℕ) → n ≤ rest → rest ≤ len
      → AllYes y (lowest_of back len rest n) (lowest_of back len rest n + n) → Crossed y back len left rest → Crossed y back len left (rest - n)
  crossed_more back len left rest n w v h f =
      crossed_join back len left rest (rest - n) f (crossed_next back len rest n w v h)

  -- one place
  pub crossed_one : (back : Bool) (len left rest : ℕ) → 1 ≤ rest → rest ≤ len → (p : ℕ) → p ≡ lowest_of back len rest 1 → y p ≡ true
      → Crossed y back len left rest → Crossed y back len left (rest - 1)
  crossed_one back len left rest w v p e t f =
      crossed_more back len left rest 1 w v (λ i l g. let s : i ≡ p = omega arith in ap y s ∙ t) f

-- the next places stand in the row
pub lowest_within : (back : Bool) (len left n : ℕ) → n ≤ left → left ≤ len → lowest_of back len left n + n ≤ len
lowest_within true len left n w v = omega arith
lowest_within false len left n w v = omega arith

-- what is seen of a row's first glyphs is so of the row
pub part_yes : (asked : ℕ) (sets : List ℕ) (gs : List Glyph) (n a b : ℕ) → b ≤ n → AllYes (yes_at asked sets (take n gs)) a b
    → AllYes (yes_at asked sets gs) a b
part_yes asked sets gs n a b w h i l g = sym (ap (yes_of asked sets) (get_or-take n gs i blank (omega arith))) ∙ h i l g
