-- A row's glyphs by its words: how many there are, rows in two parts, and one glyph. What writes into rows can be added beside them.
use Rattle.std.specs.Prelude.{◌≡◌, refl, false, not, List, [], ◌∷◌, ◌++◌, ◌↔◌, ℕ, zero, suc, ◌+◌, ◌*◌, ◌/◌, ◌%◌, ◌≤◌, eqb, ltb, length, get_or, take}
use Rattle.std.specs.Prelude.{drop}
use Rattle.std.proofs.Common.{sym, ap, ◌∙◌, zero-add, suc-add, add-zero, add-suc, add-one, arith, eqb-true, ltb-false, eq-eqb, le-ltb, length-append}
use Rattle.std.proofs.Common.{length-drop, take-append-drop, length-take-le, take_at, drop_at, drop-cons, get_or-drop}
use Rattle.std.proofs.lemmas.Bool.{not-false}
use Rattle.std.proofs.lemmas.List.{take-append-le, drop-append-le}
use Rattle.bits.proofs.Laws.{neither_left, neither_right}
use Rattle.glyph.specs.Glyph.{words, limit, glyph_of, glyphs, glyphs_of, Row, ill_shaped, blank}

length-glyphs : (n : ℕ) (w : List ℕ) → length (glyphs n w) ≡ n
unfolding glyphs
length-glyphs zero w = refl
length-glyphs (suc n) w = ap suc (length-glyphs n (drop words w))

pub length-glyphs_of : (w : List ℕ) → length (glyphs_of w) ≡ length w / words
unfolding glyphs_of
length-glyphs_of w = length-glyphs (length w / words) w

pub length_same : (v w : List ℕ) → length v ≡ length w → length (glyphs_of v) ≡ length (glyphs_of w)
length_same v w e = omega (arith, length-glyphs_of v, length-glyphs_of w)

pub length_row : (n : ℕ) (w : List ℕ) → Row n w → length (glyphs_of w) ≡ n
length_row n w e = omega (arith, length-glyphs_of w)

glyphs-append : (n m : ℕ) (u v : List ℕ) → length u ≡ words * n → glyphs (n + m) (u ++ v) ≡ glyphs n u ++ glyphs m v
unfolding glyphs
glyphs-append zero m [] v e = rw zero-add
glyphs-append zero m (x ∷ u) v e = let z : ⊥ = omega arith in absurd z
glyphs-append (suc n) m u v e =
    let h : words ≤ length u = omega arith in
    let e' : length (drop words u) ≡ words * n = simp length-drop (omega arith) in
    rw (suc-add, take-append-le words u v h, drop-append-le words u v h, glyphs-append n m (drop words u) v e')

-- the glyphs of a row in two parts
pub glyphs_of-append : (n : ℕ) (u v : List ℕ) → length u ≡ words * n → glyphs_of (u ++ v) ≡ glyphs_of u ++ glyphs_of v
unfolding glyphs_of
glyphs_of-append n u v e =
    let a : length (u ++ v) / words ≡ n + length v / words = simp length-append (omega arith) in
    let b : length u / words ≡ n = omega arith in
    rw (a, b) (glyphs-append n (length v / words) u v e)

-- the glyphs before glyph k, and those from it on
module _ (k : ℕ) (w : List ℕ) (h : words * k ≤ length w) where
  pub parted : glyphs_of w ≡ glyphs_of (take (words * k) w) ++ glyphs_of (drop (words * k) w)
  parted =
      ap glyphs_of (sym (take-append-drop (words * k) w))
      ∙ glyphs_of-append k (take (words * k) w) (drop (words * k) w) (length-take-le (words * k) w h)

  pub length_front : length (glyphs_of (take (words * k) w)) ≡ k
  length_front =
      let e : length (take (words * k) w) ≡ words * k = length-take-le (words * k) w h in
      omega (arith, length-glyphs_of (take (words * k) w))

  pub take-glyphs_of : take k (glyphs_of w) ≡ glyphs_of (take (words * k) w)
  take-glyphs_of = rw parted (take_at (glyphs_of (take (words * k) w)) (glyphs_of (drop (words * k) w)) k length_front)

  pub drop-glyphs_of : drop k (glyphs_of w) ≡ glyphs_of (drop (words * k) w)
  drop-glyphs_of = rw parted (drop_at (glyphs_of (take (words * k) w)) (glyphs_of (drop (words * k) w)) k length_front)

pub glyphs_of-nil : glyphs_of [] ≡ []
unfolding glyphs_of glyphs
glyphs_of-nil = refl

-- the first glyph
pub glyphs_of-cons : (w : List ℕ) → words ≤ length w → glyphs_of w ≡ glyph_of (take words w) ∷ glyphs_of (drop words w)
unfolding glyphs_of glyphs
glyphs_of-cons w h =
    let e : length w / words ≡ suc (length (drop words w) / words) = simp length-drop (omega arith) in
    rw e

-- glyph i
pub get_or-glyphs_of : (w : List ℕ) (i : ℕ) → words * i + words ≤ length w → get_or (glyphs_of w) i blank ≡ glyph_of (take words (drop (words * i) w))
get_or-glyphs_of w i h =
    let k : words ≤ length (drop (words * i) w) = simp length-drop (omega arith) in
    ap (λ (n : ℕ). get_or (glyphs_of w) n blank) (sym (add-zero i))
    ∙ sym (get_or-drop i (glyphs_of w) 0 blank)
    ∙ rw (drop-glyphs_of i w (omega arith), glyphs_of-cons (drop (words * i) w) k)

-- n words read one by one, as code does it: the first at word x, the next at x + 1, and so on. With n a number it computes to the code's reads.
abbrev read_from : List ℕ → ℕ → ℕ → ℕ → List ℕ
read_from w x k zero = []
read_from w x k (suc n) = get_or w (x + k) 0 ∷ read_from w x (suc k) n

abbrev pub read_words : List ℕ → ℕ → ℕ → List ℕ
read_words w x zero = []
read_words w x (suc n) = get_or w x 0 ∷ read_from w x 1 n

read_from_lem : (w : List ℕ) (x k n : ℕ) → x + k + n ≤ length w → read_from w x k n ≡ take n (drop (x + k) w)
read_from_lem w x k zero h = refl
read_from_lem w x k (suc n) h =
    ap (λ (r : List ℕ). get_or w (x + k) 0 ∷ r) (read_from_lem w x (suc k) n (omega arith) ∙ ap (λ (m : ℕ). take n (drop m w)) (add-suc x k))
    ∙ ap (take (suc n)) (sym (drop-cons w (x + k) 0 (omega arith)))

pub read_words_lem : (w : List ℕ) (x n : ℕ) → x + n ≤ length w → read_words w x n ≡ take n (drop x w)
read_words_lem w x zero h = refl
read_words_lem w x (suc n) h =
    ap (λ (r : List ℕ). get_or w x 0 ∷ r) (read_from_lem w x 1 n (omega arith) ∙ ap (λ (m : ℕ). take n (drop m w)) (add-one x))
    ∙ ap (take (suc n)) (sym (drop-cons w x 0 (omega arith)))

-- glyph i, by its words as code reads them
pub read_glyph : (w : List ℕ) (i : ℕ) → words * i + words ≤ length w → glyph_of (read_words w (words * i) words) ≡ get_or (glyphs_of w) i blank
read_glyph w i h = ap glyph_of (read_words_lem w (words * i) words h) ∙ sym (get_or-glyphs_of w i h)

-- ---- a row is well shaped exactly when it is whole glyphs, at most the limit

pub well_shaped : (w : List ℕ) → (ill_shaped w ≡ false) ↔ (Row (length (glyphs_of w)) w × (length (glyphs_of w) ≤ limit))
unfolding ill_shaped
well_shaped w = (
  λ e.
      let odd = not (eqb (length w % words) 0) in
      let whole = eqb-true (length w % words) 0 (not-false (eqb (length w % words) 0) (neither_left odd (ltb limit (length (glyphs_of w))) e)) in
      (omega (arith, length-glyphs_of w), ltb-false limit (length (glyphs_of w)) (neither_right odd (ltb limit (length (glyphs_of w))) e)),
  λ h.
      let whole : length w % words ≡ 0 = omega arith in
      rw (eq-eqb (length w % words) 0 whole) (le-ltb limit (length (glyphs_of w)) h.1),
)
