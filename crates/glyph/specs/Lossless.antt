-- A glyph keeps all of its words: writing them back gives the row, so rows of the same glyphs are the same words.
-- And the words of a glyph are read as that glyph; those of blank glyphs are 0.
use Rattle.std.specs.Prelude.{◌≡◌, refl, List, [], ◌∷◌, ◌++◌, ℕ, zero, suc, ◌+◌, ◌*◌, ◌/◌, ◌%◌, ◌≤◌, ◌<◌, length, get_or, take, drop, replicate}
use Rattle.std.proofs.Common.{sym, ap, ◌∙◌, append_assoc, arith, length-drop, take-append-drop, take_all, get_or-take, get_or-drop, length-take-le}
use Rattle.std.proofs.lemmas.List.{replicate-append-replicate}
use Rattle.bits.specs.Bits.{zeros}
use Rattle.glyph.specs.declared.Glyph.{Glyph}
use Rattle.glyph.specs.Glyph.{words, glyph_of, words_of, Fields, glyphs_of, Row, blank}
use Rattle.glyph.specs.Laws.{glyphs_of-nil, glyphs_of-cons, read_words_lem}

-- the words of a list of glyphs
unfoldable pub row_of : List Glyph → List ℕ
row_of [] = []
row_of (g ∷ gs) = words_of g ++ row_of gs

-- words of 32 bits
abbrev pub Small : List ℕ → Type 0
Small w = (k : ℕ) → get_or w k 0 < 4294967296

halves : (x : ℕ) → x < 4294967296 → x / 16777216 % 256 * 16777216 + x / 65536 % 256 * 65536 + x % 65536 ≡ x
halves x h = omega arith

low : (x : ℕ) → x / 256 % 256 * 256 + x % 256 ≡ x % 65536
low x = omega arith

bytes : (x : ℕ) → x < 4294967296 → x / 16777216 % 256 * 16777216 + x / 65536 % 256 * 65536 + x / 256 % 256 * 256 + x % 256 ≡ x
bytes x h = omega (arith, halves x h, low x)

pub words_back : (w : List ℕ) → length w ≡ words → ((k : ℕ) → k < words → get_or w k 0 < 4294967296) → words_of (glyph_of w) ≡ w
unfolding words_of
words_back w e h =
    rw (halves (get_or w 2 0) (h 2 (omega arith)), bytes (get_or w 3 0) (h 3 (omega arith)))
    (read_words_lem w 0 words (omega arith) ∙ take_all words w (omega arith))

pub length-words_of : (g : Glyph) → length (words_of g) ≡ words
unfolding words_of
length-words_of g = refl

-- a glyph's words are read as that glyph
pub glyph_back : (g : Glyph) → Fields g → glyph_of (words_of g) ≡ g
unfolding words_of
glyph_back g f =
    let flags : (glyph_of (words_of g)).flags ≡ g.flags = omega arith in
    let syllable : (glyph_of (words_of g)).syllable ≡ g.syllable = omega arith in
    let props : (glyph_of (words_of g)).props ≡ g.props = omega arith in
    let lig : (glyph_of (words_of g)).lig ≡ g.lig = omega arith in
    let comp : (glyph_of (words_of g)).comp ≡ g.comp = omega arith in
    let count : (glyph_of (words_of g)).count ≡ g.count = omega arith in
    let ligated : (glyph_of (words_of g)).ligated ≡ g.ligated = omega arith in
    rw (flags, syllable, props, lig, comp, count, ligated)

pub row_back : (n : ℕ) (w : List ℕ) → Row n w → Small w → row_of (glyphs_of w) ≡ w
unfolding row_of
row_back zero [] e h = rw glyphs_of-nil
row_back zero (x ∷ w) e h = let z : ⊥ = omega arith in absurd z
row_back (suc n) w e h =
    let l : words ≤ length w = omega arith in
    let a : length (take words w) ≡ words = length-take-le words w l in
    let b : Row n (drop words w) = simp length-drop (omega arith) in
    rw (
      glyphs_of-cons w l,
      words_back (take words w) a (λ k m. rw (get_or-take words w k 0 m) (h k)),
      row_back n (drop words w) b (λ k. rw (get_or-drop words w k 0) (h (words + k))),
    )
    (take-append-drop words w)

-- rows of the same glyphs are the same
pub same_row : (n : ℕ) (v w : List ℕ) → Row n v → Row n w → Small v → Small w → glyphs_of v ≡ glyphs_of w → v ≡ w
same_row n v w a b h k e = sym (row_back n v a h) ∙ ap row_of e ∙ row_back n w b k

-- the words of two lists of glyphs, one after the other
pub row_append : (gs hs : List Glyph) → row_of (gs ++ hs) ≡ row_of gs ++ row_of hs
unfolding row_of
row_append [] hs = refl
row_append (g ∷ gs) hs = ap (λ (r : List ℕ). words_of g ++ r) (row_append gs hs) ∙ sym (append_assoc (words_of g) (row_of gs) (row_of hs))

blank_words : words_of blank ≡ zeros words
unfolding words_of blank
blank_words = refl

-- the words of blank glyphs are 0
pub row_blank : (n : ℕ) → row_of (replicate n blank) ≡ zeros (words * n)
unfolding row_of
row_blank zero = refl
row_blank (suc n) =
    let e : words + words * n ≡ words * suc n = omega arith in
    rw (blank_words, row_blank n) (replicate-append-replicate words (words * n) 0 ∙ ap zeros e)
