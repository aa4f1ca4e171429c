-- What a change of words at a glyph's first word does to the glyphs: glyphs copied, one glyph stored, glyphs made blank.
use Rattle.std.specs.Prelude.{◌≡◌, refl, List, [], ◌∷◌, ◌++◌, ℕ, zero, suc, ◌+◌, ◌*◌, ◌≤◌, ◌<◌, length, get_or, set, take, drop, replicate}
use Rattle.std.proofs.Common.{sym, ap, ◌∙◌, add-suc, add-one, arith, length-append, length-drop, drop_of_length-le, length-take-le, take_all}
use Rattle.std.proofs.Common.{get_or-drop}
use Rattle.std.proofs.lemmas.List.{length-replicate, get_or-replicate, replicate-append-replicate, set_split}
use Rattle.std.proofs.Math.Seq.{append_snoc, paste, paste-suc}
use Rattle.std.proofs.lemmas.List.Edits.{sets, sets-eq}
use Rattle.glyph.specs.declared.Glyph.{Glyph}
use Rattle.bits.specs.Bits.{zeros}
use Rattle.glyph.specs.Glyph.{words, glyph_of, words_of, Fields, glyphs, glyphs_of, blank}
use Rattle.glyph.specs.Laws.{length-glyphs_of, glyphs_of-append, take-glyphs_of, drop-glyphs_of, glyphs_of-nil, glyphs_of-cons}
use Rattle.glyph.specs.Lossless.{length-words_of, glyph_back}

-- n glyphs copied over those from glyph j on
pub paste_glyphs_of : (w : List ℕ) (j : ℕ) (s : List ℕ) (n : ℕ) → words * j + words * n ≤ length w → words * n ≤ length s
    → glyphs_of (paste w (words * j) s (words * n)) ≡ paste (glyphs_of w) j (glyphs_of s) n
paste_glyphs_of w j s n h k =
    let e : words * j + words * n ≡ words * (j + n) = omega arith in
    let f : length (take (words * j) w ++ take (words * n) s) ≡ words * (j + n) =
    simp length-append (omega (arith, length-take-le (words * j) w (omega arith), length-take-le (words * n) s k)) in
    glyphs_of-append (j + n) (take (words * j) w ++ take (words * n) s) (drop (words * j + words * n) w) f
    ∙ rw (
      glyphs_of-append j (take (words * j) w) (take (words * n) s) (length-take-le (words * j) w (omega arith)),
      e,
      take-glyphs_of j w (omega arith),
      take-glyphs_of n s k,
      drop-glyphs_of (j + n) w (omega arith),
    )

-- a word stored in a copy that has come to word k
pub paste_more : (w from : List ℕ) (x y k : ℕ) → x + k < length w → y + k < length from
    → set (paste w x (drop y from) k) (x + k) (get_or from (y + k) 0) ≡ paste w x (drop y from) (k + 1)
paste_more w from x y k h i =
    let l : k < length (drop y from) = simp length-drop (omega arith) in
    rw (add-one, ← get_or-drop y from k 0, paste-suc w x (drop y from) k 0 h l)

-- n glyphs of `from`, from glyph i on, copied over those from glyph j on
pub copied_glyphs_of : (w from : List ℕ) (j i n : ℕ) → words * j + words * n ≤ length w → words * i + words * n ≤ length from
    → glyphs_of (paste w (words * j) (drop (words * i) from) (words * n)) ≡ paste (glyphs_of w) j (drop i (glyphs_of from)) n
copied_glyphs_of w from j i n h k =
    paste_glyphs_of w j (drop (words * i) from) n h (simp length-drop (omega arith))
    ∙ ap (λ (s : List Glyph). paste (glyphs_of w) j s n) (sym (drop-glyphs_of i from (omega arith)))

-- one glyph pasted
paste_one : (D : List Glyph) (i : ℕ) (g : Glyph) → i < length D → paste D i (g ∷ []) 1 ≡ set D i g
paste_one D i g h =
    append_snoc (take i D) g (drop (i + 1) D)
    ∙ ap (λ (n : ℕ). take i D ++ g ∷ drop n D) (add-one i)
    ∙ sym (set_split D i g h)

-- the words of one glyph
glyphs_of_one : (s : List ℕ) → length s ≡ words → glyphs_of s ≡ glyph_of s ∷ []
glyphs_of_one s e =
    let none : drop words s ≡ [] = drop_of_length-le s {i = words} (omega arith) in
    glyphs_of-cons s (omega arith)
    ∙ rw (take_all words s (omega arith), none, glyphs_of-nil)

-- the words of one glyph pasted over those of glyph i
pub pasted_glyph : (w : List ℕ) (i : ℕ) (s : List ℕ) → words * i + words ≤ length w → length s ≡ words
    → glyphs_of (paste w (words * i) s words) ≡ set (glyphs_of w) i (glyph_of s)
pasted_glyph w i s h e =
    paste_glyphs_of w i s 1 h (omega arith)
    ∙ ap (λ (G : List Glyph). paste (glyphs_of w) i G 1) (glyphs_of_one s e)
    ∙ paste_one (glyphs_of w) i (glyph_of s) (omega (arith, length-glyphs_of w))

-- words stored one by one, as code does it: the first at word x, the next at x + 1, and so on. A literal list of them computes to the code's stores.
abbrev put_from : List ℕ → ℕ → ℕ → List ℕ → List ℕ
put_from w x k [] = w
put_from w x k (v ∷ s) = put_from (set w (x + k) v) x (suc k) s

abbrev pub put_words : List ℕ → ℕ → List ℕ → List ℕ
put_words w x [] = w
put_words w x (v ∷ s) = put_from (set w x v) x 1 s

put_from_sets : (w : List ℕ) (x k : ℕ) (s : List ℕ) → put_from w x k s ≡ sets w (x + k) s
put_from_sets w x k [] = refl
put_from_sets w x k (v ∷ s) =
    put_from_sets (set w (x + k) v) x (suc k) s
    ∙ ap (λ (n : ℕ). sets (set w (x + k) v) n s) (add-suc x k)

put_sets : (w : List ℕ) (x : ℕ) (s : List ℕ) → put_words w x s ≡ sets w x s
put_sets w x [] = refl
put_sets w x (v ∷ s) = put_from_sets (set w x v) x 1 s ∙ ap (λ (n : ℕ). sets (set w x v) n s) (add-one x)

put_paste : (w : List ℕ) (x : ℕ) (s : List ℕ) → x + length s ≤ length w → put_words w x s ≡ paste w x s (length s)
put_paste w x s h = put_sets w x s ∙ sets-eq s w x h ∙ rw (take_all (length s) s (omega arith))

-- the words of g stored from the first word of glyph i on
pub put_glyph : (w : List ℕ) (i : ℕ) (g : Glyph) → words * i + words ≤ length w → Fields g
    → glyphs_of (put_words w (words * i) (words_of g)) ≡ set (glyphs_of w) i g
put_glyph w i g h f =
    let e : length (words_of g) ≡ words = length-words_of g in
    ap glyphs_of (put_paste w (words * i) (words_of g) (omega arith) ∙ ap (paste w (words * i) (words_of g)) e)
    ∙ pasted_glyph w i (words_of g) h e
    ∙ ap (set (glyphs_of w) i) (glyph_back g f)

-- zeros are blank glyphs
zeros_more : (n : ℕ) → zeros (words * suc n) ≡ zeros words ++ zeros (words * n)
zeros_more n =
    let e : words * suc n ≡ words + words * n = omega arith in
    ap zeros e ∙ sym (replicate-append-replicate words (words * n) 0)

pub glyphs_of_zeros : (n : ℕ) → glyphs_of (zeros (words * n)) ≡ replicate n blank
unfolding glyphs_of glyphs blank
glyphs_of_zeros zero = refl
glyphs_of_zeros (suc n) =
    rw (zeros_more n, glyphs_of-append 1 (zeros words) (zeros (words * n)) refl, glyphs_of_zeros n)

-- n glyphs from glyph j on become blank
pub cleared_glyphs_of : (w : List ℕ) (j n : ℕ) → words * j + words * n ≤ length w
    → glyphs_of (paste w (words * j) (zeros (words * n)) (words * n)) ≡ paste (glyphs_of w) j (replicate n blank) n
cleared_glyphs_of w j n h =
    paste_glyphs_of w j (zeros (words * n)) n h (rw length-replicate (omega arith))
    ∙ rw (glyphs_of_zeros n)

pub clear_more : (w : List ℕ) (x n k : ℕ) → x + k < length w → k < n
    → set (paste w x (zeros n) k) (x + k) 0 ≡ paste w x (zeros n) (k + 1)
clear_more w x n k h l =
    let e : get_or (zeros n) k 0 ≡ zero = get_or-replicate n k 0 0 l in
    let m : k < length (zeros n) = rw length-replicate l in
    ap (λ (v : ℕ). set (paste w x (zeros n) k) (x + k) v) (sym e)
    ∙ rw (add-one, paste-suc w x (zeros n) k 0 h m)
