-- Glyphs that go from one row to the other leave the text as it is.
use Rattle.std.specs.Prelude.{◌≡◌, refl, List, [], ◌∷◌, ◌++◌, ℕ, ◌+◌, ◌-◌, ◌≤◌, ◌<◌, length, set, get_or, take, drop, replicate}
use Rattle.std.proofs.Common.{sym, ap, ◌∙◌, append_assoc, append-nil, add-zero, add-one, arith, drop_of_length-le, length-append, length-drop}
use Rattle.std.proofs.Common.{take-append-drop, length-take-le, take_at, drop_at, drop-drop, take-add, get_or-append-add, get_or-drop, take_all}
use Rattle.std.proofs.lemmas.List.{length-map, length-replicate}
use Rattle.std.proofs.Math.ListN.{get_or-map}
use Rattle.std.proofs.Math.Seq.{drop-append-add, paste, paste-zero, paste-suc}
use Rattle.std.proofs.lemmas.List.Edits.{take-paste, drop-paste}
use Rattle.glyph.specs.declared.Glyph.{Glyph}
use Rattle.glyph.specs.Glyph.{limit, glyphs_of, blank}
use Rattle.glyph.specs.Laws.{length_row}
use Rattle.text.specs.declared.Place.{Place}
use Rattle.text.specs.Text.{Text, text_of, Fits, Holds, Clear, moved_to, copies_by, replaced_by}

-- n glyphs copied from the start of the coming part to the end of the done part
forth : (D C : List Glyph) (d i n : ℕ) → d ≤ length D → i + n ≤ length C
    → take (d + n) (paste D d (drop i C) n) ++ drop (i + n) C ≡ take d D ++ drop i C
forth D C d i n h k =
    let l : n ≤ length (drop i C) = simp length-drop (omega arith) in
    rw (take-paste D d (drop i C) n h l, ← drop-drop n i C, append_assoc, take-append-drop n (drop i C))

-- a copy's row before the place, and from it on
paste_front : (D : List Glyph) (d : ℕ) (S : List Glyph) (n : ℕ) → d ≤ length D → take d (paste D d S n) ≡ take d D
paste_front D d S n h =
    rw (append_assoc (take d D) (take n S) (drop (d + n) D)) (take_at (take d D) (take n S ++ drop (d + n) D) d (length-take-le d D h))

paste_rest : (D : List Glyph) (d : ℕ) (S : List Glyph) (n : ℕ) → d ≤ length D → drop d (paste D d S n) ≡ take n S ++ drop (d + n) D
paste_rest D d S n h =
    rw (append_assoc (take d D) (take n S) (drop (d + n) D)) (drop_at (take d D) (take n S ++ drop (d + n) D) d (length-take-le d D h))

-- n glyphs copied from the end of the done part to the start of the coming part
back : (D C : List Glyph) (p i n : ℕ) → i ≤ length C → take p D ++ drop i (paste C i (drop p D) n) ≡ take (p + n) D ++ drop (i + n) C
back D C p i n h = rw (paste_rest C i (drop p D) n h, take-add p n D, append_assoc)

-- the text before the cursor, at it and after it
module _ (D C : List Glyph) (d i : ℕ) (h : d ≤ length D) where
  pub text_before : take d (take d D ++ drop i C) ≡ take d D
  text_before = take_at (take d D) (drop i C) d (length-take-le d D h)

  pub text_from : drop d (take d D ++ drop i C) ≡ drop i C
  text_from = drop_at (take d D) (drop i C) d (length-take-le d D h)

  pub text_at : get_or (take d D ++ drop i C) d blank ≡ get_or C i blank
  text_at =
      let e : d ≡ length (take d D) + 0 = omega (arith, length-take-le d D h) in
      ap (λ (n : ℕ). get_or (take d D ++ drop i C) n blank) e
      ∙ get_or-append-add (take d D) (drop i C) 0 blank
      ∙ get_or-drop i C 0 blank
      ∙ ap (λ (n : ℕ). get_or C n blank) (add-zero i)

  text_after_lem : drop (d + 1) (take d D ++ drop i C) ≡ drop (i + 1) C
  text_after_lem =
      let e : d + 1 ≡ length (take d D) + 1 = omega (arith, length-take-le d D h) in
      ap (λ (n : ℕ). drop n (take d D ++ drop i C)) e
      ∙ drop-append-add (take d D) (drop i C) 1
      ∙ drop-drop 1 i C

-- one copy more is written, whatever is written
pub copies_more : (write : ℕ → Glyph → Glyph) (D : List Glyph) (d k : ℕ) (ids : List ℕ) (g : Glyph) → d + k < length D → k < length ids
    → set (paste D d (copies_by write ids g) k) (d + k) (write (get_or ids k 0) g) ≡ paste D d (copies_by write ids g) (k + 1)
copies_more write D d k ids g h l =
    let m : k < length (copies_by write ids g) = rw length-map l in
    ap (λ (x : Glyph). set (paste D d (copies_by write ids g) k) (d + k) x) (sym (get_or-map (λ id. write id g) ids k 0))
    ∙ rw add-one (paste-suc D d (copies_by write ids g) k (write 0 g) h m)

-- one glyph written
pub copied_one : (write : ℕ → Glyph → Glyph) (D : List Glyph) (d id : ℕ) (g : Glyph) → d < length D
    → set D d (write id g) ≡ paste D d (copies_by write (id ∷ []) g) 1
copied_one write D d id g h =
    let m : d + 0 < length D = omega arith in
    ap (λ (n : ℕ). set D n (write id g)) (sym (add-zero d))
    ∙ ap (λ (P : List Glyph). set P (d + 0) (write id g)) (paste-zero D d (copies_by write (id ∷ []) g))
    ∙ copies_more write D d 0 (id ∷ []) g m (omega arith)

-- what a caller's sums need
pub record Sizes (done coming : List ℕ) (s : Place) : Type 0 where
  pub done_is : length (glyphs_of done) ≡ limit
  pub coming_is : length (glyphs_of coming) ≡ limit
  pub within : s.idx ≤ limit
  pub room : s.d ≤ s.idx
  pub text_is : length (text_of done coming s).glyphs ≡ s.d + (limit - s.idx)

pub sizes : (done coming : List ℕ) (s : Place) → Fits done coming s → Sizes done coming s
sizes done coming s f =
    let a : length (glyphs_of done) ≡ limit = length_row limit done f.long in
    let b : length (glyphs_of coming) ≡ limit = length_row limit coming f.wide in
    let l : s.d ≤ s.idx = f.room in
    let w : s.idx ≤ limit = f.within in
    let e : length (take s.d (glyphs_of done)) ≡ s.d = length-take-le s.d (glyphs_of done) (omega arith) in
    record { done_is = a; coming_is = b; within = w; room = l; text_is = simp (length-append, length-drop) (omega arith) }

-- rows of the same lengths fit at another place
fits_at : (done coming done' coming' : List ℕ) (s r : Place) → Fits done coming s → length done' ≡ length done → length coming' ≡ length coming
    → r.d ≤ r.idx → r.idx ≤ limit → Fits done' coming' r
fits_at done coming done' coming' s r f a b l w = record { long = a ∙ f.long; wide = b ∙ f.wide; within = w; room = l }

module _ (done coming : List ℕ) (s : Place) (f : Fits done coming s) where
  pub moved_forth : (done' : List ℕ) (p : ℕ) → length done' ≡ length done → s.d ≤ p → p ≤ length (text_of done coming s).glyphs
      → glyphs_of done' ≡ paste (glyphs_of done) s.d (drop s.idx (glyphs_of coming)) (p - s.d)
      → Holds done' coming (record { d = p; idx = s.idx + (p - s.d) }) (moved_to p (text_of done coming s))
  moved_forth done' p same ge le q =
      let z = sizes done coming s f in
      let n : ℕ = p - s.d in
      let e : p ≡ s.d + (p - s.d) = omega arith in
      let t : take p (glyphs_of done') ++ drop (s.idx + (p - s.d)) (glyphs_of coming) ≡ (text_of done coming s).glyphs =
      ap (λ (m : ℕ). take m (glyphs_of done') ++ drop (s.idx + (p - s.d)) (glyphs_of coming)) e
      ∙ rw q (forth (glyphs_of done) (glyphs_of coming) s.d s.idx (p - s.d) (omega arith) (omega arith)) in
      record {
        fits = fits_at done coming done' coming s (record { d = p; idx = s.idx + (p - s.d) }) f same refl (omega arith) (omega arith);
        text = λ j. record { glyphs = t j; cursor = p };
      }

  pub moved_back : (coming' : List ℕ) (p : ℕ) → length coming' ≡ length coming → p ≤ s.d
      → glyphs_of coming' ≡ paste (glyphs_of coming) (s.idx - (s.d - p)) (drop p (glyphs_of done)) (s.d - p)
      → Holds done coming' (record { d = p; idx = s.idx - (s.d - p) }) (moved_to p (text_of done coming s))
  moved_back coming' p same le q =
      let z = sizes done coming s f in
      let i : ℕ = s.idx - (s.d - p) in
      let e : p + (s.d - p) ≡ s.d = omega arith in
      let g : s.idx - (s.d - p) + (s.d - p) ≡ s.idx = omega arith in
      let t : take p (glyphs_of done) ++ drop (s.idx - (s.d - p)) (glyphs_of coming') ≡ (text_of done coming s).glyphs =
      rw (q, back (glyphs_of done) (glyphs_of coming) p (s.idx - (s.d - p)) (s.d - p) (omega arith), g, e) in
      record {
        fits = fits_at done coming done coming' s (record { d = p; idx = s.idx - (s.d - p) }) f refl same (omega arith) (omega arith);
        text = λ j. record { glyphs = t j; cursor = p };
      }

  pub replaced_is : (write : ℕ → Glyph → Glyph) (done' ids : List ℕ) → length done' ≡ length done → s.d < length (text_of done coming s).glyphs
      → length (text_of done coming s).glyphs + length ids ≤ limit + 1
      → glyphs_of done' ≡ paste (glyphs_of done) s.d (copies_by write ids (get_or (glyphs_of coming) s.idx blank)) (length ids)
      → Holds done' coming (record { d = s.d + length ids; idx = s.idx + 1 }) (replaced_by write ids (text_of done coming s))
  replaced_is write done' ids same lt le q =
      let z = sizes done coming s f in
      let D : List Glyph = glyphs_of done in
      let C : List Glyph = glyphs_of coming in
      let W : List Glyph = copies_by write ids (get_or C s.idx blank) in
      let h : s.d ≤ length D = omega arith in
      let m : length W ≡ length ids = length-map ids (λ id. write id (get_or C s.idx blank)) in
      let t : take (s.d + length ids) (glyphs_of done') ++ drop (s.idx + 1) C ≡ (replaced_by write ids (text_of done coming s)).glyphs =
      rw (
        q,
        take-paste D s.d W (length ids) h (omega arith),
        take_all (length ids) W (omega arith),
        text_before D C s.d s.idx h,
        text_at D C s.d s.idx h,
        text_after_lem D C s.d s.idx h,
      ) in
      record {
        fits = fits_at done coming done' coming s (record { d = s.d + length ids; idx = s.idx + 1 }) f same refl (omega arith) (omega arith);
        text = λ j. record { glyphs = t j; cursor = s.d + length ids };
      }

  pub cleared_is : (done' coming' : List ℕ) → length done' ≡ length done → length coming' ≡ length coming
      → glyphs_of done' ≡ paste (glyphs_of done) s.d (replicate (limit - s.d) blank) (limit - s.d)
      → glyphs_of coming' ≡ paste (glyphs_of coming) 0 (replicate s.idx blank) s.idx
      → Holds done' coming' s (text_of done coming s) × Clear done' coming' s
  cleared_is done' coming' same same' q r =
      let z = sizes done coming s f in
      let D : List Glyph = glyphs_of done in
      let C : List Glyph = glyphs_of coming in
      let n : ℕ = limit - s.d in
      let R : List Glyph = replicate (limit - s.d) blank in
      let Q : List Glyph = replicate s.idx blank in
      let h : s.d ≤ length D = omega arith in
      let ln : length R ≡ n = length-replicate n blank in
      let li : length Q ≡ s.idx = length-replicate s.idx blank in
      let over : drop (s.d + n) D ≡ [] = drop_of_length-le D {i = s.d + n} (omega arith) in
      let e : 0 + s.idx ≡ s.idx = omega arith in
      let d₁ : take s.d (glyphs_of done') ≡ take s.d D = rw (q, paste_front D s.d R n h) in
      let d₂ : drop s.d (glyphs_of done') ≡ R = rw (q, paste_rest D s.d R n h, over, append-nil, take_all n R (omega arith)) in
      let c₁ : drop s.idx (glyphs_of coming') ≡ drop s.idx C =
      rw (r, e) (rw e at (drop-paste C 0 Q s.idx (omega arith) (omega arith))) in
      let c₂ : take s.idx (glyphs_of coming') ≡ Q =
      rw (r, e) (rw e at (take-paste C 0 Q s.idx (omega arith) (omega arith))) ∙ take_all s.idx Q (omega arith) in
      let t : (text_of done' coming' s).glyphs ≡ (text_of done coming s).glyphs = rw (d₁, c₁) in (
        record {
          fits = fits_at done coming done' coming' s s f same same' (omega arith) (omega arith);
          text = λ j. record { glyphs = t j; cursor = s.d };
        },
        record { past = d₂; before = c₂ },
      )

-- what the rows hold, read off; and one change after another
module _ {done coming : List ℕ} {s : Place} {t : Text} (h : Holds done coming s t) where
  pub cursor_of : s.d ≡ t.cursor
  cursor_of = ap (λ (u : Text). u.cursor) h.text

  pub length_of : length (text_of done coming s).glyphs ≡ length t.glyphs
  length_of = ap (λ (u : Text). length u.glyphs) h.text

  pub holds_then : {done' coming' : List ℕ} {s' : Place} (f : Text → Text) → Holds done' coming' s' (f (text_of done coming s))
      → Holds done' coming' s' (f t)
  holds_then f g = record { fits = g.fits; text = g.text ∙ ap f h.text }
