-- Read and written down again: a line that is a frame is that frame's line, up to the case of its digits, and the frame is within
-- the limits. So a line is read in one way only, and no line is a frame that `line_of` doesn't write.
use Prim.Native.Nat.{ℕ, zero, suc, ◌+◌, ◌-◌, ◌*◌, ◌/◌, ◌%◌, ◌≤◌, ◌<◌}
use Rattle.std.specs.Prelude.{◌≡◌, refl, Some, None, Bool, true, false, cond, not, ◌&&◌, ◌||◌, eqb, ltb}
use Rattle.std.proofs.Math.Path.{sym, ap}
use Rattle.std.proofs.Common.{◌∙◌, true≢false, ltb-true, ltb-false, eqb-true, le-ltb, lt-ltb, drop-cons}
use mathlib.Core.List.{List, [], ◌∷◌, ◌++◌, append-nil}
use native.Mathlib.Omega.{arith}
use Rattle.std.proofs.Math.ListN.{length, get_or, drop}
use Rattle.std.proofs.Math.Seq.{drop-length}
use Rattle.bits.specs.Bits.{every}
use Rattle.bits.proofs.Laws.{every_at, and_left, and_right}
use Rattle.glyph.specs.Glyph.{words, glyphs_of}
use Rattle.glyph.specs.Laws.{length_row}
use Rattle.verdict.specs.declared.Table.{Table}
use Rattle.tape_frame.specs.Digits.{no_digit, digit, is_digit, spells, bytes_of}
use Rattle.tape_frame.specs.Frame.{Frame, a_frame, half_at, word_at, words_at, opens, gsub, gpos, table_kind, settings_of}
use Rattle.tape_frame.specs.Frame.{value_count, done_count, coming_count, counts_at, done_at, coming_at, frame_end, frame_in, frame_of}
use Rattle.tape_frame.specs.FrameLaws.{FrameLimits, whole_keeps, length-words, kind_for, frame_has}
use Rattle.tape_frame.specs.Line.{capital, digits_of, half, word, word_bytes, tag_of, settings_byte, opening_bytes, frame_bytes, line_of}
use Rattle.tape_frame.specs.Bytes.{Below, nothing, more}
use Rattle.tape_frame.specs.Back.{FrameWithin}

-- ---- digits in capitals

-- a to f become A to F
abbrev pub upper : ℕ → ℕ
upper b = cond (ltb 96 b && ltb b 103) (b - 32) b

unfoldable pub capitals : List ℕ → List ℕ
capitals [] = []
capitals (b ∷ rest) = upper b ∷ capitals rest

-- no digit from g on
digit_late : (b : ℕ) → 103 ≤ b → digit b ≡ no_digit
unfolding digit
digit_late b h =
    rw (
      le-ltb b 48 (omega arith),
      le-ltb b 58 (omega arith),
      le-ltb b 65 (omega arith),
      le-ltb b 71 (omega arith),
      le-ltb b 97 (omega arith),
      le-ltb b 103 (omega arith),
    )

digit_early : (b : ℕ) (t : Bool) → ltb b 103 ≡ t → digit b < no_digit → b < 103
digit_early b true e h = ltb-true b 103 e
digit_early b false e h =
    let l : 103 ≤ b = ltb-false b 103 e in
    let z : ⊥ = omega (arith, digit_late b l) in
    absurd z

told : (p q : Bool) → p ≡ true → (not p || q) ≡ true → q ≡ true
told true q e h = h
told false q e h = absurd (true≢false (sym e))

pub digit_upper : (b : ℕ) → digit b < no_digit → capital (digit b) ≡ upper b
unfolding digit every
digit_upper b h =
    let e : b < 103 = digit_early b (ltb b 103) refl h in
    let t : (not (is_digit b) || eqb (capital (digit b)) (upper b)) ≡ true =
    every_at (λ k. not (is_digit k) || eqb (capital (digit k)) (upper k)) 103 b refl e in
    eqb-true (capital (digit b)) (upper b) (told (is_digit b) (eqb (capital (digit b)) (upper b)) (lt-ltb (digit b) no_digit h) t)

digits_forth : (l : List ℕ) → spells l ≡ true → digits_of (bytes_of l) ≡ capitals l
unfolding digits_of bytes_of capitals spells
digits_forth [] e = refl
digits_forth (a ∷ []) e = absurd (true≢false (sym e))
digits_forth (a ∷ b ∷ rest) e =
    let both = and_left (is_digit a && is_digit b) (spells rest) e in
    let p : digit a < 16 = ltb-true (digit a) no_digit (and_left (is_digit a) (is_digit b) both) in
    let q : digit b < 16 = ltb-true (digit b) no_digit (and_right (is_digit a) (is_digit b) both) in
    let x : (digit a * 16 + digit b) / 16 % 16 ≡ digit a = omega arith in
    let y : (digit a * 16 + digit b) % 16 ≡ digit b = omega arith in
    rw (x, y, digit_upper a p, digit_upper b q)
    (ap (λ (r : List ℕ). upper a ∷ upper b ∷ r) (digits_forth rest (and_right (is_digit a && is_digit b) (spells rest) e)))

bytes_below : (l : List ℕ) → spells l ≡ true → Below 256 (bytes_of l)
unfolding bytes_of spells
bytes_below [] e = nothing
bytes_below (a ∷ []) e = absurd (true≢false (sym e))
bytes_below (a ∷ b ∷ rest) e =
    let both = and_left (is_digit a && is_digit b) (spells rest) e in
    let p : digit a < 16 = ltb-true (digit a) no_digit (and_left (is_digit a) (is_digit b) both) in
    let q : digit b < 16 = ltb-true (digit b) no_digit (and_right (is_digit a) (is_digit b) both) in
    more (digit a * 16 + digit b) (omega arith) (bytes_below rest (and_right (is_digit a && is_digit b) (spells rest) e))

-- ---- numbers

below_at : {b : List ℕ} → Below 256 b → (k : ℕ) → get_or b k 0 < 256
below_at nothing k = omega arith
below_at (more x h p) zero = h
below_at (more x h p) (suc k) = below_at p k

module _ (b : List ℕ) (s : Below 256 b) where
  half_high : (at : ℕ) → half_at b at / 256 % 256 ≡ get_or b at 0
  half_high at = omega (arith, below_at s at, below_at s (at + 1))

  half_low : (at : ℕ) → half_at b at % 256 ≡ get_or b (at + 1) 0
  half_low at = omega (arith, below_at s at, below_at s (at + 1))

  half_forth : (at : ℕ) → half (half_at b at) ≡ get_or b at 0 ∷ get_or b (at + 1) 0 ∷ []
  half_forth at = λ j. half_high at j ∷ half_low at j ∷ []

  half_small : (at : ℕ) → half_at b at < 65536
  half_small at = omega (arith, below_at s at, below_at s (at + 1))

  word_small : (at : ℕ) → word_at b at < 4294967296
  word_small at = omega (arith, half_small at, half_small (at + 2))

  word_forth : (at : ℕ) → word (word_at b at) ≡ get_or b at 0 ∷ get_or b (at + 1) 0 ∷ get_or b (at + 2) 0 ∷ get_or b (at + 2 + 1) 0 ∷ []
  word_forth at =
      let p = half_small at in
      let q = half_small (at + 2) in
      let x : word_at b at / 65536 ≡ half_at b at = omega arith in
      let y : word_at b at % 65536 ≡ half_at b (at + 2) = omega arith in
      ap (λ (n : ℕ). half n ++ half (word_at b at % 65536)) x
      ∙ ap (λ (n : ℕ). half (half_at b at) ++ half n) y
      ∙ (λ j. half_forth at j ++ half_forth (at + 2) j)

  -- four bytes taken off
  drop_four : (at : ℕ) → at + 4 ≤ length b
      → drop at b ≡ get_or b at 0 ∷ get_or b (at + 1) 0 ∷ get_or b (at + 2) 0 ∷ get_or b (at + 2 + 1) 0 ∷ drop (at + 4) b
  drop_four at h =
      let e₁ : suc at ≡ at + 1 = omega arith in
      let e₂ : suc (at + 1) ≡ at + 2 = omega arith in
      let e₃ : suc (at + 2) ≡ at + 2 + 1 = omega arith in
      let e₄ : suc (at + 2 + 1) ≡ at + 4 = omega arith in
      let d₁ : drop (at + 1) b ≡ get_or b (at + 1) 0 ∷ drop (at + 2) b = drop-cons b (at + 1) 0 (omega arith)
      ∙ ap (λ (n : ℕ). get_or b (at + 1) 0 ∷ drop n b) e₂ in
      let d₂ : drop (at + 2) b ≡ get_or b (at + 2) 0 ∷ drop (at + 2 + 1) b = drop-cons b (at + 2) 0 (omega arith)
      ∙ ap (λ (n : ℕ). get_or b (at + 2) 0 ∷ drop n b) e₃ in
      let d₃ : drop (at + 2 + 1) b ≡ get_or b (at + 2 + 1) 0 ∷ drop (at + 4) b = drop-cons b (at + 2 + 1) 0 (omega arith)
      ∙ ap (λ (n : ℕ). get_or b (at + 2 + 1) 0 ∷ drop n b) e₄ in
      drop-cons b at 0 (omega arith)
      ∙ ap (λ (n : ℕ). get_or b at 0 ∷ drop n b) e₁
      ∙ ap (λ (r : List ℕ). get_or b at 0 ∷ r)
      (d₁ ∙ ap (λ (r : List ℕ). get_or b (at + 1) 0 ∷ r) (d₂ ∙ ap (λ (r : List ℕ). get_or b (at + 2) 0 ∷ r) d₃))

  -- words that are read are written as they stood, before what follows them
  words_forth : (n at : ℕ) → at + 4 * n ≤ length b → word_bytes (words_at n at b) ++ drop (at + 4 * n) b ≡ drop at b
  unfolding words_at word_bytes
  words_forth zero at h =
      let z : at + 4 * 0 ≡ at = omega arith in
      rw z
  words_forth (suc n) at h =
      let z : at + 4 * suc n ≡ at + 4 + 4 * n = omega arith in
      (λ j. word_forth at j ++ word_bytes (words_at n (at + 4) b) ++ drop (z j) b)
      ∙ (ap (λ (r : List ℕ). get_or b at 0 ∷ get_or b (at + 1) 0 ∷ get_or b (at + 2) 0 ∷ get_or b (at + 2 + 1) 0 ∷ r)
      (words_forth n (at + 4) (omega arith))
      ∙ sym (drop_four at (omega arith)))

  words_small : (n at : ℕ) → Below 4294967296 (words_at n at b)
  unfolding words_at
  words_small zero at = nothing
  words_small (suc n) at = more (word_at b at) (word_small at) (words_small n (at + 4))

-- ---- the opening

kind_gsub : (p q : Bool) → cond p (Some Table.Gsub) (cond q (Some Table.Gpos) None) ≡ Some Table.Gsub → p ≡ true
kind_gsub true q e = refl
kind_gsub false true e = let z : ◌≡◌ {A = ℕ} 0 1 = cc in absurd (omega arith)
kind_gsub false false e = let z : ◌≡◌ {A = ℕ} 0 1 = cc in absurd (omega arith)

kind_gpos : (p q : Bool) → cond p (Some Table.Gsub) (cond q (Some Table.Gpos) None) ≡ Some Table.Gpos → q ≡ true
kind_gpos true q e = let z : ◌≡◌ {A = ℕ} 0 1 = cc in absurd (omega arith)
kind_gpos false true e = refl
kind_gpos false false e = let z : ◌≡◌ {A = ℕ} 0 1 = cc in absurd (omega arith)

four_of : (b : List ℕ) (w x y z : ℕ) → opens b (w ∷ x ∷ y ∷ z ∷ []) ≡ true
    → w ∷ x ∷ y ∷ z ∷ [] ≡ get_or b 0 0 ∷ get_or b 1 0 ∷ get_or b 2 0 ∷ get_or b 3 0 ∷ []
four_of b w x y z e =
    let p = eqb (get_or b 0 0) w in
    let q = eqb (get_or b 1 0) x in
    let r = eqb (get_or b 2 0) y in
    let s = eqb (get_or b 3 0) z in
    let three = and_left ((p && q) && r) s e in
    let two = and_left (p && q) r three in
    λ j.
    sym (eqb-true (get_or b 0 0) w (and_left p q two)) j
    ∷ sym (eqb-true (get_or b 1 0) x (and_right p q two)) j
    ∷ sym (eqb-true (get_or b 2 0) y (and_right (p && q) r three)) j
    ∷ sym (eqb-true (get_or b 3 0) z (and_right ((p && q) && r) s e)) j
    ∷ []

tag_forth : (t : Table) (b : List ℕ) → table_kind b ≡ kind_for t
    → tag_of t ≡ get_or b 0 0 ∷ get_or b 1 0 ∷ get_or b 2 0 ∷ get_or b 3 0 ∷ []
unfolding table_kind
tag_forth Table.Gsub b e = four_of b 71 83 85 66 (kind_gsub (opens b gsub) (opens b gpos) e)
tag_forth Table.Gpos b e = four_of b 71 80 79 83 (kind_gpos (opens b gsub) (opens b gpos) e)

settings_forth : (t : Table) (x : ℕ) → x < 8 → settings_byte (settings_of t x) ≡ x
unfolding settings_of every
settings_forth t x h =
    eqb-true (settings_byte (settings_of t x)) x (every_at (λ k. eqb (settings_byte (settings_of t k)) k) 8 x refl h)

-- ---- the frame

module _ (t : Table) (b : List ℕ) (s : Below 256 b) (k : FrameLimits b) where
  size : 20 ≤ length b
  size = omega (arith, k.size)

  sixteen : (get_or b 0 0 ∷ get_or b 1 0 ∷ get_or b 2 0 ∷ get_or b 3 0 ∷ get_or b 4 0 ∷ get_or b 5 0 ∷ get_or b 6 0 ∷ get_or b 7 0
      ∷ get_or b 8 0 ∷ get_or b 9 0 ∷ get_or b 10 0 ∷ get_or b 11 0 ∷ get_or b 12 0 ∷ get_or b 13 0 ∷ get_or b 14 0 ∷ get_or b 15 0 ∷ drop 16 b) ≡ b
  sixteen =
      sym
      (drop_four b s 0 (omega (arith, size))
      ∙ ap (λ (r : List ℕ). get_or b 0 0 ∷ get_or b 1 0 ∷ get_or b 2 0 ∷ get_or b 3 0 ∷ r)
      (drop_four b s 4 (omega (arith, size))
      ∙ ap (λ (r : List ℕ). get_or b 4 0 ∷ get_or b 5 0 ∷ get_or b 6 0 ∷ get_or b 7 0 ∷ r)
      (drop_four b s 8 (omega (arith, size))
      ∙ ap (λ (r : List ℕ). get_or b 8 0 ∷ get_or b 9 0 ∷ get_or b 10 0 ∷ get_or b 11 0 ∷ r) (drop_four b s 12 (omega (arith, size))))))

  opening_forth : table_kind b ≡ kind_for t → opening_bytes (frame_in t b) ++ drop 16 b ≡ b
  unfolding frame_in settings_of
  opening_forth tag =
      (λ j.
      tag_forth t b tag j ++ (settings_forth t (get_or b 4 0) k.settings j ∷ []) ++ word_forth b s 5 j ++ word_forth b s 9 j ++ half_forth b s 13 j
      ++ (length-words (value_count b) 16 b j ∷ []) ++ drop 16 b)
      ∙ sixteen

  counts_forth : half (done_count b) ++ (half (coming_count b) ++ drop (done_at b) b) ≡ drop (counts_at b) b
  unfolding done_count coming_count
  counts_forth =
      (λ j. half_forth b s (counts_at b) j ++ (half_forth b s (counts_at b + 2) j ++ drop (done_at b) b))
      ∙ sym (drop_four b s (counts_at b) (omega (arith, k.size)))

  coming_forth : word_bytes (frame_in t b).coming ≡ drop (coming_at b) b
  unfolding frame_in
  coming_forth =
      let e : drop (frame_end b) b ≡ [] = ap (λ (n : ℕ). drop n b) (sym k.size) ∙ drop-length b in
      sym (append-nil (word_bytes (frame_in t b).coming))
      ∙ ap (λ (r : List ℕ). word_bytes (frame_in t b).coming ++ r) (sym e)
      ∙ words_forth b s (words * coming_count b) (coming_at b) (omega (arith, k.size))

  records_forth : word_bytes (frame_in t b).done ++ word_bytes (frame_in t b).coming ≡ drop (done_at b) b
  unfolding frame_in
  records_forth =
      ap (λ (r : List ℕ). word_bytes (frame_in t b).done ++ r) coming_forth
      ∙ words_forth b s (words * done_count b) (done_at b) (omega (arith, k.size))

  frame_forth : table_kind b ≡ kind_for t → frame_bytes (frame_in t b) ≡ b
  unfolding frame_bytes frame_in
  frame_forth tag =
      let d : length (glyphs_of (frame_in t b).done) ≡ done_count b = length_row (done_count b) (frame_in t b).done
      (length-words (words * done_count b) (done_at b) b) in
      let c : length (glyphs_of (frame_in t b).coming) ≡ coming_count b = length_row (coming_count b) (frame_in t b).coming
      (length-words (words * coming_count b) (coming_at b) b) in
      let o = opening_bytes (frame_in t b) in
      let v = word_bytes (frame_in t b).values in
      let r = word_bytes (frame_in t b).done ++ word_bytes (frame_in t b).coming in
      (λ j. o ++ (v ++ (half (d j) ++ (half (c j) ++ r))))
      ∙ ap (λ (x : List ℕ). o ++ (v ++ (half (done_count b) ++ (half (coming_count b) ++ x)))) records_forth
      ∙ ap (λ (x : List ℕ). o ++ (v ++ x)) counts_forth
      ∙ ap (λ (x : List ℕ). o ++ x) (words_forth b s (value_count b) 16 (omega (arith, k.size)))
      ∙ opening_forth tag

  frame_within : FrameWithin (frame_in t b)
  unfolding frame_in
  frame_within = record {
    mask = word_small b s 5;
    props = word_small b s 9;
    cursor = half_small b s 13;
    values = words_small b s (value_count b) 16;
    done = words_small b s (words * done_count b) (done_at b);
    coming = words_small b s (words * coming_count b) (coming_at b);
    value_count = omega (arith, length-words (value_count b) 16 b, k.values);
    done_count = done_count b;
    coming_count = coming_count b;
    done_row = length-words (words * done_count b) (done_at b) b;
    coming_row = length-words (words * coming_count b) (coming_at b) b;
    done_fits = k.done;
    coming_fits = k.coming;
  }

-- ---- the line

pub record Is (l : List ℕ) (f : Frame) : Type 0 where
  pub line : capitals l ≡ line_of f
  pub within : FrameWithin f

pub line_forth : (l : List ℕ) (f : Frame) → frame_of l ≡ a_frame f → Is l f
unfolding line_of
line_forth l f e =
    let h = frame_has l f e in
    let b = bytes_of l in
    let s = bytes_below l h.spelled in
    let k = whole_keeps b h.full in
    rw h.same
    record {
      line =
          sym (digits_forth l h.spelled) ∙ ap digits_of (sym (frame_forth h.table b s k h.tag));
      within = frame_within h.table b s k;
    }
