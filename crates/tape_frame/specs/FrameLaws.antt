-- Words a word at a time, as the code's loop reads them; what a whole frame keeps to, that a longer line is none, and what a line that is a frame
-- has.
use Prim.Native.Nat.{ℕ, zero, suc, ◌+◌, ◌-◌, ◌*◌, ◌%◌, ◌≤◌, ◌<◌}
use Rattle.std.specs.Prelude.{◌≡◌, refl, List, [], ◌∷◌, Option, Some, None, Bool, true, false, cond, ◌&&◌, ◌⊎◌, eqb, ltb, leb, length, get_or}
use Rattle.std.proofs.Common.{sym, ◌∙◌, true≢false, inl, inr, ⊎_elim, ltb-true, leb-true, eqb-true, lt-ltb, le-leb, eq-eqb}
use Rattle.std.proofs.Math.Path.{ap}
use native.Mathlib.Omega.{arith}
use Rattle.bits.proofs.Laws.{and_left, and_right}
use Rattle.verdict.specs.declared.Table.{Table}
use Rattle.tape_frame.specs.Digits.{spells, bytes_of}
use Rattle.tape_frame.specs.DigitLaws.{spells_odd, length_bytes}
use Rattle.tape_frame.specs.Frame.{Frame, most_values, most_glyphs, most_bytes, most_digits, a_frame, not_frame, word_at, words_at, table_kind}
use Rattle.tape_frame.specs.Frame.{value_count, done_count, coming_count, frame_end, is_whole, frame_in, of_kind, read_bytes, frame_of}

module _ (b : List ℕ) (at n i : ℕ) where
  pub words_step : i < n → words_at (n - i) (at + 4 * i) b ≡ word_at b (at + 4 * i) ∷ words_at (n - (i + 1)) (at + 4 * (i + 1)) b
  unfolding words_at
  words_step h =
      let left : n - i ≡ suc (n - (i + 1)) = omega arith in
      let on : at + 4 * i + 4 ≡ at + 4 * (i + 1) = omega arith in
      ap (λ (k : ℕ). words_at k (at + 4 * i) b) left
      ∙ ap (λ (k : ℕ). word_at b (at + 4 * i) ∷ words_at (n - (i + 1)) k b) on

  pub words_end : n ≤ i → words_at (n - i) (at + 4 * i) b ≡ []
  unfolding words_at
  words_end h =
      let left : n - i ≡ 0 = omega arith in
      ap (λ (k : ℕ). words_at k (at + 4 * i) b) left

pub length-words : (n at : ℕ) (b : List ℕ) → length (words_at n at b) ≡ n
unfolding words_at
length-words zero at b = refl
length-words (suc n) at b = ap suc (length-words n (at + 4) b)

-- ---- the limits

-- what a whole frame keeps to
pub record FrameLimits (b : List ℕ) : Type 0 where
  pub settings : get_or b 4 0 < 8
  pub values : value_count b ≤ most_values
  pub done : done_count b ≤ most_glyphs
  pub coming : coming_count b ≤ most_glyphs
  pub size : length b ≡ frame_end b

pub whole_keeps : (b : List ℕ) → is_whole b ≡ true → FrameLimits b
unfolding is_whole
whole_keeps b e =
    let s = ltb (get_or b 4 0) 8 in
    let v = leb (value_count b) most_values in
    let d = leb (done_count b) most_glyphs in
    let c = leb (coming_count b) most_glyphs in
    let z = eqb (length b) (frame_end b) in
    let front = and_left ((s && v) && (d && c)) z e in
    record {
      settings = ltb-true (get_or b 4 0) 8 (and_left s v (and_left (s && v) (d && c) front));
      values = leb-true (value_count b) most_values (and_right s v (and_left (s && v) (d && c) front));
      done = leb-true (done_count b) most_glyphs (and_left d c (and_right (s && v) (d && c) front));
      coming = leb-true (coming_count b) most_glyphs (and_right d c (and_right (s && v) (d && c) front));
      size = eqb-true (length b) (frame_end b) (and_right ((s && v) && (d && c)) z e);
    }

pub keeps_whole : (b : List ℕ) → FrameLimits b → is_whole b ≡ true
unfolding is_whole
keeps_whole b k =
    rw (
      lt-ltb (get_or b 4 0) 8 k.settings,
      le-leb (value_count b) most_values k.values,
      le-leb (done_count b) most_glyphs k.done,
      le-leb (coming_count b) most_glyphs k.coming,
      eq-eqb (length b) (frame_end b) k.size,
    )

too_long : (b : List ℕ) (t : Bool) → is_whole b ≡ t → most_bytes < length b → t ≡ false
too_long b true e h =
    let k = whole_keeps b e in
    let z : ⊥ = omega (arith, k.values, k.done, k.coming, k.size) in
    absurd z
too_long b false e h = refl

by_kind : (k : Option Table) (b : List ℕ) → is_whole b ≡ false → of_kind k b ≡ not_frame
by_kind (Some table) b e = rw e
by_kind None b e = refl

even_or_odd : (n : ℕ) → (n % 2 ≡ 0) ⊎ (n % 2 ≡ 1)
even_or_odd zero = inl refl
even_or_odd (suc n) = ⊎_elim (λ e. inr (omega arith)) (λ e. inl (omega arith)) (even_or_odd n)

even_long : (l : List ℕ) (t : Bool) → spells l ≡ t → most_digits < length l → cond t (read_bytes (bytes_of l)) not_frame ≡ not_frame
unfolding read_bytes
even_long l false e h = refl
even_long l true e h =
    ⊎_elim
    (λ even.
    by_kind (table_kind (bytes_of l)) (bytes_of l)
    (too_long (bytes_of l) (is_whole (bytes_of l)) refl (omega (arith, length_bytes l))))
    (λ odd. absurd (true≢false (sym e ∙ spells_odd l (λ z. omega arith))))
    (even_or_odd (length l))

-- a line longer than the longest frame is none
pub long_none : (l : List ℕ) → most_digits < length l → frame_of l ≡ not_frame
unfolding frame_of
long_none l h = even_long l (spells l) refl h

-- ---- what a line that is a frame has

abbrev pub kind_for : Table → Option Table
kind_for table = Some table

pub record LineHas (l : List ℕ) (f : Frame) : Type 0 where
  pub spelled : spells l ≡ true
  pub table : Table
  pub tag : table_kind (bytes_of l) ≡ kind_for table
  pub full : is_whole (bytes_of l) ≡ true
  pub same : f ≡ frame_in table (bytes_of l)

pub not_that : (f : Frame) → not_frame ≡ a_frame f → ⊥
not_that f e = let z : ◌≡◌ {A = ℕ} 0 1 = cc in omega arith

has_whole : (l : List ℕ) (f : Frame) (table : Table) (w : Bool) → spells l ≡ true → table_kind (bytes_of l) ≡ kind_for table
    → is_whole (bytes_of l) ≡ w → cond w (a_frame (frame_in table (bytes_of l))) not_frame ≡ a_frame f → LineHas l f
has_whole l f table true s k e h = record { spelled = s; table = table; tag = k; full = e; same = cc }
has_whole l f table false s k e h = absurd (not_that f h)

has_kind : (l : List ℕ) (f : Frame) (k : Option Table) → spells l ≡ true → table_kind (bytes_of l) ≡ k → of_kind k (bytes_of l) ≡ a_frame f
    → LineHas l f
has_kind l f (Some table) s e h = has_whole l f table (is_whole (bytes_of l)) s e refl h
has_kind l f None s e h = absurd (not_that f h)

has_spelled : (l : List ℕ) (f : Frame) (s : Bool) → spells l ≡ s → cond s (read_bytes (bytes_of l)) not_frame ≡ a_frame f → LineHas l f
unfolding read_bytes
has_spelled l f true e h = has_kind l f (table_kind (bytes_of l)) e refl h
has_spelled l f false e h = absurd (not_that f h)

pub frame_has : (l : List ℕ) (f : Frame) → frame_of l ≡ a_frame f → LineHas l f
unfolding frame_of
frame_has l f h = has_spelled l f (spells l) refl h
