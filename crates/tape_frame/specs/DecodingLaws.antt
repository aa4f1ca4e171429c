-- What the code counts on of a head, how the lists of a frame are read as its head counts them, and what is known of a line by what it was
-- decoded to.
use Rattle.std.specs.Prelude.{ℕ, ◌*◌, ◌≡◌, refl, List, Some, None, true, length}
use Rattle.std.proofs.Common.{sym, ◌∙◌, arith}
use Rattle.std.proofs.Math.Path.{ap}
use Rattle.glyph.specs.Glyph.{words, glyphs_of, Row}
use Rattle.glyph.specs.Laws.{length_row}
use Rattle.verdict.specs.declared.Table.{Table}
use Rattle.tape_frame.specs.declared.Head.{Head}
use Rattle.tape_frame.specs.declared.Lists.{Lists}
use Rattle.tape_frame.specs.Digits.{bytes_of}
use Rattle.tape_frame.specs.Frame.{Frame, LineRead, a_frame, not_frame, words_at, values_at, value_count}
use Rattle.tape_frame.specs.Frame.{done_count, coming_count, done_at, coming_at, is_whole, frame_in, frame_of}
use Rattle.tape_frame.specs.FrameLaws.{length-words, whole_keeps, frame_has}
use Rattle.tape_frame.specs.Decoding.{head_of, decoded, Decodes, Bounded}
use Rattle.tape_frame.specs.Put.{put_none}

pub head_bounded : (table : Table) (b : List ℕ) → is_whole b ≡ true → Bounded (head_of (frame_in table b))
unfolding frame_in
head_bounded table b e =
    let k = whole_keeps b e in
    record {
      values = omega (arith, length-words (value_count b) 16 b, k.values);
      done = omega (arith, length_row (done_count b) (frame_in table b).done (length-words (words * done_count b) (done_at b) b), k.done);
      coming = omega (arith, length_row (coming_count b) (frame_in table b).coming (length-words (words * coming_count b) (coming_at b) b), k.coming);
    }

-- no frame: nothing is stored
pub decodes_none : (r : LineRead) (l : Lists) → r ≡ not_frame → Decodes r None l l
decodes_none r l e =
    rw e record {
      answers = refl;
      values = sym (put_none l.values 0);
      done = sym (put_none l.done 0);
      coming = sym (put_none l.coming 0);
    }

-- the lists of a frame, read as its head counts them
module _ (table : Table) (b : List ℕ) (h : Head) (e : h ≡ head_of (frame_in table b)) where
  count_values : h.values ≡ value_count b
  unfolding frame_in
  count_values = ap (λ (x : Head). x.values) e ∙ length-words (value_count b) 16 b

  pub count_done : h.done ≡ done_count b
  unfolding frame_in
  count_done = ap (λ (x : Head). x.done) e ∙ length_row (done_count b) (frame_in table b).done (length-words (words * done_count b) (done_at b) b)

  count_coming : h.coming ≡ coming_count b
  unfolding frame_in
  count_coming = ap (λ (x : Head). x.coming) e ∙ length_row (coming_count b) (frame_in table b).coming
      (length-words (words * coming_count b) (coming_at b) b)

  pub rows_values : words_at h.values values_at b ≡ (frame_in table b).values
  unfolding frame_in
  rows_values = ap (λ (n : ℕ). words_at n values_at b) count_values

  pub rows_done : words_at (words * h.done) (done_at b) b ≡ (frame_in table b).done
  unfolding frame_in
  rows_done = ap (λ (n : ℕ). words_at (words * n) (done_at b) b) count_done

  pub rows_coming : words_at (words * h.coming) (coming_at b) b ≡ (frame_in table b).coming
  unfolding frame_in
  rows_coming = ap (λ (n : ℕ). words_at (words * n) (coming_at b) b) count_coming

pub frame_bounded : (l : List ℕ) (f : Frame) → frame_of l ≡ a_frame f → Bounded (head_of f)
frame_bounded l f h = let p = frame_has l f h in rw p.same (head_bounded p.table (bytes_of l) p.full)

-- a frame's rows are whole glyphs
whole_row : (n at : ℕ) (b : List ℕ) → Row (length (glyphs_of (words_at (words * n) at b))) (words_at (words * n) at b)
whole_row n at b =
    let e = length-words (words * n) at b in
    e ∙ ap (λ (k : ℕ). words * k) (sym (length_row n (words_at (words * n) at b) e))

pub frame_rows : (l : List ℕ) (f : Frame) → frame_of l ≡ a_frame f → Row (length (glyphs_of f.done)) f.done
    × Row (length (glyphs_of f.coming)) f.coming
unfolding frame_in
frame_rows l f h =
    let p = frame_has l f h in
    let b = bytes_of l in
    rw p.same (whole_row (done_count b) (done_at b) b, whole_row (coming_count b) (coming_at b) b)

-- ---- what is known of a line by what it was decoded to

pub none_told : (r : LineRead) → None ≡ decoded r → r ≡ not_frame
none_told (a_frame f) e = let z : ◌≡◌ {A = ℕ} 0 1 = cc in absurd (omega arith)
none_told not_frame e = refl

pub record FrameTold (r : LineRead) (h : Head) : Type 0 where
  pub frame : Frame
  pub is : r ≡ a_frame frame
  pub head : h ≡ head_of frame

pub frame_told : (r : LineRead) (h : Head) → Some h ≡ decoded r → FrameTold r h
frame_told (a_frame f) h e = record { frame = f; is = refl; head = cc }
frame_told not_frame h e = let z : ◌≡◌ {A = ℕ} 0 1 = cc in absurd (omega arith)

pub told_bounded : (l : List ℕ) (h : Head) → FrameTold (frame_of l) h → Bounded h
told_bounded l h t = rw t.head (frame_bounded l t.frame t.is)
