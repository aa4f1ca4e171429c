-- Written down and read again: a frame within the limits comes back from its line, so different frames have different lines.
use Rattle.std.specs.Prelude.{ℕ, ◌+◌, ◌*◌, ◌≤◌, ◌<◌, ◌≡◌, Bool, true, false, cond, get_or, drop}
use Rattle.std.proofs.Math.Path.{refl, ap}
use Rattle.std.proofs.Common.{sym, ◌∙◌, drop_at, drop-drop}
use mathlib.Core.List.{List, [], ◌++◌, append-nil}
use native.Mathlib.Omega.{arith}
use Rattle.std.proofs.Math.ListN.{length, length-append}
use Rattle.glyph.specs.Glyph.{words, Row, glyphs_of}
use Rattle.glyph.specs.Laws.{length_row}
use Rattle.verdict.specs.declared.Table.{Table}
use Rattle.tape_frame.specs.Frame.{Frame, most_values, most_glyphs, a_frame, half_at, word_at, words_at, table_kind, settings_of, value_count}
use Rattle.tape_frame.specs.Frame.{done_count, coming_count, done_at, coming_at, frame_end, is_whole, frame_in, read_bytes, frame_of}
use Rattle.tape_frame.specs.FrameLaws.{keeps_whole, kind_for}
use Rattle.tape_frame.specs.Line.{half, word_bytes, tag_of, settings_byte, opening_bytes, frame_bytes, line_of}
use Rattle.tape_frame.specs.Bytes.{Below, nothing, more, below-append, digits_spell, digits_back, below_half, below_word}
use Rattle.tape_frame.specs.Bytes.{below_words, length-word_bytes, half_back, word_back, half_on, words_on, words_back}

-- ---- the frame

-- what a frame on the tape keeps to
pub record FrameWithin (f : Frame) : Type 0 where
  pub mask : f.mask < 4294967296
  pub props : f.props < 4294967296
  pub cursor : f.cursor < 65536
  pub values : Below 4294967296 f.values
  pub done : Below 4294967296 f.done
  pub coming : Below 4294967296 f.coming
  pub value_count : length f.values ≤ most_values
  pub done_count : ℕ
  pub coming_count : ℕ
  pub done_row : Row done_count f.done
  pub coming_row : Row coming_count f.coming
  pub done_fits : done_count ≤ most_glyphs
  pub coming_fits : coming_count ≤ most_glyphs

three_small : (a b c : Bool) → cond a 1 0 + cond b 2 0 + cond c 4 0 < 8
three_small true true true = omega arith
three_small true true false = omega arith
three_small true false true = omega arith
three_small true false false = omega arith
three_small false true true = omega arith
three_small false true false = omega arith
three_small false false true = omega arith
three_small false false false = omega arith

three_back : (t : Table) (a b c : Bool)
    → settings_of t (cond a 1 0 + cond b 2 0 + cond c 4 0) ≡ record { table = t; zwnj = a; zwj = b; syllables = c }
unfolding settings_of
three_back t true true true = refl
three_back t true true false = refl
three_back t true false true = refl
three_back t true false false = refl
three_back t false true true = refl
three_back t false true false = refl
three_back t false false true = refl
three_back t false false false = refl

below_tag : (t : Table) → Below 256 (tag_of t)
below_tag Table.Gsub = more 71 (omega arith) (more 83 (omega arith) (more 85 (omega arith) (more 66 (omega arith) nothing)))
below_tag Table.Gpos = more 71 (omega arith) (more 80 (omega arith) (more 79 (omega arith) (more 83 (omega arith) nothing)))

tag_size : (t : Table) → length (tag_of t) ≡ 4
tag_size Table.Gsub = refl
tag_size Table.Gpos = refl

-- what stands after the opening
abbrev tail : Frame → List ℕ
tail f =
    word_bytes f.values
    ++ (half (length (glyphs_of f.done))
    ++ (half (length (glyphs_of f.coming))
    ++ (word_bytes f.done ++ word_bytes f.coming)))

below_opening : (f : Frame) → length f.values ≤ most_values → Below 256 (opening_bytes f)
below_opening f h =
    below-append
    (below-append
    (below-append
    (below-append
    (below-append (below_tag f.settings.table)
    (more (settings_byte f.settings) (omega (arith, three_small f.settings.zwnj f.settings.zwj f.settings.syllables)) nothing))
    (below_word f.mask))
    (below_word f.props))
    (below_half f.cursor))
    (more (length f.values) (omega arith) nothing)

below_frame : (f : Frame) → length f.values ≤ most_values → Below 256 (frame_bytes f)
unfolding frame_bytes
below_frame f h =
    below-append (below_opening f h)
    (below-append (below_words f.values)
    (below-append (below_half (length (glyphs_of f.done)))
    (below-append (below_half (length (glyphs_of f.coming)))
    (below-append (below_words f.done) (below_words f.coming)))))

-- after the opening's 16 bytes stands the rest
drop-opening : (f : Frame) (t : Table) → f.settings.table ≡ t → drop 16 (frame_bytes f) ≡ tail f
unfolding frame_bytes
drop-opening f Table.Gsub e = rw e
drop-opening f Table.Gpos e = rw e

module _ (f : Frame) (w : FrameWithin f) where
  -- after the values stand the counts and the records
  abbrev counts : List ℕ
  counts =
      half (length (glyphs_of f.done))
      ++ (half (length (glyphs_of f.coming))
      ++ (word_bytes f.done ++ word_bytes f.coming))

  drop_values : drop (16 + 4 * length f.values) (frame_bytes f) ≡ counts
  drop_values =
      sym (drop-drop (4 * length f.values) 16 (frame_bytes f))
      ∙ ap (drop (4 * length f.values)) (drop-opening f f.settings.table refl)
      ∙ drop_at (word_bytes f.values) counts (4 * length f.values) (length-word_bytes f.values)

  drop-counts : drop (16 + 4 * length f.values + 4) (frame_bytes f) ≡ word_bytes f.done ++ word_bytes f.coming
  drop-counts =
      sym (drop-drop 4 (16 + 4 * length f.values) (frame_bytes f)) ∙ ap (drop 4) drop_values

  drop-done : (n : ℕ) → n ≡ length f.done
      → drop (16 + 4 * length f.values + 4 + 4 * n) (frame_bytes f) ≡ word_bytes f.coming
  drop-done n e =
      sym (drop-drop (4 * n) (16 + 4 * length f.values + 4) (frame_bytes f))
      ∙ ap (drop (4 * n)) drop-counts
      ∙ drop_at (word_bytes f.done) (word_bytes f.coming) (4 * n) (length-word_bytes f.done ∙ ap (λ (k : ℕ). 4 * k) (sym e))

  done_records : length (glyphs_of f.done) ≡ w.done_count
  done_records = length_row w.done_count f.done w.done_row

  coming_records : length (glyphs_of f.coming) ≡ w.coming_count
  coming_records = length_row w.coming_count f.coming w.coming_row

  count_values : (t : Table) → f.settings.table ≡ t → value_count (frame_bytes f) ≡ length f.values
  unfolding frame_bytes
  count_values Table.Gsub e = rw e
  count_values Table.Gpos e = rw e

  values_counted : value_count (frame_bytes f) ≡ length f.values
  values_counted = count_values f.settings.table refl

  at_zero : (b : List ℕ) (n : ℕ) → half_at b n ≡ half_at (drop n b) 0
  at_zero b n =
      let z : n ≡ n + 0 = omega arith in
      ap (half_at b) z ∙ half_on b n 0

  words-zero : (m n : ℕ) (b : List ℕ) → words_at m n b ≡ words_at m 0 (drop n b)
  words-zero m n b =
      let z : n ≡ n + 0 = omega arith in
      ap (λ (k : ℕ). words_at m k b) z ∙ words_on m b n 0

  done_counted : done_count (frame_bytes f) ≡ w.done_count
  unfolding done_count
  done_counted =
      rw values_counted
      (at_zero (frame_bytes f) (16 + 4 * length f.values)
      ∙ ap (λ (b : List ℕ). half_at b 0) drop_values
      ∙ half_back (length (glyphs_of f.done)) (omega (arith, done_records, w.done_fits))
      ∙ done_records)

  coming_counted : coming_count (frame_bytes f) ≡ w.coming_count
  unfolding coming_count
  coming_counted =
      rw values_counted
      (half_on (frame_bytes f) (16 + 4 * length f.values) 2
      ∙ ap (λ (b : List ℕ). half_at b 2) drop_values
      ∙ half_back (length (glyphs_of f.coming)) (omega (arith, coming_records, w.coming_fits))
      ∙ coming_records)

  frame_size : length (frame_bytes f) ≡ frame_end (frame_bytes f)
  unfolding frame_bytes
  frame_size =
      rw (values_counted, done_counted, coming_counted)
      (simp length-append
      (omega (
        arith,
        tag_size f.settings.table,
        length-word_bytes f.values,
        length-word_bytes f.done,
        length-word_bytes f.coming,
        w.done_row,
        w.coming_row,
      )))

  settings_at : (t : Table) → f.settings.table ≡ t → get_or (frame_bytes f) 4 0 ≡ settings_byte f.settings
  unfolding frame_bytes
  settings_at Table.Gsub e = rw e
  settings_at Table.Gpos e = rw e

  frame_whole : is_whole (frame_bytes f) ≡ true
  frame_whole = keeps_whole (frame_bytes f) record {
    settings =
        rw (settings_at f.settings.table refl)
        (three_small f.settings.zwnj f.settings.zwj f.settings.syllables);
    values = rw values_counted w.value_count;
    done = rw done_counted w.done_fits;
    coming = rw coming_counted w.coming_fits;
    size = frame_size;
  }

  mask_at : (t : Table) → f.settings.table ≡ t → word_at (frame_bytes f) 5 ≡ f.mask
  unfolding frame_bytes
  mask_at Table.Gsub e = rw e (word_back f.mask w.mask)
  mask_at Table.Gpos e = rw e (word_back f.mask w.mask)

  props_at : (t : Table) → f.settings.table ≡ t → word_at (frame_bytes f) 9 ≡ f.props
  unfolding frame_bytes
  props_at Table.Gsub e = rw e (word_back f.props w.props)
  props_at Table.Gpos e = rw e (word_back f.props w.props)

  cursor_at : (t : Table) → f.settings.table ≡ t → half_at (frame_bytes f) 13 ≡ f.cursor
  unfolding frame_bytes
  cursor_at Table.Gsub e = rw e (half_back f.cursor w.cursor)
  cursor_at Table.Gpos e = rw e (half_back f.cursor w.cursor)

  values_at_lem : words_at (value_count (frame_bytes f)) 16 (frame_bytes f) ≡ f.values
  values_at_lem =
      rw (values_counted, words-zero (length f.values) 16 (frame_bytes f), drop-opening f f.settings.table refl)
      (words_back counts w.values)

  done_at_lem : words_at (words * done_count (frame_bytes f)) (done_at (frame_bytes f)) (frame_bytes f) ≡ f.done
  done_at_lem =
      let n : words * w.done_count ≡ length f.done = sym w.done_row in
      rw (values_counted, done_counted, n, words-zero (length f.done) (16 + 4 * length f.values + 4) (frame_bytes f), drop-counts)
      (words_back (word_bytes f.coming) w.done)

  coming_at_lem : words_at (words * coming_count (frame_bytes f)) (coming_at (frame_bytes f)) (frame_bytes f) ≡ f.coming
  coming_at_lem =
      let n : words * w.coming_count ≡ length f.coming = sym w.coming_row in
      let k : words * w.done_count ≡ length f.done = sym w.done_row in
      rw (
        values_counted,
        done_counted,
        coming_counted,
        n,
        k,
        words-zero (length f.coming) (16 + 4 * length f.values + 4 + 4 * length f.done) (frame_bytes f),
        drop-done (length f.done) refl,
        ← append-nil (word_bytes f.coming),
      )
      (words_back [] w.coming)

  frame_back : frame_in f.settings.table (frame_bytes f) ≡ f
  unfolding frame_in
  frame_back =
      let t = f.settings.table in
      let s : settings_of t (get_or (frame_bytes f) 4 0) ≡ f.settings =
      ap (settings_of t) (settings_at t refl) ∙ three_back t f.settings.zwnj f.settings.zwj f.settings.syllables in
      λ j.
      record {
        settings = s j;
        mask = mask_at t refl j;
        props = props_at t refl j;
        cursor = cursor_at t refl j;
        values = values_at_lem j;
        done = done_at_lem j;
        coming = coming_at_lem j;
      }

  read_tag : (t : Table) → f.settings.table ≡ t → table_kind (frame_bytes f) ≡ kind_for t
  unfolding table_kind frame_bytes
  read_tag Table.Gsub e = rw e
  read_tag Table.Gpos e = rw e

  read_kind : (t : Table) → f.settings.table ≡ t → read_bytes (frame_bytes f) ≡ a_frame (frame_in t (frame_bytes f))
  unfolding read_bytes
  read_kind Table.Gsub e = rw (read_tag Table.Gsub e, frame_whole)
  read_kind Table.Gpos e = rw (read_tag Table.Gpos e, frame_whole)

  -- what is written is read back
  pub line_back : frame_of (line_of f) ≡ a_frame f
  unfolding frame_of line_of
  line_back =
      rw (digits_spell (frame_bytes f), digits_back (below_frame f w.value_count))
      (read_kind f.settings.table refl ∙ ap a_frame frame_back)

-- two frames that have the same line are the same
pub line_tells : (f g : Frame) → FrameWithin f → FrameWithin g → line_of f ≡ line_of g → f ≡ g
line_tells f g v w e =
    let p : a_frame f ≡ a_frame g = sym (line_back f v) ∙ ap frame_of e ∙ line_back g w in
    cc
