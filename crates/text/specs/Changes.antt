-- What a move and a replacement do to a text: a move changes no glyph; a replacement leaves the glyphs before the cursor, and those after it follow
-- what was written.
use Rattle.std.specs.Prelude.{◌≡◌, refl, false, ◌||◌, List, ◌++◌, ◌↔◌, ℕ, ◌+◌, ◌-◌, ◌*◌, ◌≤◌, ◌<◌, eqb, ltb, length, get_or, take, drop}
use Rattle.std.proofs.Common.{sym, ap, ◌∙◌, append_assoc, arith, eqb-true, ltb-false, leb-false, eq-eqb, le-ltb, length-append, length-drop}
use Rattle.std.proofs.Common.{length-take-le, take_at, drop_at, get_or-take}
use Rattle.std.proofs.lemmas.Bool.{not-false, lt-leb}
use Rattle.std.proofs.lemmas.List.{length-map}
use Rattle.bits.proofs.Laws.{neither_left, neither_right}
use Rattle.glyph.specs.declared.Glyph.{Glyph}
use Rattle.glyph.specs.Glyph.{words, limit, glyphs_of, blank}
use Rattle.text.specs.declared.Place.{Place}
use Rattle.text.specs.Text.{Text, moved_to, copies_by, replaced_by, is_full, text_of, size_of, Fits, Holds, wrong_length, unfit, past_end}
use Rattle.text.specs.Laws.{sizes, text_before, text_at, text_from}

-- a move changes no glyph
pub moved_same : (p : ℕ) (t : Text) → (moved_to p t).glyphs ≡ t.glyphs
moved_same p t = refl

-- two moves are the last
pub moved_twice : (p q : ℕ) (t : Text) → moved_to q (moved_to p t) ≡ moved_to q t
moved_twice p q t = refl

-- rows after a move hold the same list
pub moved_text : {done coming : List ℕ} {s : Place} (p : ℕ) (t : Text) → Holds done coming s (moved_to p t) → (text_of done coming s).glyphs
    ≡ t.glyphs
moved_text p t h = ap (λ (u : Text). u.glyphs) h.text

module _ (write : ℕ → Glyph → Glyph) (ids : List ℕ) (t : Text) where
  -- the copies that are written
  abbrev new : List Glyph
  new = copies_by write ids (get_or t.glyphs t.cursor blank)

  pub replaced-length : t.cursor < length t.glyphs → length (replaced_by write ids t).glyphs ≡ length t.glyphs - 1 + length ids
  replaced-length h =
      let f = length-take-le t.cursor t.glyphs (omega arith) in
      let m : length new ≡ length ids = length-map ids (λ id. write id (get_or t.glyphs t.cursor blank)) in
      simp (length-append, length-drop) (omega arith)

  -- the glyphs before the cursor are untouched
  pub replaced_before : t.cursor ≤ length t.glyphs → take t.cursor (replaced_by write ids t).glyphs ≡ take t.cursor t.glyphs
  replaced_before h =
      rw (append_assoc (take t.cursor t.glyphs) new (drop (t.cursor + 1) t.glyphs))
      (take_at (take t.cursor t.glyphs) (new ++ drop (t.cursor + 1) t.glyphs) t.cursor (length-take-le t.cursor t.glyphs h))

  pub replaced_at_before : (i : ℕ) → t.cursor ≤ length t.glyphs → i < t.cursor
      → get_or (replaced_by write ids t).glyphs i blank ≡ get_or t.glyphs i blank
  replaced_at_before i h l =
      sym (get_or-take t.cursor (replaced_by write ids t).glyphs i blank l)
      ∙ ap (λ (g : List Glyph). get_or g i blank) (replaced_before h)
      ∙ get_or-take t.cursor t.glyphs i blank l

  -- those after it follow what was written
  pub replaced_after : t.cursor ≤ length t.glyphs → drop (t.cursor + length ids) (replaced_by write ids t).glyphs
      ≡ drop (t.cursor + 1) t.glyphs
  replaced_after h =
      let f = length-take-le t.cursor t.glyphs h in
      let m : length new ≡ length ids = length-map ids (λ id. write id (get_or t.glyphs t.cursor blank)) in
      drop_at (take t.cursor t.glyphs ++ new) (drop (t.cursor + 1) t.glyphs) (t.cursor + length ids) (simp length-append (omega arith))

-- ---- what the rows show of the text that they hold

module _ {done coming : List ℕ} {s : Place} (f : Fits done coming s) where
  pub size_is : length (text_of done coming s).glyphs ≡ size_of s
  size_is = (sizes done coming s f).text_is

  d_within : s.d ≤ length (glyphs_of done)
  d_within = let z = sizes done coming s f in omega arith

  -- the glyphs before the cursor are the first d of `done`
  pub before_cursor : take s.d (text_of done coming s).glyphs ≡ take s.d (glyphs_of done)
  before_cursor = text_before (glyphs_of done) (glyphs_of coming) s.d s.idx d_within

  -- the glyph at the cursor is glyph idx of `coming`
  pub at_cursor : get_or (text_of done coming s).glyphs s.d blank ≡ get_or (glyphs_of coming) s.idx blank
  at_cursor = text_at (glyphs_of done) (glyphs_of coming) s.d s.idx d_within

  -- the glyphs from the cursor on are those of `coming` from idx on
  pub from_cursor : drop s.d (text_of done coming s).glyphs ≡ drop s.idx (glyphs_of coming)
  from_cursor = text_from (glyphs_of done) (glyphs_of coming) s.d s.idx d_within

-- ---- refusals 1 and 2 are false exactly when the rows hold a text with a glyph at the cursor

pub fit_exactly : (done coming : List ℕ) (s : Place)
    → ((unfit done coming s ≡ false) × (past_end s ≡ false)) ↔ (Fits done coming s × (s.idx < limit))
fit_exactly done coming s = (
  λ e.
      let a = neither_right (wrong_length done) (wrong_length coming || (ltb limit s.d || ltb s.idx s.d)) e.0 in
      let b = neither_right (wrong_length coming) (ltb limit s.d || ltb s.idx s.d) a in
      let l : length done ≡ words * limit = eqb-true (length done) (words * limit)
      (not-false (eqb (length done) (words * limit))
      (neither_left (wrong_length done) (wrong_length coming || (ltb limit s.d || ltb s.idx s.d)) e.0)) in
      let w : length coming ≡ words * limit = eqb-true (length coming) (words * limit)
      (not-false (eqb (length coming) (words * limit)) (neither_left (wrong_length coming) (ltb limit s.d || ltb s.idx s.d) a)) in
      let r : s.d ≤ s.idx = ltb-false s.idx s.d (neither_right (ltb limit s.d) (ltb s.idx s.d) b) in
      let i : s.idx < limit = leb-false limit s.idx e.1 in
      (record { long = l; wide = w; within = omega arith; room = r }, i),
  λ h.
      let f = h.0 in
      let i : s.idx < limit = h.1 in
      let r : s.d ≤ s.idx = f.room in (
        rw (
          eq-eqb (length done) (words * limit) f.long,
          eq-eqb (length coming) (words * limit) f.wide,
          le-ltb limit s.d (omega arith),
          le-ltb s.idx s.d r,
        ),
        lt-leb limit s.idx i,
      ),
)

-- where the text isn't full, a replacement by n ids stays within the limit
pub room_for : {done coming : List ℕ} {s : Place} → Fits done coming s → (n : ℕ) → is_full (size_of s) n ≡ false
    → length (text_of done coming s).glyphs + n ≤ limit + 1
room_for {done} {coming} {s} f n e =
    let z = sizes done coming s f in
    let l = ltb-false (limit + 1) (size_of s + n) e in
    omega arith
