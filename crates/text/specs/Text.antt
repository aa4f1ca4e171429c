-- A text: glyphs and a cursor between them. Two rows hold it (01, "A glyph in four words", "Records over a text").
use Rattle.std.specs.Prelude.{◌≡◌, Bool, not, ◌||◌, List, ◌++◌, map, ℕ, ◌+◌, ◌-◌, ◌*◌, ◌≤◌, eqb, leb, ltb, length, get_or, take, drop, replicate}
use Rattle.glyph.specs.declared.Glyph.{Glyph}
use Rattle.glyph.specs.Glyph.{words, limit, Row, glyphs_of, blank}
use Rattle.glyph.specs.Write.{with_id}
use Rattle.text.specs.declared.Place.{Place}

pub record Text : Type 0 where
  pub glyphs : List Glyph
  pub cursor : ℕ

-- the cursor at glyph p
abbrev pub moved_to : ℕ → Text → Text
moved_to p t = record { glyphs = t.glyphs; cursor = p }

-- what is written in place of the glyph g: it keeps everything but the id
abbrev pub written : ℕ → Glyph → Glyph
written id g = with_id id g

-- the glyph g, once for each id, by what is written for an id in place of a glyph
abbrev pub copies_by : (ℕ → Glyph → Glyph) → List ℕ → Glyph → List Glyph
copies_by write ids g = map (λ id. write id g) ids

abbrev pub copies : List ℕ → Glyph → List Glyph
copies = copies_by written

-- the glyph at the cursor becomes one for each id, and the cursor goes past them; with no id it is deleted
abbrev pub replaced_by : (ℕ → Glyph → Glyph) → List ℕ → Text → Text
replaced_by write ids t = record {
  glyphs = take t.cursor t.glyphs ++ copies_by write ids (get_or t.glyphs t.cursor blank) ++ drop (t.cursor + 1) t.glyphs;
  cursor = t.cursor + length ids;
}

abbrev pub replaced : List ℕ → Text → Text
replaced = replaced_by written

-- 10, Full: with one glyph made n the text would pass the limit, size - 1 + n > limit
abbrev pub is_full : ℕ → ℕ → Bool
is_full size n = ltb (limit + 1) (size + n)

-- ---- two rows that hold a text

-- the first d glyphs of `done`, then those of `coming` from idx on; the cursor stands between them
abbrev pub text_of : List ℕ → List ℕ → Place → Text
text_of done coming s = record { glyphs = take s.d (glyphs_of done) ++ drop s.idx (glyphs_of coming); cursor = s.d }

-- how many glyphs that are
abbrev pub size_of : Place → ℕ
size_of s = s.d + (limit - s.idx)

-- two rows that can hold a text up to the limit
pub record Fits (done coming : List ℕ) (s : Place) : Type 0 where
  pub long : Row limit done
  pub wide : Row limit coming
  pub within : s.idx ≤ limit
  pub room : s.d ≤ s.idx

-- the rows hold the text t
pub record Holds (done coming : List ℕ) (s : Place) (t : Text) : Type 0 where
  pub fits : Fits done coming s
  pub text : text_of done coming s ≡ t

-- the glyphs in neither part are blank
pub record Clear (done coming : List ℕ) (s : Place) : Type 0 where
  pub past : drop s.d (glyphs_of done) ≡ replicate (limit - s.d) blank
  pub before : take s.idx (glyphs_of coming) ≡ replicate s.idx blank

-- a row that hasn't the length that a run wants
abbrev pub wrong_length : List ℕ → Bool
wrong_length row = not (eqb (length row) (words * limit))

-- refusal 1, of a run: a row of the wrong length, d past its row, or a text over the limit, which is d past idx
abbrev pub unfit : List ℕ → List ℕ → Place → Bool
unfit done coming s = wrong_length done || (wrong_length coming || (ltb limit s.d || ltb s.idx s.d))

-- refusal 2: the cursor at or past the row's end
abbrev pub past_end : Place → Bool
past_end s = leb limit s.idx
