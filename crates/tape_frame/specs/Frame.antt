-- A line of the tape as a frame or none (01, "The bench tape"): the four bytes GSUB or GPOS, settings 1, mask 4, props 4, cursor 2,
-- value count 1, values 4 each, done count 2, coming count 2, records; big-endian, done's records before coming's.
-- `Line` says the same by writing a frame down, and `Back` and `Forth` show that the two agree.
use Rattle.std.specs.Prelude.{ℕ, zero, suc, ◌+◌, ◌*◌, List, [], ◌∷◌, Option, Some, None, Bool, cond, ◌&&◌, eqb, ltb, leb, length, get_or}
use Rattle.bits.specs.Bits.{bit}
use Rattle.glyph.specs.Glyph.{words}
use Rattle.verdict.specs.declared.Table.{Table}
use Rattle.verdict.specs.declared.Settings.{Settings}
use Rattle.tape_frame.specs.Digits.{spells, bytes_of}

-- what a line asks: input matching of the values against a text, whose two rows are words
pub record Frame : Type 0 where
  pub settings : Settings
  pub mask : ℕ
  pub props : ℕ
  pub cursor : ℕ
  pub values : List ℕ
  pub done : List ℕ
  pub coming : List ℕ

pub data LineRead : Type 0 where
  a_frame : Frame → LineRead
  not_frame : LineRead

-- values, and glyphs in each row, at most: a record is a glyph
abbrev pub most_values : ℕ
most_values = 64

abbrev pub most_glyphs : ℕ
most_glyphs = 64

-- the longest frame's bytes and digits: everything but values and records is 20 bytes
abbrev pub most_bytes : ℕ
most_bytes = 20 + 4 * most_values + 4 * words * (2 * most_glyphs)

abbrev pub most_digits : ℕ
most_digits = 2 * most_bytes

-- ---- numbers, big-endian; what stands past the end counts as 0

abbrev pub half_at : List ℕ → ℕ → ℕ
half_at b at = get_or b at 0 * 256 + get_or b (at + 1) 0

abbrev pub word_at : List ℕ → ℕ → ℕ
word_at b at = half_at b at * 65536 + half_at b (at + 2)

-- n words in a row
unfoldable pub words_at : ℕ → ℕ → List ℕ → List ℕ
words_at zero at b = []
words_at (suc n) at b = word_at b at ∷ words_at n (at + 4) b

-- ---- the opening

abbrev pub opens : List ℕ → List ℕ → Bool
opens b name =
    ((eqb (get_or b 0 0) (get_or name 0 0) && eqb (get_or b 1 0) (get_or name 1 0)) && eqb (get_or b 2 0) (get_or name 2 0))
    && eqb (get_or b 3 0) (get_or name 3 0)

-- G S U B
abbrev pub gsub : List ℕ
gsub = 71 ∷ 83 ∷ 85 ∷ 66 ∷ []

-- G P O S
abbrev pub gpos : List ℕ
gpos = 71 ∷ 80 ∷ 79 ∷ 83 ∷ []

unfoldable pub table_kind : List ℕ → Option Table
table_kind b = cond (opens b gsub) (Some Table.Gsub) (cond (opens b gpos) (Some Table.Gpos) None)

-- 1 auto-ZWNJ, 2 auto-ZWJ, 4 syllables
unfoldable pub settings_of : Table → ℕ → Settings
settings_of table s = record { table = table; zwnj = bit 0 s; zwj = bit 1 s; syllables = bit 2 s }

-- ---- counts, and where they and the records stand: after 16 bytes come the values, then the two counts, then the records

abbrev pub value_count : List ℕ → ℕ
value_count b = get_or b 15 0

abbrev pub values_at : ℕ
values_at = 16

abbrev pub counts_at : List ℕ → ℕ
counts_at b = values_at + 4 * value_count b

unfoldable pub done_count : List ℕ → ℕ
done_count b = half_at b (counts_at b)

unfoldable pub coming_count : List ℕ → ℕ
coming_count b = half_at b (counts_at b + 2)

abbrev pub done_at : List ℕ → ℕ
done_at b = counts_at b + 4

abbrev pub coming_at : List ℕ → ℕ
coming_at b = done_at b + 4 * (words * done_count b)

abbrev pub frame_end : List ℕ → ℕ
frame_end b = coming_at b + 4 * (words * coming_count b)

-- ---- the frame

-- no other settings bits, the limits, and no byte too few or too many
unfoldable pub is_whole : List ℕ → Bool
is_whole b =
    ((ltb (get_or b 4 0) 8 && leb (value_count b) most_values) && (leb (done_count b) most_glyphs && leb (coming_count b) most_glyphs))
    && eqb (length b) (frame_end b)

unfoldable pub frame_in : Table → List ℕ → Frame
frame_in table b = record {
  settings = settings_of table (get_or b 4 0);
  mask = word_at b 5;
  props = word_at b 9;
  cursor = half_at b 13;
  values = words_at (value_count b) values_at b;
  done = words_at (words * done_count b) (done_at b) b;
  coming = words_at (words * coming_count b) (coming_at b) b;
}

abbrev pub whole_frame : Table → List ℕ → LineRead
whole_frame table b = cond (is_whole b) (a_frame (frame_in table b)) not_frame

abbrev pub of_kind : Option Table → List ℕ → LineRead
of_kind (Some table) b = whole_frame table b
of_kind None b = not_frame

unfoldable pub read_bytes : List ℕ → LineRead
read_bytes b = of_kind (table_kind b) b

-- the frame that a line is, given its bytes without its 0A
unfoldable pub frame_of : List ℕ → LineRead
frame_of line = cond (spells line) (read_bytes (bytes_of line)) not_frame
