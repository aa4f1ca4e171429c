-- A stored list of questions and answers: words of 32 bits, each written as eight capital hexadecimal digits and one byte more,
-- a blank between words and 0A at a line's end. What a line's words mean is said where they are replayed.
use Rattle.std.specs.Prelude.{ℕ, ◌+◌, ◌-◌, ◌*◌, ◌%◌, ◌^◌, Bool, cond, ◌&&◌, List, [], length, ◌==◌, nat_le, nat_lt, slice_index, slice_range}
use Rattle.verdict.specs.declared.Settings.{Settings}
use Rattle.verdict.specs.Numbers.{table_of}
use Rattle.stored.specs.declared.Span.{Span}

-- what a digit stands for; any other byte, 0
abbrev pub hex_digit : ℕ → ℕ
hex_digit b = cond (nat_le 48 b && nat_le b 57) (b - 48) (cond (nat_le 65 b && nat_le b 70) (b - 55) 0)

-- the two digits from byte i on
abbrev pub byte_at : List ℕ → ℕ → ℕ
byte_at text i = hex_digit (slice_index text i) * 16 + hex_digit (slice_index text (i + 1))

-- the eight digits from byte i on
abbrev pub word_from : List ℕ → ℕ → ℕ
word_from text i =
    ((byte_at text i * 256 + byte_at text (i + 2)) * 256 + byte_at text (i + 4)) * 256 + byte_at text (i + 6)

-- word k of a text
unfoldable pub stored_word : List ℕ → ℕ → ℕ
stored_word text k = word_from text (k * 9)

-- a number of 64 bits in two words, the high one first
abbrev pub number_at : List ℕ → ℕ → ℕ
number_at words k = slice_index words k * 4294967296 + slice_index words (k + 1)

-- the words from one place up to another; none where there is no such part
abbrev pub part_between : ℕ → ℕ → List ℕ → List ℕ
part_between from to words =
    cond (nat_le to (length words)) (cond (nat_le from to) (slice_range words from to) []) []

-- ---- what lines of several lists have; places wrap on 64 bits

-- the list whose number stands in word k
abbrev pub span_from : List ℕ → ℕ → Span
span_from words k =
    let from = (k + 1) % 2 ^ 64 in
    record { from = from; to = (from + slice_index words k) % 2 ^ 64 }

abbrev is_one : List ℕ → ℕ → Bool
is_one words k = slice_index words k == 1

-- GPOS, auto-ZWNJ, auto-ZWJ, syllables
abbrev pub settings_from : List ℕ → ℕ → Settings
settings_from words k = record {
  table = table_of (is_one words k);
  zwnj = is_one words ((k + 1) % 2 ^ 64);
  zwj = is_one words ((k + 2) % 2 ^ 64);
  syllables = is_one words ((k + 3) % 2 ^ 64);
}

-- slot k holds the stored position, or 0 past the last
abbrev pub slot_is : List ℕ → List ℕ → ℕ → ℕ → ℕ → Bool
slot_is words slots from count k = cond (nat_lt k count) (slice_index words ((from + k) % 2 ^ 64)) 0 == slice_index slots k
