-- A frame written down, as bytes and as capital digits, field by field in 01's order (01, "The bench tape").
use Rattle.std.specs.Prelude.{ℕ, ◌+◌, ◌/◌, ◌%◌, List, [], ◌∷◌, ◌++◌, cond, ltb, length}
use Rattle.glyph.specs.Glyph.{glyphs_of}
use Rattle.verdict.specs.declared.Table.{Table}
use Rattle.verdict.specs.declared.Settings.{Settings}
use Rattle.tape_frame.specs.Frame.{Frame, gsub, gpos}

-- ---- digits

abbrev pub capital : ℕ → ℕ
capital n = cond (ltb n 10) (48 + n) (55 + n)

-- bytes, two digits each
unfoldable pub digits_of : List ℕ → List ℕ
digits_of [] = []
digits_of (x ∷ rest) = capital (x / 16 % 16) ∷ capital (x % 16) ∷ digits_of rest

-- ---- numbers as bytes, big-endian

abbrev pub half : ℕ → List ℕ
half x = x / 256 % 256 ∷ x % 256 ∷ []

abbrev pub word : ℕ → List ℕ
word x = half (x / 65536) ++ half (x % 65536)

unfoldable pub word_bytes : List ℕ → List ℕ
word_bytes [] = []
word_bytes (x ∷ rest) = word x ++ word_bytes rest

-- ---- a frame

abbrev pub tag_of : Table → List ℕ
tag_of Table.Gsub = gsub
tag_of Table.Gpos = gpos

abbrev pub settings_byte : Settings → ℕ
settings_byte s = cond s.zwnj 1 0 + cond s.zwj 2 0 + cond s.syllables 4 0

-- tag 4, settings 1, mask 4, props 4, cursor 2, value count 1
abbrev pub opening_bytes : Frame → List ℕ
opening_bytes f =
    tag_of f.settings.table ++ (settings_byte f.settings ∷ []) ++ word f.mask ++ word f.props ++ half f.cursor
    ++ (length f.values ∷ [])

-- then values 4 each, done count 2, coming count 2, done's records, coming's records
unfoldable pub frame_bytes : Frame → List ℕ
frame_bytes f =
    opening_bytes f
    ++ (word_bytes f.values
    ++ (half (length (glyphs_of f.done))
    ++ (half (length (glyphs_of f.coming))
    ++ (word_bytes f.done ++ word_bytes f.coming))))

unfoldable pub line_of : Frame → List ℕ
line_of f = digits_of (frame_bytes f)
