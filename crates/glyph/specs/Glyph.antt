-- A row of words as a list of glyphs, and the shape that a row must have (01, "A glyph in four words"; refusal 1).
use Rattle.std.specs.Prelude.{ℕ, zero, suc, ◌+◌, ◌*◌, ◌/◌, ◌%◌, ◌<◌, ◌≡◌, Bool, not, ◌||◌, List, [], ◌∷◌, eqb, ltb, length, get_or, take, drop}
use Rattle.bits.specs.Bits.{zeros}
use Rattle.glyph.specs.declared.Glyph.{Glyph}

-- words a glyph
abbrev pub words : ℕ
words = 4

-- glyphs a row, at most
unfoldable pub limit : ℕ
limit = 2048

-- word 0: id. Word 1: mask. Word 2, high to low: flag byte, syllable byte, 16 bits of props.
-- Word 3, high byte to low: ligature id, ligature component, component count, component count in ligation.
abbrev pub glyph_of : List ℕ → Glyph
glyph_of w =
    let info = get_or w 2 0 in
    let lig = get_or w 3 0 in
    record {
      id = get_or w 0 0;
      mask = get_or w 1 0;
      flags = info / 16777216 % 256;
      syllable = info / 65536 % 256;
      props = info % 65536;
      lig = lig / 16777216 % 256;
      comp = lig / 65536 % 256;
      count = lig / 256 % 256;
      ligated = lig % 256;
    }

-- the words of a glyph
unfoldable pub words_of : Glyph → List ℕ
words_of g =
    g.id ∷
    g.mask ∷
    (g.flags * 16777216 + g.syllable * 65536 + g.props) ∷
    (g.lig * 16777216 + g.comp * 65536 + g.count * 256 + g.ligated) ∷
    []

-- each field fits the bits that it has in its word, as a glyph of the code does by its types
pub record Fields (g : Glyph) : Type 0 where
  pub of_id : g.id < 4294967296
  pub of_mask : g.mask < 4294967296
  pub of_flags : g.flags < 256
  pub of_syllable : g.syllable < 256
  pub of_props : g.props < 65536
  pub of_lig : g.lig < 256
  pub of_comp : g.comp < 256
  pub of_count : g.count < 256
  pub of_ligated : g.ligated < 256

-- n glyphs, from the first word on
unfoldable pub glyphs : ℕ → List ℕ → List Glyph
glyphs zero w = []
glyphs (suc n) w = glyph_of (take words w) ∷ glyphs n (drop words w)

-- the glyphs of a row; words over are none
unfoldable pub glyphs_of : List ℕ → List Glyph
glyphs_of w = glyphs (length w / words) w

-- a row of n whole glyphs
abbrev pub Row : ℕ → List ℕ → Type 0
Row n w = length w ≡ words * n

-- refusal 1: a row not whole glyphs, or over the limit
unfoldable pub ill_shaped : List ℕ → Bool
ill_shaped w = not (eqb (length w % words) 0) || ltb limit (length (glyphs_of w))

-- the glyph whose words are 0
unfoldable pub blank : Glyph
blank = glyph_of (zeros words)
