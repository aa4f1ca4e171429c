-- The glyphs of cards and examples, field by field (01, "A glyph in four words"). No other crate lists a glyph's fields.
use Rattle.std.specs.Prelude.{ℕ}
use Rattle.glyph.specs.declared.Glyph.{Glyph}

-- its id, flags and props, its ligature id and component, and its count, also in ligation; mask 1, syllable 0
abbrev pub glyph : ℕ → ℕ → ℕ → ℕ → ℕ → ℕ → Glyph
glyph id flags props lig comp count = record {
  id = id;
  mask = 1;
  flags = flags;
  syllable = 0;
  props = props;
  lig = lig;
  comp = comp;
  count = count;
  ligated = count;
}
