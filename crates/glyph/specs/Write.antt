-- What writing does to a glyph: another id, and nothing else of it changes (01, "Records over a text": "Written glyphs copy words 1 to 3 of the one
-- replaced").
use Rattle.std.specs.Prelude.{ℕ}
use Rattle.glyph.specs.declared.Glyph.{Glyph}

unfoldable pub with_id : ℕ → Glyph → Glyph
with_id id g = record {
  id = id;
  mask = g.mask;
  flags = g.flags;
  syllable = g.syllable;
  props = g.props;
  lig = g.lig;
  comp = g.comp;
  count = g.count;
  ligated = g.ligated;
}
