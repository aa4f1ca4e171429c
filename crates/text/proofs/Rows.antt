-- What bounds go by: the sizes of rows that hold a text, and that words written leave a row its glyphs. Assumes nothing.
use Rattle.glyph.specs.Laws.{length_same}
use Rattle.text.specs.Laws.{sizes}

pub ruleset row_sizes = (sizes, length_same)
