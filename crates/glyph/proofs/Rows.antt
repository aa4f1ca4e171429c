-- What the bounds of code on rows go by: a row has a glyph for each WORDS words, and a word stored leaves its length. Assumes nothing.
use Rattle.std.proofs.Common.{length-set}
use Rattle.glyph.specs.Laws.{length-glyphs_of}

pub ruleset row_lengths = (length-glyphs_of, length-set)
