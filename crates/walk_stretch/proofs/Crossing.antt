-- What the goals of a function go by. Assumes nothing.
use Rattle.std.proofs.Common.{length-take-le}
use Rattle.glyph.specs.Laws.{length-glyphs_of}
use Rattle.walk_stretch.specs.Stretch.{lowest_within, crossed_none, crossed_more, crossed_one, crossed_join}
use Rattle.walk_stretch.specs.Blocks.{common_none, shown_block, shown_yes}
use Rattle.glyph.specs.SetLaws.{pair_end}
use Rattle.walk_stretch.specs.Outside.{admits_none, admits_step, full_admits, outside_yes, grown_not, grown_by}

-- the first glyphs of a row
pub ruleset rows = (length-take-le, length-glyphs_of)

-- a stretch, by its set or by its classes
pub ruleset ways = (outside_yes, shown_yes)

pub ruleset blocks = (crossed_none, crossed_more, lowest_within, shown_block)

pub ruleset bits_shared = (common_none, length-glyphs_of)

pub ruleset marks = (crossed_none, crossed_join, lowest_within, full_admits)

pub ruleset places = (crossed_none, crossed_one, lowest_within)

pub ruleset digests = (admits_none, admits_step, pair_end)

pub ruleset pairs = (grown_not, grown_by)
