-- Where there is an entry its head lies within the words, so that its length can be read. Assumes nothing.
use Rattle.std.proofs.Common.{ap, arith, sym, ◌∙◌}
use Rattle.std.specs.Prelude.{is_some}
use Rattle.book.specs.Readings.{entry_fits}
use Rattle.book.proofs.size_at.Goals as goal

pub overflow_add-result : goal.overflow_add-result
overflow_add-result c = omega (arith, entry_fits c.args.words.now c.args.at (ap is_some (sym c.entry_at.ensures ∙ c.in_ok-entry_at.was)))

pub offset_bounds-words-at : goal.offset_bounds-words-at
offset_bounds-words-at c = omega (arith, entry_fits c.args.words.now c.args.at (ap is_some (sym c.entry_at.ensures ∙ c.in_ok-entry_at.was)))

pub bounds-words-at : goal.bounds-words-at
bounds-words-at c = omega (arith, entry_fits c.args.words.now c.args.at (ap is_some (sym c.entry_at.ensures ∙ c.in_ok-entry_at.was)))
