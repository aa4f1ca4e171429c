use Rattle.std.proofs.Common.{length, ◌-◌, ◌≡◌, ◌≤◌}
use Rattle.book.specs.Book.{most_words, most_lookups}
use Rattle.book.specs.Places.{start_slots}
use Rattle.book.specs.Starts.{ReadSoFar}
use Rattle.book_index.proofs.index_of.Given as goal

abbrev pub invariant-loop-at : goal.invariant-loop-at
invariant-loop-at l =
    (l.count ≤ most_lookups) × (length l.words ≤ most_words) × ReadSoFar l.words l.count l.at × (l.starts ≡ start_slots l.count l.words)

abbrev pub decreases-loop-at : goal.decreases-loop-at
decreases-loop-at l = length l.words - l.at
