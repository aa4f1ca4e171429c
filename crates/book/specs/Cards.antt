-- Examples: small books read by the definition: the lookups of K11 and K13, a chain, and what breaks a limit.
use Rattle.std.specs.Prelude.{◌≡◌, refl, [], ◌∷◌}
use Rattle.book.specs.Book.{records_of, Kind1, Kind2, Kind3, counted, body_of, first_lookup_of, Reads, Unreadable, read_lookups, read_book}

-- K11: lookup 0 turns 2 into 2, 2
pub k11_reads : read_book (2 ∷ 0 ∷ 0 ∷ 4 ∷ 2 ∷ 2 ∷ 2 ∷ 2 ∷ []) ≡ Reads (Kind2 0 2 (2 ∷ 2 ∷ []) ∷ [])
unfolding read_book read_lookups first_lookup_of body_of counted
k11_reads = refl

-- K13: lookup 0 turns 2 into nothing
pub k13_reads : read_book (2 ∷ 0 ∷ 0 ∷ 2 ∷ 2 ∷ 0 ∷ []) ≡ Reads (Kind2 0 2 [] ∷ [])
unfolding read_book read_lookups first_lookup_of body_of counted
k13_reads = refl

-- a chain on 5 with 4 before it, 6 matched and 7 ahead, whose record applies lookup 1 at position 1; its props are 8 and mark set 3
pub chained : read_book (3 ∷ 8 ∷ 3 ∷ 10 ∷ 5 ∷ 1 ∷ 4 ∷ 1 ∷ 6 ∷ 1 ∷ 7 ∷ 1 ∷ 1 ∷ 1 ∷ 1 ∷ 0 ∷ 0 ∷ 2 ∷ 6 ∷ 9 ∷ [])
    ≡ Reads
    (Kind3 196616 (record { first = 5; backtrack = 4 ∷ []; input = 6 ∷ []; lookahead = 7 ∷ []; records = record { seq = 1; lookup = 1 } ∷ [] }) ∷
    Kind1 0 6 9 ∷ [])
unfolding read_book read_lookups first_lookup_of body_of counted records_of
chained = refl

-- a word over, in the body and after the last lookup
pub word_over : read_book (1 ∷ 0 ∷ 0 ∷ 3 ∷ 6 ∷ 9 ∷ 0 ∷ []) ≡ Unreadable
unfolding read_book read_lookups first_lookup_of body_of
word_over = refl

pub word_after : read_book (1 ∷ 0 ∷ 0 ∷ 2 ∷ 6 ∷ 9 ∷ 0 ∷ []) ≡ Unreadable
unfolding read_book read_lookups first_lookup_of body_of
word_after = refl
