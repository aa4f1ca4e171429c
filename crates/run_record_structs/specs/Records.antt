-- A list of records as structs, and the same list as 16-bit words: of each record its sequence index and then its lookup index (01, "Records over a
-- text": records are a list of pairs, first as 16-bit words and then as structs).
use Rattle.std.specs.Prelude.{List, [], ◌∷◌, ℕ}
use Rattle.book.specs.Book as book
use Rattle.run_record_structs.specs.declared.Record.{Record}

-- the words of records, pair after pair
unfoldable pub record_words : List Record → List ℕ
record_words [] = []
record_words (r ∷ rs) = r.sequence ∷ r.lookup ∷ record_words rs

-- the record of a run that a struct is
abbrev pub record_meant : Record → book.Record
record_meant r = record { seq = r.sequence; lookup = r.lookup }
