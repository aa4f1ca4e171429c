-- The code's side: the first records as words in an array.
use Rattle.std.specs.Prelude.{◌≡◌, List, ℕ, ◌+◌, ◌*◌, min, length, set, take, replicate}
use Rattle.book.specs.Book.{most_records}
use Rattle.run_record_structs.specs.declared.Record.{Record}
use Rattle.run_record_structs.specs.declared.Pairs.{Pairs}
use Rattle.run_record_structs.specs.Records.{record_words}

-- over 16 records is refused (01, refusal 1): with one more than that kept, too many stay too many
abbrev pub most_pairs : ℕ
most_pairs = most_records + 1

-- how many of n records are kept
abbrev pub pairs_kept : ℕ → ℕ
pairs_kept n = min n most_pairs

-- what would stand past the last record
abbrev pub no_record : Record
no_record = record { sequence = 0; lookup = 0 }

abbrev pub no_pairs : Pairs
no_pairs = record { n = 0; words = replicate (2 * most_pairs) 0 }

-- one more pair
abbrev pub with_pair : Pairs → Record → Pairs
with_pair p r = record { n = p.n + 1; words = set (set p.words (2 * p.n) r.sequence) (2 * p.n + 1) r.lookup }

-- an array that begins with the words of these records
pub record Filled (rs : List Record) (p : Pairs) : Type 0 where
  pub number : p.n ≡ length rs
  pub room : length p.words ≡ 2 * most_pairs
  pub words : take (2 * p.n) p.words ≡ record_words rs
