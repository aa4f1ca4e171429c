-- The words that a lookup is, and the limits that it keeps (01, "Records over a text"): a book is exactly the words of its lookups.
use Rattle.std.specs.Prelude.{ℕ, ◌/◌, ◌%◌, ◌≤◌, ◌<◌, List, [], ◌∷◌, ◌++◌, length, get_or}
use Rattle.book.specs.Book.{most_words, most_lookups, most_ids, most_input, most_side, most_records, Record, Chain, Lookup, Kind1, Kind2, Kind3}

-- the words of records
unfoldable pub pairs_of : List Record → List ℕ
pairs_of [] = []
pairs_of (r ∷ rs) = r.seq ∷ r.lookup ∷ pairs_of rs

abbrev pub kind_of : Lookup → ℕ
kind_of (Kind1 props from to) = 1
kind_of (Kind2 props from ids) = 2
kind_of (Kind3 props chain) = 3

abbrev pub props_of : Lookup → ℕ
props_of (Kind1 props from to) = props
props_of (Kind2 props from ids) = props
props_of (Kind3 props chain) = props

-- entries after their number
abbrev pub numbered : ℕ → List ℕ → List ℕ → List ℕ
numbered n entries rest = n ∷ entries ++ rest

abbrev pub content_of : Lookup → List ℕ
content_of (Kind1 props from to) = from ∷ to ∷ []
content_of (Kind2 props from ids) = from ∷ numbered (length ids) ids []
content_of (Kind3 props c) =
    c.first ∷
    numbered (length c.backtrack) c.backtrack
    (numbered (length c.input) c.input
    (numbered (length c.lookahead) c.lookahead (numbered (length c.records) (pairs_of c.records) [])))

-- kind, props low, props high, body length, body
unfoldable pub encode : Lookup → List ℕ
encode l = kind_of l ∷ props_of l % 65536 ∷ props_of l / 65536 ∷ length (content_of l) ∷ content_of l

unfoldable pub encode_all : List Lookup → List ℕ
encode_all [] = []
encode_all (l ∷ ls) = encode l ++ encode_all ls

-- words of 16 bits
abbrev pub Narrow : List ℕ → Type 0
Narrow ws = (k : ℕ) → get_or ws k 0 < 65536

-- a chain within the limits
pub record ChainWithin (c : Chain ℕ) : Type 0 where
  pub backtrack : length c.backtrack ≤ most_side
  pub input : length c.input ≤ most_input
  pub lookahead : length c.lookahead ≤ most_side
  pub records : length c.records ≤ most_records

-- a lookup within the limits
abbrev pub LookupWithin : Lookup → Type 0
LookupWithin (Kind1 props from to) = Unit {0}
LookupWithin (Kind2 props from ids) = length ids ≤ most_ids
LookupWithin (Kind3 props chain) = ChainWithin chain

unfoldable pub AllWithin : List Lookup → Type 0
AllWithin [] = Unit {0}
AllWithin (l ∷ ls) = LookupWithin l × AllWithin ls

-- a list of lookups that is a book
pub record Legal (ls : List Lookup) : Type 0 where
  pub each : AllWithin ls
  pub few : length ls ≤ most_lookups
  pub short : length (encode_all ls) ≤ most_words
