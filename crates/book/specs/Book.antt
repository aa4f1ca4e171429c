-- What a book of lookups says: its words read into a list of lookups, or it doesn't read (01, "Records over a text", second paragraph; refusal 11).
-- A further kind is a case of Lookup, a reader of its body, and a line of body_of.
use Rattle.std.specs.Prelude.{ℕ, zero, suc, ◌+◌, ◌-◌, ◌*◌, Bool, true, false, cond, List, [], ◌∷◌, eqb, leb, length, get_or, take, drop}

abbrev pub most_words : ℕ
most_words = 4096

abbrev pub most_lookups : ℕ
most_lookups = 256

abbrev pub most_ids : ℕ
most_ids = 8

abbrev pub most_input : ℕ
most_input = 63

-- values on each side: backtrack, lookahead
abbrev pub most_side : ℕ
most_side = 64

abbrev pub most_records : ℕ
most_records = 16

-- a record: at which of the match's positions which lookup is applied
pub record Record : Type 0 where
  pub seq : ℕ
  pub lookup : ℕ

-- the records that words are, a pair each; a lone last word is none
unfoldable pub records_of : List ℕ → List Record
records_of [] = []
records_of (seq ∷ []) = []
records_of (seq ∷ k ∷ rest) = record { seq = seq; lookup = k } ∷ records_of rest

-- a chain over values of any kind: what its first glyph must be; backtrack, input and lookahead values, backtrack and lookahead from the nearest
-- glyph outwards; records (OpenType, chapter GSUB, types 5 and 6)
pub record Chain (X : Type 0) : Type 0 where
  pub first : X
  pub backtrack : List X
  pub input : List X
  pub lookahead : List X
  pub records : List Record

-- a lookup, by its kind; the first number is its props
pub data Lookup : Type 0 where
  -- from, to (OpenType, chapter GSUB, type 1)
  Kind1 : ℕ → ℕ → ℕ → Lookup
  -- from, ids (type 2)
  Kind2 : ℕ → ℕ → List ℕ → Lookup
  -- a chain whose values are ids
  Kind3 : ℕ → Chain ℕ → Lookup

-- a lookup, or none
pub data Found : Type 0 where
  Is : Lookup → Found
  None : Found

-- entries taken from the front of some words, and the words after them
pub data Split : Type 0 where
  Taken : List ℕ → List ℕ → Split
  Short : Split

-- a number, at most `most`, and then as many entries of `each` words
unfoldable pub counted : ℕ → ℕ → List ℕ → Split
counted each most [] = Short
counted each most (n ∷ ws) =
    cond (leb n most) (cond (leb (each * n) (length ws)) (Taken (take (each * n) ws) (drop (each * n) ws)) Short) Short

abbrev pub and_then : Split → (List ℕ → List ℕ → Found) → Found
and_then (Taken entries rest) f = f entries rest
and_then Short f = None

-- a lookup that leaves no word over
abbrev pub whole_lookup : List ℕ → Lookup → Found
whole_lookup [] l = Is l
whole_lookup (w ∷ over) l = None

-- from, to
abbrev pub kind1 : ℕ → List ℕ → Found
kind1 props ws = cond (eqb (length ws) 2) (Is (Kind1 props (get_or ws 0 0) (get_or ws 1 0))) None

-- from, and ids after their number
abbrev pub kind2 : ℕ → List ℕ → Found
kind2 props [] = None
kind2 props (from ∷ ws) = and_then (counted 1 most_ids ws) (λ ids over. whole_lookup over (Kind2 props from ids))

-- first id, then backtrack, input and lookahead values and records, each after their number
abbrev pub kind3 : ℕ → List ℕ → Found
kind3 props [] = None
kind3 props (first ∷ ws) =
    and_then (counted 1 most_side ws) (λ back r.
    and_then (counted 1 most_input r) (λ input s.
    and_then (counted 1 most_side s) (λ ahead t.
    and_then (counted 2 most_records t) (λ pairs over.
    whole_lookup over (Kind3 props (record { first = first; backtrack = back; input = input; lookahead = ahead; records = records_of pairs }))))))

-- the lookup of a kind whose whole body is these words
unfoldable pub body_of : ℕ → ℕ → List ℕ → Found
body_of kind props ws =
    cond (eqb kind 1) (kind1 props ws) (cond (eqb kind 2) (kind2 props ws) (cond (eqb kind 3) (kind3 props ws) None))

-- the first lookup of some words, and the words after it
pub data First : Type 0 where
  Read : Lookup → List ℕ → First
  Nothing : First

abbrev pub followed : List ℕ → Found → First
followed rest (Is l) = Read l rest
followed rest None = Nothing

-- kind, props low, props high, body length, body
unfoldable pub first_lookup_of : List ℕ → First
first_lookup_of ws =
    let size = get_or ws 3 0 in
    cond (leb 4 (length ws)) (cond (leb size (length ws - 4))
    (followed (drop (4 + size) ws) (body_of (get_or ws 0 0) (get_or ws 1 0 + 65536 * get_or ws 2 0) (take size (drop 4 ws)))) Nothing) Nothing

-- what a book says
pub data Reading : Type 0 where
  Reads : List Lookup → Reading
  Unreadable : Reading

abbrev pub read_first : Lookup → Reading → Reading
read_first l (Reads ls) = Reads (l ∷ ls)
read_first l Unreadable = Unreadable

abbrev pub read_on : First → (List ℕ → Reading) → Reading
read_on (Read l rest) others = read_first l (others rest)
read_on Nothing others = Unreadable

-- at most n lookups, with no word over
unfoldable pub read_lookups : ℕ → List ℕ → Reading
read_lookups zero [] = Reads []
read_lookups zero (w ∷ ws) = Unreadable
read_lookups (suc n) [] = Reads []
read_lookups (suc n) (w ∷ ws) = read_on (first_lookup_of (w ∷ ws)) (λ rest. read_lookups n rest)

unfoldable pub read_book : List ℕ → Reading
read_book ws = cond (leb (length ws) most_words) (read_lookups most_lookups ws) Unreadable

abbrev pub is_read : Reading → Bool
is_read (Reads ls) = true
is_read Unreadable = false

-- lookup k of a book, where it has one
unfoldable pub lookup_at : ℕ → List Lookup → Found
lookup_at k [] = None
lookup_at zero (l ∷ ls) = Is l
lookup_at (suc k) (l ∷ ls) = lookup_at k ls

-- what it says, as a list; none where it doesn't read
abbrev pub lookups_by : Reading → List Lookup
lookups_by (Reads ls) = ls
lookups_by Unreadable = []

-- the lookups of a book that reads
abbrev pub lookups_of : List ℕ → List Lookup
lookups_of ws = lookups_by (read_book ws)
