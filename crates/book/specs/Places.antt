-- The code's side: where a lookup's parts stand in the book's words, as the code finds them. Readings.antt shows that they are the lookups of the
-- definition.
use Rattle.std.specs.Prelude.{ℕ, zero, suc, ◌+◌, ◌-◌, ◌*◌, Bool, true, false, cond, List, ◌++◌, eqb, leb, ltb, length, get_or, take, drop, set}
use Rattle.std.specs.Prelude.{Option, Some, None, unwrap_or, option_map, option_and_then}
use Rattle.bits.specs.Bits.{zeros}
use Rattle.book.specs.declared.Part.{Part}
use Rattle.book.specs.declared.ChainParts.{ChainParts}
use Rattle.book.specs.declared.Entry.{Entry}
use Rattle.book.specs.declared.Index.{Index}
use Rattle.book.specs.Book.{most_lookups, most_ids, most_input, most_side, most_records, Reading, Reads, Unreadable, Found}
use Rattle.book.specs.Book.{Lookup, Chain, Kind1, Kind2, Kind3, records_of, read_book}

-- the words of a part
abbrev pub part_of : List ℕ → Part → List ℕ
part_of ws p = take (p.to - p.from) (drop p.from ws)

-- the chain whose parts stand there
abbrev pub chain_of : List ℕ → ChainParts → Chain ℕ
chain_of ws c = record {
  first = c.first;
  backtrack = part_of ws c.backtrack;
  input = part_of ws c.input;
  lookahead = part_of ws c.lookahead;
  records = records_of (part_of ws c.records);
}

-- the lookup that an entry shows
abbrev pub lookup_by : List ℕ → Entry → Lookup
lookup_by ws (Entry.One props from to) = Kind1 props from to
lookup_by ws (Entry.Many props from ids) = Kind2 props from (part_of ws ids)
lookup_by ws (Entry.Chain props parts) = Kind3 props (chain_of ws parts)

abbrev pub meant : List ℕ → Option Entry → Found
meant ws (Some e) = Found.Is (lookup_by ws e)
meant ws None = Found.None

-- ---- a body that begins at a and ends where the words end

unfoldable pub counted_at : List ℕ → ℕ → ℕ → ℕ → Option Part
counted_at ws x each most =
    let n = get_or ws x 0 in
    cond (ltb x (length ws)) (cond (leb n most) (cond (leb (each * n) (length ws - (x + 1)))
    (Some (record { from = x + 1; to = x + 1 + each * n })) None) None) None

abbrev pub part_then : Option Part → (Part → Option Entry) → Option Entry
part_then p f = option_and_then f p

-- an entry that leaves no word over from x on
abbrev pub whole_at : List ℕ → ℕ → Entry → Option Entry
whole_at ws x e = cond (leb (length ws) x) (Some e) None

unfoldable pub one_at : List ℕ → ℕ → ℕ → Option Entry
one_at ws props a = cond (eqb (length ws - a) 2) (Some (Entry.One props (get_or ws a 0) (get_or ws (a + 1) 0))) None

unfoldable pub many_at : List ℕ → ℕ → ℕ → Option Entry
many_at ws props a =
    cond (ltb a (length ws))
    (part_then (counted_at ws (a + 1) 1 most_ids) (λ ids. whole_at ws ids.to (Entry.Many props (get_or ws a 0) ids))) None

unfoldable pub chain_at : List ℕ → ℕ → ℕ → Option Entry
chain_at ws props a =
    cond (ltb a (length ws))
    (part_then (counted_at ws (a + 1) 1 most_side) (λ back.
    part_then (counted_at ws back.to 1 most_input) (λ input.
    part_then (counted_at ws input.to 1 most_side) (λ ahead.
    part_then (counted_at ws ahead.to 2 most_records) (λ records.
    whole_at ws records.to
    (Entry.Chain props (record { first = get_or ws a 0; backtrack = back; input = input; lookahead = ahead; records = records })))))))
    None

unfoldable pub kind_at : List ℕ → ℕ → ℕ → ℕ → Option Entry
kind_at ws kind props a =
    cond (eqb kind 1) (one_at ws props a) (cond (eqb kind 2) (many_at ws props a) (cond (eqb kind 3) (chain_at ws props a) None))

-- ---- a lookup that begins at `at`

-- the words up to the end of its body, which holds where it has one
abbrev pub up_to : List ℕ → ℕ → List ℕ
up_to ws at = take (at + 4 + get_or ws (at + 3) 0) ws

unfoldable pub entry_at : List ℕ → ℕ → Option Entry
entry_at ws at =
    let size = get_or ws (at + 3) 0 in
    let props = get_or ws (at + 1) 0 + 65536 * get_or ws (at + 2) 0 in
    cond (leb 4 (length ws - at)) (cond (leb size (length ws - (at + 4))) (kind_at (up_to ws at) (get_or ws at 0) props (at + 4)) None)
    None

abbrev pub is_chain : Option Entry → Bool
is_chain (Some (Entry.One props from to)) = false
is_chain (Some (Entry.Many props from ids)) = false
is_chain (Some (Entry.Chain props parts)) = true
is_chain None = false

-- how many words it takes, where there is one
unfoldable pub size_at : List ℕ → ℕ → Option ℕ
size_at ws at = option_map (λ e. 4 + get_or ws (at + 3) 0) (entry_at ws at)

-- how far on the next one begins
abbrev pub step_at : List ℕ → ℕ → ℕ
step_at ws at = unwrap_or (size_at ws at) 0

-- ---- the table of starts

-- where lookup k begins
unfoldable pub start_of : ℕ → List ℕ → ℕ
start_of zero ws = 0
start_of (suc k) ws = start_of k ws + step_at ws (start_of k ws)

-- the starts of the first n lookups in their slots
unfoldable pub start_slots : ℕ → List ℕ → List ℕ
start_slots zero ws = zeros most_lookups
start_slots (suc n) ws = set (start_slots n ws) n (start_of n ws)

abbrev pub indexed : List ℕ → Reading → Option Index
indexed ws (Reads ls) = Some (record { count = length ls; starts = start_slots (length ls) ws })
indexed ws Unreadable = None

unfoldable pub index_of : List ℕ → Option Index
index_of ws = indexed ws (read_book ws)

-- lookup k by a table of starts
unfoldable pub found_in : List ℕ → List ℕ → ℕ → ℕ → Option Entry
found_in ws starts count k =
    cond (ltb k count) (cond (ltb k most_lookups) (entry_at ws (get_or starts k 0)) None) None

abbrev pub found_at : List ℕ → Option Index → ℕ → Option Entry
found_at ws index k = option_and_then (λ i. found_in ws i.starts i.count k) index

-- values in the first slots of a table for a matcher, the others 0
abbrev pub widened : List ℕ → List ℕ
widened values = values ++ zeros (most_side - length values)
