-- A book written from lookups within the limits reads back as those lookups.
use Rattle.std.specs.Prelude.{◌≡◌, refl, List, [], ◌∷◌, ◌++◌, ℕ, zero, suc, ◌+◌, ◌-◌, ◌*◌, ◌/◌, ◌%◌, ◌≤◌, ◌<◌, length}
use Rattle.std.proofs.Common.{sym, ap, ◌∙◌, arith, le-leb, length-append, take_at, drop_at}
use Rattle.book.specs.Book.{most_words, most_lookups, most_ids, most_input, most_side, most_records, Lookup, Kind1, Kind2, Kind3}
use Rattle.book.specs.Book.{Is, Taken, counted, body_of, Read, first_lookup_of, Reads, read_lookups, read_book}
use Rattle.book.specs.Encode.{pairs_of, kind_of, props_of, numbered, content_of, encode, encode_all, LookupWithin, AllWithin, Legal}
use Rattle.book.specs.Records.{pairs_length, records_back}
use Rattle.book.specs.Starts.{reads_nil, reads_cons}

counted_back : (each most n : ℕ) (xs r : List ℕ) → length xs ≡ each * n → n ≤ most → counted each most (numbered n xs r) ≡ Taken xs r
unfolding counted
counted_back each most n xs r e h =
    let l : each * n ≤ length (xs ++ r) = omega (arith, length-append xs r) in
    rw (le-leb n most h, le-leb (each * n) (length (xs ++ r)) l, take_at xs r (each * n) e, drop_at xs r (each * n) e)

once : (xs : List ℕ) → length xs ≡ 1 * length xs
once xs = omega arith

body_back : (l : Lookup) → LookupWithin l → body_of (kind_of l) (props_of l) (content_of l) ≡ Is l
unfolding body_of
body_back (Kind1 props from to) h = refl
body_back (Kind2 props from ids) h = rw (counted_back 1 most_ids (length ids) ids [] (once ids) h)
body_back (Kind3 props c) h =
    let r = numbered (length c.records) (pairs_of c.records) [] in
    let a = numbered (length c.lookahead) c.lookahead r in
    let i = numbered (length c.input) c.input a in
    rw (
      counted_back 1 most_side (length c.backtrack) c.backtrack i (once c.backtrack) h.backtrack,
      counted_back 1 most_input (length c.input) c.input a (once c.input) h.input,
      counted_back 1 most_side (length c.lookahead) c.lookahead r (once c.lookahead) h.lookahead,
      counted_back 2 most_records (length c.records) (pairs_of c.records) [] (pairs_length c.records) h.records,
      records_back c.records,
    )

first_back : (l : Lookup) (rest : List ℕ) → LookupWithin l → first_lookup_of (encode l ++ rest) ≡ Read l rest
unfolding first_lookup_of encode
first_back l rest h =
    let n : ℕ = length (content_of l) in
    let v : List ℕ = content_of l ++ rest in
    let p : props_of l % 65536 + 65536 * (props_of l / 65536) ≡ props_of l = omega arith in
    let a : 4 ≤ suc (suc (suc (suc (length (content_of l ++ rest))))) = omega arith in
    let b : length (content_of l) ≤ suc (suc (suc (suc (length (content_of l ++ rest))))) - 4 = omega (arith, length-append (content_of l) rest) in
    let d : 4 + length (content_of l) ≡ suc (suc (suc (suc (length (content_of l))))) = omega arith in
    rw (
      le-leb 4 (suc (suc (suc (suc (length (content_of l ++ rest)))))) a,
      le-leb (length (content_of l)) (suc (suc (suc (suc (length (content_of l ++ rest))))) - 4) b,
      p,
      d,
      take_at (content_of l) rest (length (content_of l)) refl,
      drop_at (content_of l) rest (length (content_of l)) refl,
      body_back l h,
    )

long : (l : Lookup) (rest : List ℕ) → 0 < length (encode l ++ rest)
unfolding encode
long l rest = omega arith

reads_list : (n : ℕ) (ls : List Lookup) → AllWithin ls → length ls ≤ n → read_lookups n (encode_all ls) ≡ Reads ls
unfolding encode_all AllWithin
reads_list n [] w h = reads_nil n
reads_list zero (l ∷ ls) w h = let z : ⊥ = omega arith in absurd z
reads_list (suc n) (l ∷ ls) w h =
    reads_cons n (encode l ++ encode_all ls) (long l (encode_all ls))
    ∙ rw (first_back l (encode_all ls) w.0, reads_list n ls w.1 (omega arith))

-- reading what was written gives it back
pub reads_back : (ls : List Lookup) → Legal ls → read_book (encode_all ls) ≡ Reads ls
unfolding read_book
reads_back ls b = rw (le-leb (length (encode_all ls)) most_words b.short) (reads_list most_lookups ls b.each b.few)

-- an empty book reads
pub empty_reads : read_book [] ≡ Reads []
unfolding read_book
empty_reads = reads_nil most_lookups

-- the words of lookups within the limits divide in one way only
pub one_way : (ls ms : List Lookup) → Legal ls → Legal ms → encode_all ls ≡ encode_all ms → ls ≡ ms
one_way ls ms a b e =
    let r : Reads ls ≡ Reads ms = sym (reads_back ls a) ∙ ap read_book e ∙ reads_back ms b in
    cc
