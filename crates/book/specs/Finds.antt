-- What `find_in` answers by a book's index is that lookup of the definition: of a book that reads, the walk's k-th start is where lookup k begins.
use Rattle.std.specs.Prelude.{◌≡◌, refl, Bool, true, false, cond, List, [], ◌∷◌, ℕ, zero, suc, ◌+◌, ◌-◌, ◌≤◌, ◌<◌, leb, ltb, length, get_or, drop}
use Rattle.std.specs.Prelude.{Option, Some, None}
use Rattle.std.proofs.Common.{sym, ap, ◌∙◌, ⊎_elim, eq-or-lt_of_le, arith, lt-ltb, leb-true, ltb-true, ltb-false, length-drop, length-set}
use Rattle.std.proofs.Common.{drop_of_length-le, drop-cons, get_or-set_same, get_or-set_other}
use Rattle.std.proofs.lemmas.List.{length-replicate}
use Rattle.book.specs.declared.Entry.{Entry}
use Rattle.book.specs.Book.{most_words, most_lookups, Lookup, Kind1, Found, Is, Reading}
use Rattle.book.specs.Book.{Reads, Unreadable, read_first, read_lookups, read_book, lookup_at}
use Rattle.book.specs.Places.{meant, entry_at, step_at, start_of, start_slots, indexed, index_of, found_in, found_at}
use Rattle.book.specs.Inside.{FoundInside}
use Rattle.book.specs.Readings.{entry_inside}
use Rattle.book.specs.Starts.{Next, next, no_read, stuck, reads_nil, reads_over}

-- ---- the slots

length-slots : (n : ℕ) (ws : List ℕ) → length (start_slots n ws) ≡ most_lookups
unfolding start_slots
length-slots zero ws = length-replicate {A = ℕ} most_lookups 0
length-slots (suc n) ws = length-set (start_slots n ws) n (start_of n ws) ∙ length-slots n ws

pub slot_is_lem : (n : ℕ) (ws : List ℕ) (k : ℕ) → n ≤ most_lookups → k < n → get_or (start_slots n ws) k 0 ≡ start_of k ws
unfolding start_slots
slot_is_lem zero ws k h l = let z : ⊥ = omega arith in absurd z
slot_is_lem (suc n) ws k h l =
    let g : k ≤ n = omega arith in
    ⊎_elim
    (λ e.
    rw e
    (get_or-set_same (start_slots n ws) n (start_of n ws) 0 (omega (arith, length-slots n ws))))
    (λ m. get_or-set_other (start_slots n ws) n k (start_of n ws) 0 (λ z. omega arith) ∙ slot_is_lem n ws k (omega arith) m)
    (eq-or-lt_of_le g)

-- ---- one lookup off

not_nil : (l : Lookup) (ls : List Lookup) → Reads [] ≡ Reads (l ∷ ls) → ⊥
not_nil l ls e = let z : ◌≡◌ {A = ℕ} 0 1 = cc in omega arith

record Off (ws : List ℕ) (m at : ℕ) (l : Lookup) (ls : List Lookup) : Type 0 where
  pub is : meant ws (entry_at ws at) ≡ Is l
  pub rest : read_lookups m (drop (at + step_at ws at) ws) ≡ Reads ls
  pub within : at + step_at ws at ≤ length ws

off_by : (ws : List ℕ) (m at : ℕ) (x : Next m ws at) (l : Lookup) (ls : List Lookup) (r : Reading)
    → read_lookups m (drop (at + step_at ws at) ws) ≡ r → read_first x.it r ≡ Reads (l ∷ ls) → Off ws m at l ls
off_by ws m at x l ls (Reads ks) e f =
    let p : x.it ≡ l = cc in
    let q : ks ≡ ls = cc in
    record { is = x.is ∙ ap Is p; rest = e ∙ ap Reads q; within = x.within }
off_by ws m at x l ls Unreadable e f = absurd (no_read (l ∷ ls) f)

off_at : (ws : List ℕ) (m at : ℕ) (l : Lookup) (ls : List Lookup) (o : Option Entry) → at < length ws → entry_at ws at ≡ o
    → read_lookups (suc m) (drop at ws) ≡ Reads (l ∷ ls) → Off ws m at l ls
off_at ws m at l ls None h e f = absurd (no_read (l ∷ ls) (sym (stuck ws at h m e) ∙ f))
off_at ws m at l ls (Some y) h e f =
    let x = next ws at h m y e in
    off_by ws m at x l ls (read_lookups m (drop (at + step_at ws at) ws)) refl (sym x.reads ∙ f)

off : (ws : List ℕ) (n at : ℕ) (l : Lookup) (ls : List Lookup) (t : Bool) → ltb at (length ws) ≡ t
    → read_lookups n (drop at ws) ≡ Reads (l ∷ ls) → Off ws (n - 1) at l ls
off ws zero at l ls true e f =
    let h : at < length ws = ltb-true at (length ws) e in
    let k : 0 < length (drop at ws) = simp length-drop (omega arith) in
    absurd (no_read (l ∷ ls) (sym (reads_over (drop at ws) k) ∙ f))
off ws (suc n) at l ls true e f =
    let p : suc n - 1 ≡ n = omega arith in
    rw p (off_at ws n at l ls (entry_at ws at) (ltb-true at (length ws) e) refl f)
off ws n at l ls false e f =
    absurd (not_nil l ls (sym (reads_nil n) ∙ ap (read_lookups n) (sym (drop_of_length-le ws {i = at} (ltb-false at (length ws) e))) ∙ f))

-- ---- from start to start

abbrev some : Lookup
some = Kind1 0 0 0

-- what is left at the k-th start are the lookups from k on
left_at : (ws : List ℕ) (n : ℕ) (ls : List Lookup) → read_lookups n ws ≡ Reads ls → (k : ℕ) → k ≤ length ls
    → read_lookups (n - k) (drop (start_of k ws) ws) ≡ Reads (drop k ls)
unfolding start_of
left_at ws n ls e zero h = let z : n - 0 ≡ n = omega arith in rw z e
left_at ws n ls e (suc k) h =
    let at : ℕ = start_of k ws in
    let d : drop k ls ≡ get_or ls k some ∷ drop (suc k) ls = drop-cons ls k some (omega arith) in
    let o = off ws (n - k) (start_of k ws) (get_or ls k some) (drop (suc k) ls) (ltb (start_of k ws) (length ws)) refl
    (left_at ws n ls e k (omega arith) ∙ ap Reads d) in
    let z : n - suc k ≡ n - k - 1 = omega arith in
    rw z o.rest

-- lookup k begins at the k-th start
pub start_is : (ws : List ℕ) (n : ℕ) (ls : List Lookup) → read_lookups n ws ≡ Reads ls → (k : ℕ) → k < length ls
    → meant ws (entry_at ws (start_of k ws)) ≡ Is (get_or ls k some)
start_is ws n ls e k h =
    let d : drop k ls ≡ get_or ls k some ∷ drop (suc k) ls = drop-cons ls k some h in
    (off ws (n - k) (start_of k ws) (get_or ls k some) (drop (suc k) ls) (ltb (start_of k ws) (length ws)) refl
    (left_at ws n ls e k (omega arith) ∙ ap Reads d)).is

lookup_is : (k : ℕ) (ls : List Lookup) → k < length ls → lookup_at k ls ≡ Is (get_or ls k some)
unfolding lookup_at
lookup_is k [] h = let z : ⊥ = omega arith in absurd z
lookup_is zero (l ∷ ls) h = refl
lookup_is (suc k) (l ∷ ls) h = lookup_is k ls (omega arith)

lookup_none : (k : ℕ) (ls : List Lookup) → length ls ≤ k → lookup_at k ls ≡ Found.None
unfolding lookup_at
lookup_none k [] h = refl
lookup_none zero (l ∷ ls) h = let z : ⊥ = omega arith in absurd z
lookup_none (suc k) (l ∷ ls) h = lookup_none k ls (omega arith)

-- a book has no more lookups than it may
over : (v : List ℕ) (l : Lookup) (ls : List Lookup) → read_lookups zero v ≡ Reads (l ∷ ls) → ⊥
over [] l ls r = not_nil l ls (sym (reads_nil zero) ∙ r)
over (x ∷ v) l ls r = no_read (l ∷ ls) (sym (reads_over (x ∷ v) (omega arith)) ∙ r)

few_by : (n : ℕ) (ws : List ℕ) (ls : List Lookup) → read_lookups n ws ≡ Reads ls → (t : Bool) → ltb n (length ls) ≡ t → length ls ≤ n
few_by n ws ls e false h = ltb-false n (length ls) h
few_by n ws ls e true h =
    let d : drop n ls ≡ get_or ls n some ∷ drop (suc n) ls = drop-cons ls n some (ltb-true n (length ls) h) in
    let z : n - n ≡ zero = omega arith in
    let l : n ≤ length ls = omega (arith, ltb-true n (length ls) h) in
    absurd (over (drop (start_of n ws) ws) (get_or ls n some) (drop (suc n) ls) (rw z at (left_at ws n ls e n l) ∙ ap Reads d))

pub few_lookups : (n : ℕ) (ws : List ℕ) (ls : List Lookup) → read_lookups n ws ≡ Reads ls → length ls ≤ n
few_lookups n ws ls e = few_by n ws ls e (ltb n (length ls)) refl

-- ---- the book

-- a book that reads isn't too long
pub record BookReads (ws : List ℕ) (ls : List Lookup) : Type 0 where
  pub short : length ws ≤ most_words
  pub reads : read_lookups most_lookups ws ≡ Reads ls

kept_by : (ws : List ℕ) (ls : List Lookup) (t : Bool) → leb (length ws) most_words ≡ t → read_book ws ≡ Reads ls → BookReads ws ls
unfolding read_book
kept_by ws ls true e r = record { short = leb-true (length ws) most_words e; reads = rw e at r }
kept_by ws ls false e r = absurd (no_read ls (rw e at r))

pub book_reads : (ws : List ℕ) (ls : List Lookup) → read_book ws ≡ Reads ls → BookReads ws ls
book_reads ws ls r = kept_by ws ls (leb (length ws) most_words) refl r

found_by : (ws : List ℕ) (ls : List Lookup) (k : ℕ) (t : Bool) → ltb k (length ls) ≡ t → BookReads ws ls
    → meant ws (found_at ws (indexed ws (Reads ls)) k) ≡ lookup_at k ls
unfolding found_in
found_by ws ls k true e b =
    let h : k < length ls = ltb-true k (length ls) e in
    let f = few_lookups most_lookups ws ls b.reads in
    rw (e, lt-ltb k most_lookups (omega arith), slot_is_lem (length ls) ws k f h) (start_is ws most_lookups ls b.reads k h ∙ sym (lookup_is k ls h))
found_by ws ls k false e b = rw e (sym (lookup_none k ls (ltb-false k (length ls) e)))

-- the entry that `find_in` answers by the book's index is lookup k, and none where the book has none
pub found_is : (ws : List ℕ) (ls : List Lookup) (k : ℕ) → read_book ws ≡ Reads ls → meant ws (found_at ws (index_of ws) k) ≡ lookup_at k ls
unfolding index_of
found_is ws ls k e = rw e (found_by ws ls k (ltb k (length ls)) refl (book_reads ws ls e))

inside_by : (ws : List ℕ) (t b : Bool) (at : ℕ) → FoundInside (length ws) (cond t (cond b (entry_at ws at) None) None)
inside_by ws true true at = entry_inside ws at
inside_by ws true false at = tt
inside_by ws false b at = tt

-- its parts lie within the words and keep the limits, by any table of starts
pub found_inside : (ws starts : List ℕ) (count k : ℕ) → FoundInside (length ws) (found_in ws starts count k)
unfolding found_in
found_inside ws starts count k = inside_by ws (ltb k count) (ltb k most_lookups) (get_or starts k 0)
