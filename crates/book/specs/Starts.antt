-- A walk over a book, lookup by lookup: what is read before a place, and what is left from it on. Where a book reads, the walk's k-th start is where
-- lookup k begins.
use Rattle.std.specs.Prelude.{◌≡◌, List, [], ◌∷◌, ◌++◌, length, drop, set}
use Rattle.std.specs.Prelude.{Option, Some, None, is_some, unwrap_or}
use Rattle.std.proofs.Math.Path.{refl, ap}
use Rattle.std.proofs.Common.{◌∙◌, add-one, le-leb, length-drop, drop_of_length-le}
use Prim.Native.Nat.{ℕ, zero, suc, ◌+◌, ◌-◌, ◌≤◌, ◌<◌}
use native.Mathlib.Omega.{arith}
use Rattle.std.proofs.lemmas.Bool.{lt-leb}
use Rattle.std.proofs.Math.ListN.{get_or, length-append}
use Rattle.book.specs.declared.Entry.{Entry}
use Rattle.book.specs.declared.Index.{Index}
use Rattle.book.specs.Book.{most_words, most_lookups, Lookup, Is, First}
use Rattle.book.specs.Book.{followed, first_lookup_of, Reading, Reads, Unreadable, read_first, read_on, read_lookups, read_book, is_read}
use Rattle.bits.specs.Bits.{zeros}
use Rattle.book.specs.Places.{lookup_by, meant, entry_at, size_at, step_at, start_of, start_slots, indexed, index_of}
use Rattle.book.specs.Readings.{first_at, entry_fits}

-- a book that doesn't read has no lookups
pub no_read : (ls : List Lookup) → Unreadable ≡ Reads ls → ⊥
no_read ls e = let z : ◌≡◌ {A = ℕ} 0 1 = cc in omega arith

-- ---- one lookup on

pub reads_nil : (n : ℕ) → read_lookups n [] ≡ Reads []
unfolding read_lookups
reads_nil zero = refl
reads_nil (suc n) = refl

pub reads_over : (v : List ℕ) → 0 < length v → read_lookups zero v ≡ Unreadable
unfolding read_lookups
reads_over [] h = let z : ⊥ = omega arith in absurd z
reads_over (x ∷ v) h = refl

pub reads_cons : (n : ℕ) (v : List ℕ) → 0 < length v → read_lookups (suc n) v ≡ read_on (first_lookup_of v) (λ rest. read_lookups n rest)
unfolding read_lookups
reads_cons n [] h = let z : ⊥ = omega arith in absurd z
reads_cons n (x ∷ v) h = refl

-- a lookup read, and the words after it
pub record Next (n : ℕ) (ws : List ℕ) (at : ℕ) : Type 0 where
  pub it : Lookup
  pub is : meant ws (entry_at ws at) ≡ Is it
  pub reads : read_lookups (suc n) (drop at ws) ≡ read_first it (read_lookups n (drop (at + step_at ws at) ws))
  pub within : at + step_at ws at ≤ length ws

module _ (ws : List ℕ) (at : ℕ) (h : at < length ws) where
  abbrev past : List ℕ
  past = drop (at + 4 + get_or ws (at + 3) 0) ws

  on : (n : ℕ) → read_lookups (suc n) (drop at ws) ≡ read_on (followed past (meant ws (entry_at ws at))) (λ rest. read_lookups n rest)
  on n =
      let l : 0 < length (drop at ws) = simp length-drop (omega arith) in
      reads_cons n (drop at ws) l ∙ ap (λ (f : First). read_on f (λ rest. read_lookups n rest)) (first_at ws at)

  pub stuck : (n : ℕ) → entry_at ws at ≡ None → read_lookups (suc n) (drop at ws) ≡ Unreadable
  stuck n m = on n ∙ rw m

  pub next : (n : ℕ) (e : Entry) → entry_at ws at ≡ Some e → Next n ws at
  unfolding size_at
  next n e m =
      let w = entry_fits ws at (ap is_some m) in
      let p : at + (4 + get_or ws (at + 3) 0) ≡ at + 4 + get_or ws (at + 3) 0 = omega arith in
      record { it = lookup_by ws e; is = rw m; reads = on n ∙ rw (m, p); within = rw (m, p) w }

size_by : (ws : List ℕ) (at : ℕ) (o : Option Entry) → entry_at ws at ≡ o → size_at ws at ≡ None → o ≡ None
unfolding size_at
size_by ws at None m e = refl
size_by ws at (Some x) m e = let z : ◌≡◌ {A = ℕ} 0 1 = cc (rw m at e) in absurd (omega arith)

-- the code's test
pub size_none : (ws : List ℕ) (at : ℕ) → size_at ws at ≡ None → entry_at ws at ≡ None
size_none ws at e = size_by ws at (entry_at ws at) refl e

pub record Sized (ws : List ℕ) (at s : ℕ) (o : Option Entry) : Type 0 where
  pub it : Entry
  pub is : o ≡ Some it
  pub on : step_at ws at ≡ s
  pub some : 0 < s

some_by : (ws : List ℕ) (at s : ℕ) (o : Option Entry) → entry_at ws at ≡ o → size_at ws at ≡ Some s → Sized ws at s o
unfolding size_at
some_by ws at s None m e = let z : ◌≡◌ {A = ℕ} 0 1 = cc (rw m at e) in absurd (omega arith)
some_by ws at s (Some x) m e = record {
  it = x;
  is = refl;
  on = ap (λ (z : Option ℕ). unwrap_or z 0) e;
  some = omega (arith, ap (λ (z : Option ℕ). unwrap_or z 0) (rw m at e));
}

pub size_some : (ws : List ℕ) (at s : ℕ) → size_at ws at ≡ Some s → Sized ws at s (entry_at ws at)
size_some ws at s e = some_by ws at s (entry_at ws at) refl e

-- ---- the walk

abbrev read_after : List Lookup → Reading → Reading
read_after [] r = r
read_after (l ∷ ls) r = read_first l (read_after ls r)

after_one : (ls : List Lookup) (l : Lookup) (r : Reading) → read_after ls (read_first l r) ≡ read_after (ls ++ l ∷ []) r
after_one [] l r = refl
after_one (k ∷ ls) l r = ap (read_first k) (after_one ls l r)

after_end : (ls : List Lookup) → read_after ls (Reads []) ≡ Reads ls
after_end [] = refl
after_end (k ∷ ls) = ap (read_first k) (after_end ls)

after_stuck : (ls : List Lookup) → read_after ls Unreadable ≡ Unreadable
after_stuck [] = refl
after_stuck (k ∷ ls) = ap (read_first k) (after_stuck ls)

-- n lookups are read, and the book says them and then what is left from `at` on says
pub record ReadSoFar (ws : List ℕ) (n at : ℕ) : Type 0 where
  pub read : List Lookup
  pub many : length read ≡ n
  pub place : at ≡ start_of n ws
  pub within : at ≤ length ws
  pub rest : read_lookups most_lookups ws ≡ read_after read (read_lookups (most_lookups - n) (drop at ws))

module _ (ws : List ℕ) where
  pub going_none : ReadSoFar ws 0 0
  unfolding start_of
  going_none = record { read = []; many = refl; place = refl; within = omega arith; rest = refl }

  module _ (n at : ℕ) (g : ReadSoFar ws n at) where
    pub going_more : at < length ws → n < most_lookups → (size : ℕ) → size_at ws at ≡ Some size → ReadSoFar ws (n + 1) (at + size)
    unfolding start_of
    going_more h k size s =
        let f = size_some ws at size s in
        let x = next ws at h (most_lookups - (n + 1)) f.it f.is in
        let e : most_lookups - n ≡ suc (most_lookups - (n + 1)) = omega arith in
        record {
          read = g.read ++ x.it ∷ [];
          many = simp length-append (omega (arith, g.many));
          place = rw (add-one n, ← g.place, f.on);
          within = rw f.on at x.within;
          rest = g.rest ∙ rw (e, x.reads, f.on) (after_one g.read x.it (read_lookups (most_lookups - (n + 1)) (drop (at + size) ws)));
        }

    pub going_stuck : at < length ws → n < most_lookups → size_at ws at ≡ None → read_lookups most_lookups ws ≡ Unreadable
    going_stuck h k s =
        let e : most_lookups - n ≡ suc (most_lookups - (n + 1)) = omega arith in
        g.rest ∙ rw (e, stuck ws at h (most_lookups - (n + 1)) (size_none ws at s)) (after_stuck g.read)

    pub going_over : at < length ws → n ≡ most_lookups → read_lookups most_lookups ws ≡ Unreadable
    going_over h k =
        let e : most_lookups - n ≡ zero = omega arith in
        let l : 0 < length (drop at ws) = simp length-drop (omega arith) in
        g.rest ∙ rw (e, reads_over (drop at ws) l) (after_stuck g.read)

    pub going_done : length ws ≤ at → read_lookups most_lookups ws ≡ Reads g.read
    going_done h =
        g.rest ∙ rw (drop_of_length-le ws {i = at} h, reads_nil (most_lookups - n)) (after_end g.read)

-- ---- the index

module _ (ws : List ℕ) where
  pub index_long : most_words < length ws → index_of ws ≡ None
  unfolding index_of read_book
  index_long h = rw (lt-leb (length ws) most_words h)

  pub index_none : length ws ≤ most_words → read_lookups most_lookups ws ≡ Unreadable → index_of ws ≡ None
  unfolding index_of read_book
  index_none h e = rw (le-leb (length ws) most_words h, e)

  pub index_done : length ws ≤ most_words → (n at : ℕ) (g : ReadSoFar ws n at) → length ws ≤ at
      → index_of ws ≡ Some (record { count = n; starts = start_slots n ws })
  unfolding index_of read_book
  index_done h n at g l =
      rw (le-leb (length ws) most_words h, going_done ws n at g l) (ap (λ (k : ℕ). index_for k) g.many)
    where
      index_for : ℕ → Option Index
      index_for k = Some (record { count = k; starts = start_slots k ws })

  pub slots_none : zeros most_lookups ≡ start_slots 0 ws
  unfolding start_slots
  slots_none = refl

  pub slots_more : (n at : ℕ) → at ≡ start_of n ws → set (start_slots n ws) n at ≡ start_slots (n + 1) ws
  unfolding start_slots
  slots_more n at e = rw (add-one n, e)

  reads_by : (r : Reading) → is_some (indexed ws r) ≡ is_read r
  reads_by (Reads ls) = refl
  reads_by Unreadable = refl

  pub index_reads : is_some (index_of ws) ≡ is_read (read_book ws)
  unfolding index_of
  index_reads = reads_by (read_book ws)
