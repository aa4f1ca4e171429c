-- A book reads only where it is the words of lookups within the limits, and then it says those: what is read, written again, is the book.
use Rattle.std.specs.Prelude.{◌≡◌, refl, Bool, true, false, cond, List, [], ◌∷◌, ◌++◌, ◌↔◌, ℕ, zero, suc, ◌+◌, ◌-◌, ◌*◌, ◌/◌, ◌%◌, ◌≤◌, ◌<◌, eqb, leb}
use Rattle.std.specs.Prelude.{length, get_or, take, drop}
use Rattle.std.proofs.Common.{sym, ap, subst, ◌∙◌, arith, leb-true, eqb-true, le-leb, take-append-drop, length-take-le, get_or-append-add}
use Rattle.std.proofs.lemmas.Bool.{lt-leb}
use Rattle.book.specs.Book.{most_lookups, most_ids, most_input, most_side, most_records, records_of, Chain, Lookup, Kind1, Kind2, Kind3, Found}
use Rattle.book.specs.Book.{Is, None, Split, Taken, Short, counted, and_then, whole_lookup, kind1, kind2, kind3, body_of}
use Rattle.book.specs.Book.{First, Read, Nothing, followed, first_lookup_of, Reading, Reads, Unreadable, read_first, read_on, read_lookups, read_book}
use Rattle.book.specs.Encode.{kind_of, props_of, numbered, content_of, encode, encode_all, LookupWithin, AllWithin, Narrow, Legal}
use Rattle.book.specs.Records.{records_length, pairs_back}
use Rattle.book.specs.Starts.{no_read}
use Rattle.book.specs.Finds.{few_lookups, book_reads}
use Rattle.book.specs.Written.{reads_back}

-- ---- entries after their number

record Count (each most : ℕ) (ws xs r : List ℕ) : Type 0 where
  pub number : ℕ
  pub are : ws ≡ numbered number xs r
  pub long : length xs ≡ each * number
  pub few : number ≤ most

not_taken : (xs r : List ℕ) → Short ≡ Taken xs r → ⊥
not_taken xs r e = let z : ◌≡◌ {A = ℕ} 0 1 = cc in omega arith

count_by : (each most n : ℕ) (v xs r : List ℕ) (b c : Bool) → leb n most ≡ b → leb (each * n) (length v) ≡ c
    → cond b (cond c (Taken (take (each * n) v) (drop (each * n) v)) Short) Short ≡ Taken xs r → Count each most (n ∷ v) xs r
count_by each most n v xs r true true p q e =
    let a : take (each * n) v ≡ xs = cc in
    let d : drop (each * n) v ≡ r = cc in
    record {
      number = n;
      are = ap (λ (l : List ℕ). n ∷ l) (sym (take-append-drop (each * n) v)) ∙ rw (a, d);
      long = ap length (sym a) ∙ length-take-le (each * n) v (leb-true (each * n) (length v) q);
      few = leb-true n most p;
    }
count_by each most n v xs r true false p q e = absurd (not_taken xs r e)
count_by each most n v xs r false c p q e = absurd (not_taken xs r e)

count : (each most : ℕ) (ws xs r : List ℕ) → counted each most ws ≡ Taken xs r → Count each most ws xs r
unfolding counted
count each most [] xs r e = absurd (not_taken xs r e)
count each most (n ∷ v) xs r e = count_by each most n v xs r (leb n most) (leb (each * n) (length v)) refl refl e

no_lookup : (l : Lookup) → None ≡ Is l → ⊥
no_lookup l e = let z : ◌≡◌ {A = ℕ} 0 1 = cc in omega arith

-- what follows them
record Then (each most : ℕ) (ws : List ℕ) (f : List ℕ → List ℕ → Found) (l : Lookup) : Type 0 where
  pub xs : List ℕ
  pub r : List ℕ
  pub counts : Count each most ws xs r
  pub on : f xs r ≡ Is l

then_by : (each most : ℕ) (ws : List ℕ) (f : List ℕ → List ℕ → Found) (l : Lookup) (s : Split) → counted each most ws ≡ s
    → and_then s f ≡ Is l → Then each most ws f l
then_by each most ws f l (Taken xs r) e o = record { xs = xs; r = r; counts = count each most ws xs r e; on = o }
then_by each most ws f l Short e o = absurd (no_lookup l o)

then : (each most : ℕ) (ws : List ℕ) (f : List ℕ → List ℕ → Found) (l : Lookup) → and_then (counted each most ws) f ≡ Is l → Then each most ws f l
then each most ws f l o = then_by each most ws f l (counted each most ws) refl o

record Ends (over : List ℕ) (k l : Lookup) : Type 0 where
  pub none : over ≡ []
  pub same : k ≡ l

ends : (over : List ℕ) (k l : Lookup) → whole_lookup over k ≡ Is l → Ends over k l
ends [] k l e = record { none = refl; same = cc }
ends (x ∷ over) k l e = absurd (no_lookup l e)

-- ---- a body

record Body (kind props : ℕ) (ws : List ℕ) (l : Lookup) : Type 0 where
  pub kinded : kind_of l ≡ kind
  pub flagged : props_of l ≡ props
  pub are : ws ≡ content_of l
  pub within : LookupWithin l

-- said of a lookup that is another
moved : (kind props : ℕ) (ws : List ℕ) (k l : Lookup) → k ≡ l → Body kind props ws k → Body kind props ws l
moved kind props ws k l e b = rw e at b

one_by : (props : ℕ) (ws : List ℕ) (l : Lookup) (t : Bool) → eqb (length ws) 2 ≡ t
    → cond t (Is (Kind1 props (get_or ws 0 0) (get_or ws 1 0))) None ≡ Is l → Body 1 props ws l
one_by props ws l false t e = absurd (no_lookup l e)
one_by props [] l true t e = let z : ⊥ = omega (arith, eqb-true (length {A = ℕ} []) 2 t) in absurd z
one_by props (a ∷ []) l true t e = let z : ⊥ = omega (arith, eqb-true (length (a ∷ [])) 2 t) in absurd z
one_by props (a ∷ b ∷ []) l true t e =
    let s : Kind1 props a b ≡ l = cc in
    moved 1 props (a ∷ b ∷ []) (Kind1 props a b) l s (record { kinded = refl; flagged = refl; are = refl; within = tt })
one_by props (a ∷ b ∷ c ∷ ws) l true t e = let z : ⊥ = omega (arith, eqb-true (length (a ∷ b ∷ c ∷ ws)) 2 t) in absurd z

two : (props : ℕ) (ws : List ℕ) (l : Lookup) → kind2 props ws ≡ Is l → Body 2 props ws l
two props [] l e = absurd (no_lookup l e)
two props (from ∷ ws) l e =
    let t = then 1 most_ids ws _ l e in
    let s = ends t.r _ l t.on in
    let n : t.counts.number ≡ length t.xs = omega (arith, t.counts.long) in
    moved 2 props (from ∷ ws) (Kind2 props from t.xs) l s.same record {
      kinded = refl;
      flagged = refl;
      are = ap (λ (v : List ℕ). from ∷ v) (t.counts.are ∙ rw (n, s.none));
      within = omega (arith, t.counts.few);
    }

three : (props : ℕ) (ws : List ℕ) (l : Lookup) → kind3 props ws ≡ Is l → Body 3 props ws l
three props [] l e = absurd (no_lookup l e)
three props (first ∷ ws) l e =
    let b = then 1 most_side ws _ l e in
    let i = then 1 most_input b.r _ l b.on in
    let a = then 1 most_side i.r _ l i.on in
    let r = then 2 most_records a.r _ l a.on in
    let s = ends r.r _ l r.on in
    let nb : b.counts.number ≡ length b.xs = omega (arith, b.counts.long) in
    let ni : i.counts.number ≡ length i.xs = omega (arith, i.counts.long) in
    let na : a.counts.number ≡ length a.xs = omega (arith, a.counts.long) in
    let nr : length (records_of r.xs) ≡ r.counts.number = records_length r.counts.number r.xs r.counts.long in
    let c : Chain ℕ = record { first = first; backtrack = b.xs; input = i.xs; lookahead = a.xs; records = records_of r.xs } in
    moved 3 props (first ∷ ws) (Kind3 props c) l s.same record {
      kinded = refl;
      flagged = refl;
      are = ap (λ (v : List ℕ). first ∷ v)
          (b.counts.are
          ∙ ap (numbered b.counts.number b.xs)
          (i.counts.are
          ∙ ap (numbered i.counts.number i.xs)
          (a.counts.are
          ∙ ap (numbered a.counts.number a.xs)
          r.counts.are))
          ∙ rw (s.none, nb, ni, na, nr, pairs_back r.counts.number r.xs r.counts.long));
      within = record {
        backtrack = omega (arith, b.counts.few);
        input = omega (arith, i.counts.few);
        lookahead = omega (arith, a.counts.few);
        records = omega (arith, r.counts.few);
      };
    }

body_by : (kind props : ℕ) (ws : List ℕ) (l : Lookup) (s t u : Bool) → eqb kind 1 ≡ s → eqb kind 2 ≡ t → eqb kind 3 ≡ u
    → cond s (kind1 props ws) (cond t (kind2 props ws) (cond u (kind3 props ws) None)) ≡ Is l → Body kind props ws l
body_by kind props ws l true t u a b c e = rw (eqb-true kind 1 a) (one_by props ws l (eqb (length ws) 2) refl e)
body_by kind props ws l false true u a b c e = rw (eqb-true kind 2 b) (two props ws l e)
body_by kind props ws l false false true a b c e = rw (eqb-true kind 3 c) (three props ws l e)
body_by kind props ws l false false false a b c e = absurd (no_lookup l e)

body_only : (kind props : ℕ) (ws : List ℕ) (l : Lookup) → body_of kind props ws ≡ Is l → Body kind props ws l
unfolding body_of
body_only kind props ws l e = body_by kind props ws l (eqb kind 1) (eqb kind 2) (eqb kind 3) refl refl refl e

-- ---- the first lookup

record Heads (ws : List ℕ) (l : Lookup) (rest : List ℕ) : Type 0 where
  pub are : ws ≡ encode l ++ rest
  pub within : LookupWithin l

not_read : (l : Lookup) (rest : List ℕ) → Nothing ≡ Read l rest → ⊥
not_read l rest e = let z : ◌≡◌ {A = ℕ} 0 1 = cc in omega arith

heads_is : (kind low high size : ℕ) (v : List ℕ) (l : Lookup) → low < 65536 → size ≤ length v
    → Body kind (low + 65536 * high) (take size v) l → Heads (kind ∷ low ∷ high ∷ size ∷ v) l (drop size v)
unfolding encode
heads_is kind low high size v l h m b =
    let p : props_of l % 65536 ≡ low = omega (arith, b.flagged) in
    let q : props_of l / 65536 ≡ high = omega (arith, b.flagged) in
    let n : length (content_of l) ≡ size = ap length (sym b.are) ∙ length-take-le size v m in
    record {
      are = rw (b.kinded, p, q, n, ← b.are, take-append-drop size v);
      within = b.within;
    }

heads_found : (kind low high size : ℕ) (v rest : List ℕ) (l : Lookup) (f : Found) → body_of kind (low + 65536 * high) (take size v) ≡ f
    → low < 65536 → size ≤ length v → followed (drop size v) f ≡ Read l rest → Heads (kind ∷ low ∷ high ∷ size ∷ v) l rest
heads_found kind low high size v rest l (Is k) e h m r =
    let s : k ≡ l = cc in
    let d : drop size v ≡ rest = cc in
    rw d at (heads_is kind low high size v l h m (body_only kind (low + 65536 * high) (take size v) l (e ∙ ap Is s)))
heads_found kind low high size v rest l None e h m r = absurd (not_read l rest r)

heads_by : (kind low high size : ℕ) (v rest : List ℕ) (l : Lookup) (b : Bool) → leb size (length v) ≡ b → low < 65536
    → cond b (followed (drop size v) (body_of kind (low + 65536 * high) (take size v))) Nothing ≡ Read l rest
    → Heads (kind ∷ low ∷ high ∷ size ∷ v) l rest
heads_by kind low high size v rest l true e h r =
    heads_found kind low high size v rest l (body_of kind (low + 65536 * high) (take size v)) refl h (leb-true size (length v) e) r
heads_by kind low high size v rest l false e h r = absurd (not_read l rest r)

-- too few words for a head
headless : (ws rest : List ℕ) (l : Lookup) → length ws < 4 → first_lookup_of ws ≡ Read l rest → ⊥
unfolding first_lookup_of
headless ws rest l h e = not_read l rest (rw (lt-leb 4 (length ws) h) at e)

heads : (ws rest : List ℕ) (l : Lookup) → Narrow ws → first_lookup_of ws ≡ Read l rest → Heads ws l rest
unfolding first_lookup_of
heads [] rest l w e = absurd (headless [] rest l (omega arith) e)
heads (a ∷ []) rest l w e = absurd (headless (a ∷ []) rest l (omega arith) e)
heads (a ∷ b ∷ []) rest l w e = absurd (headless (a ∷ b ∷ []) rest l (omega arith) e)
heads (a ∷ b ∷ c ∷ []) rest l w e = absurd (headless (a ∷ b ∷ c ∷ []) rest l (omega arith) e)
heads (kind ∷ low ∷ high ∷ size ∷ v) rest l w e =
    let n : ℕ = suc (suc (suc (suc (length v)))) in
    let a : 4 ≤ suc (suc (suc (suc (length v)))) = omega arith in
    let m : suc (suc (suc (suc (length v)))) - 4 ≡ length v = omega arith in
    let d : 4 + size ≡ suc (suc (suc (suc size))) = omega arith in
    heads_by kind low high size v rest l (leb size (length v)) refl (w 1)
    (rw (le-leb 4 (suc (suc (suc (suc (length v))))) a, m, d) at e)

-- ---- the book

record Lists (ws : List ℕ) (ls : List Lookup) : Type 0 where
  pub are : ws ≡ encode_all ls
  pub within : AllWithin ls

no_lookups : (ls : List Lookup) → Reads [] ≡ Reads ls → ls ≡ []
no_lookups ls e = cc

empty : (ls : List Lookup) → Reads [] ≡ Reads ls → Lists [] ls
unfolding encode_all AllWithin
empty [] e = record { are = refl; within = tt }
empty (l ∷ ls) e = let z : ◌≡◌ {A = ℕ} 0 1 = cc in absurd (omega arith)

lists_more : (ws rest : List ℕ) (l : Lookup) (ks ls : List Lookup) → Heads ws l rest → Lists rest ks → l ∷ ks ≡ ls → Lists ws ls
unfolding encode_all AllWithin
lists_more ws rest l ks ls h t e =
    subst (λ (x : List Lookup). Lists ws x) e (record { are = h.are ∙ ap (λ (v : List ℕ). encode l ++ v) t.are; within = (h.within, t.within) })

rest_narrow : (ws rest : List ℕ) (l : Lookup) → Narrow ws → Heads ws l rest → Narrow rest
rest_narrow ws rest l w h k =
    rw (get_or-append-add (encode l) rest k 0) at (rw h.are at (w (length (encode l) + k)))

module _ (n : ℕ) (again : (ws : List ℕ) (ls : List Lookup) → Narrow ws → read_lookups n ws ≡ Reads ls → Lists ws ls) where
  lists_rest : (ws rest : List ℕ) (l : Lookup) (ls : List Lookup) (r : Reading) → Narrow ws → Heads ws l rest → read_lookups n rest ≡ r
      → read_first l r ≡ Reads ls → Lists ws ls
  lists_rest ws rest l ls (Reads ks) w h e f =
      let s : l ∷ ks ≡ ls = cc in
      lists_more ws rest l ks ls h (again rest ks (rest_narrow ws rest l w h) e) s
  lists_rest ws rest l ls Unreadable w h e f = absurd (no_read ls f)

  lists_first : (ws : List ℕ) (ls : List Lookup) (f : First) → Narrow ws → first_lookup_of ws ≡ f → read_on f (λ rest. read_lookups n rest) ≡ Reads ls
      → Lists ws ls
  lists_first ws ls (Read l rest) w e r = lists_rest ws rest l ls (read_lookups n rest) w (heads ws rest l w e) refl r
  lists_first ws ls Nothing w e r = absurd (no_read ls r)

lists : (n : ℕ) (ws : List ℕ) (ls : List Lookup) → Narrow ws → read_lookups n ws ≡ Reads ls → Lists ws ls
unfolding read_lookups
lists zero [] ls w e = empty ls e
lists zero (x ∷ ws) ls w e = absurd (no_read ls e)
lists (suc n) [] ls w e = empty ls e
lists (suc n) (x ∷ ws) ls w e = lists_first n (λ v ks. lists n v ks) (x ∷ ws) ls (first_lookup_of (x ∷ ws)) w refl e

-- a book that reads is the words of its lookups, which keep the limits
pub reads_only : (ws : List ℕ) (ls : List Lookup) → Narrow ws → read_book ws ≡ Reads ls → (ws ≡ encode_all ls) × Legal ls
reads_only ws ls w e =
    let k = book_reads ws ls e in
    let t = lists most_lookups ws ls w k.reads in
    (t.are, record { each = t.within; few = few_lookups most_lookups ws ls k.reads; short = rw t.are at k.short })

-- so it reads exactly when it is the words of such a list
pub reads_exactly : (ws : List ℕ) (ls : List Lookup) → Narrow ws → (read_book ws ≡ Reads ls) ↔ ((ws ≡ encode_all ls) × Legal ls)
reads_exactly ws ls w = (λ e. reads_only ws ls w e, λ h. ap read_book h.0 ∙ reads_back ls h.1)
