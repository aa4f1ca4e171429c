-- The parts that the code finds lie within the words and keep the limits, so that the words up to their end show the same.
use Rattle.std.specs.Prelude.{◌≡◌, refl, Bool, true, false, cond, List, ℕ, ◌+◌, ◌-◌, ◌*◌, ◌≤◌, eqb, leb, ltb, length, take}
use Rattle.std.specs.Prelude.{Option, Some, None, IfSome}
use Rattle.std.proofs.Common.{mul-le-mul_left, arith, ltb-true, leb-true, take-take, length-take, length-drop}
use Rattle.std.proofs.Math.ListN.{get_or}
use Rattle.std.proofs.lemmas.List.{drop-take}
use Rattle.book.specs.declared.Part.{Part}
use Rattle.book.specs.declared.ChainParts.{ChainParts}
use Rattle.book.specs.declared.Entry.{Entry}
use Rattle.book.specs.Book.{most_ids, most_input, most_side, most_records}
use Rattle.book.specs.Places.{part_of, meant, counted_at, part_then, one_at, many_at, chain_at, kind_at}

-- ---- parts within the words

-- a part of at most `most` words among n
pub record PartInside (n most : ℕ) (p : Part) : Type 0 where
  pub ordered : p.from ≤ p.to
  pub within : p.to ≤ n
  pub few : p.to ≤ p.from + most

pub record GoodChain (n : ℕ) (c : ChainParts) : Type 0 where
  pub backtrack : PartInside n most_side c.backtrack
  pub input : PartInside n most_input c.input
  pub lookahead : PartInside n most_side c.lookahead
  pub records : PartInside n (2 * most_records) c.records

abbrev pub EntryInside : ℕ → Entry → Type 0
EntryInside n (Entry.One props from to) = Unit {0}
EntryInside n (Entry.Many props from ids) = PartInside n most_ids ids
EntryInside n (Entry.Chain props parts) = GoodChain n parts

abbrev pub FoundInside : ℕ → Option Entry → Type 0
FoundInside n o = IfSome o (EntryInside n)

abbrev Held : ℕ → ℕ → Option Part → Type 0
Held n most o = IfSome o (PartInside n most)

held_by : (n x v each most : ℕ) (t b c : Bool) → ltb x n ≡ t → leb v most ≡ b → leb (each * v) (n - (x + 1)) ≡ c
    → Held n (each * most) (cond t
    (cond b (cond c (Some (record { from = x + 1; to = x + 1 + each * v })) None) None) None)
held_by n x v each most true true true e f g =
    let h = ltb-true x n e in
    let k = leb-true (each * v) (n - (x + 1)) g in
    let m : each * v ≤ each * most = mul-le-mul_left each (leb-true v most f) in
    record { ordered = omega arith; within = omega arith; few = omega arith }
held_by n x v each most true true false e f g = tt
held_by n x v each most true false c e f g = tt
held_by n x v each most false b c e f g = tt

held : (w : List ℕ) (x each most : ℕ) → Held (length w) (each * most) (counted_at w x each most)
unfolding counted_at
held w x each most =
    held_by (length w) x (get_or w x 0) each most (ltb x (length w)) (leb (get_or w x 0) most)
    (leb (each * get_or w x 0) (length w - (x + 1))) refl refl refl

good_then : (n most : ℕ) (g : Part → Option Entry) → ((p : Part) → PartInside n most p → FoundInside n (g p)) → (r : Option Part) → Held n most r
    → FoundInside n (part_then r g)
good_then n most g h (Some p) i = h p i
good_then n most g h None i = tt

good_cond : (n : ℕ) (t : Bool) (e f : Option Entry) → FoundInside n e → FoundInside n f → FoundInside n (cond t e f)
good_cond n true e f p q = p
good_cond n false e f p q = q

module _ (w : List ℕ) where
  abbrev n : ℕ
  n = length w

  good_one : (props a : ℕ) → FoundInside n (one_at w props a)
  unfolding one_at
  good_one props a = good_cond n (eqb (n - a) 2) (Some (Entry.One props (get_or w a 0) (get_or w (a + 1) 0))) None tt tt

  good_many : (props a : ℕ) → FoundInside n (many_at w props a)
  unfolding many_at
  good_many props a =
      good_cond n (ltb a n) _ None
      (good_then n most_ids _ (λ ids i. good_cond n (leb n ids.to) (Some (Entry.Many props (get_or w a 0) ids)) None i tt)
      (counted_at w (a + 1) 1 most_ids) (held w (a + 1) 1 most_ids))
      tt

  good_chain : (props a : ℕ) → FoundInside n (chain_at w props a)
  unfolding chain_at
  good_chain props a =
      good_cond n (ltb a n) _ None
      (good_then n most_side _
      (λ back b.
      good_then n most_input _
      (λ input i.
      good_then n most_side _
      (λ ahead l.
      good_then n (2 * most_records) _
      (λ records r.
      good_cond n (leb n records.to)
      (Some (Entry.Chain props (record { first = get_or w a 0; backtrack = back; input = input; lookahead = ahead; records = records })))
      None (record { backtrack = b; input = i; lookahead = l; records = r }) tt)
      (counted_at w ahead.to 2 most_records) (held w ahead.to 2 most_records))
      (counted_at w input.to 1 most_side) (held w input.to 1 most_side))
      (counted_at w back.to 1 most_input) (held w back.to 1 most_input))
      (counted_at w (a + 1) 1 most_side) (held w (a + 1) 1 most_side))
      tt

  pub good_kind : (kind props a : ℕ) → FoundInside n (kind_at w kind props a)
  unfolding kind_at
  good_kind kind props a =
      good_cond n (eqb kind 1) _ _ (good_one props a)
      (good_cond n (eqb kind 2) _ _ (good_many props a) (good_cond n (eqb kind 3) _ None (good_chain props a) tt))

longer : (k n most : ℕ) (p : Part) → k ≤ n → PartInside k most p → PartInside n most p
longer k n most p h i = record { ordered = i.ordered; within = omega (arith, i.within); few = i.few }

pub good_longer : (k n : ℕ) (e : Option Entry) → k ≤ n → FoundInside k e → FoundInside n e
good_longer k n (Some (Entry.One props from to)) h g = tt
good_longer k n (Some (Entry.Many props from ids)) h g = longer k n most_ids ids h g
good_longer k n (Some (Entry.Chain props c)) h g = record {
  backtrack = longer k n most_side c.backtrack h g.backtrack;
  input = longer k n most_input c.input h g.input;
  lookahead = longer k n most_side c.lookahead h g.lookahead;
  records = longer k n (2 * most_records) c.records h g.records;
}
good_longer k n None h g = tt

-- a part has no more words than it may
pub part_few : (ws : List ℕ) (n most : ℕ) (p : Part) → PartInside n most p → length (part_of ws p) ≤ most
part_few ws n most p i = simp (length-take, length-drop) (omega (arith, i.few))

-- ---- the words up to the end of a part show the part

part_front : (ws : List ℕ) (k : ℕ) (most : ℕ) (p : Part) → PartInside k most p → part_of (take k ws) p ≡ part_of ws p
part_front ws k most p i =
    let e : p.from + (p.to - p.from) ≡ p.to = omega (arith, i.ordered) in
    rw (← drop-take p.from (p.to - p.from) (take k ws), ← drop-take p.from (p.to - p.from) ws, e, take-take p.to k ws i.within)

pub meant_front : (ws : List ℕ) (k : ℕ) (e : Option Entry) → FoundInside k e → meant (take k ws) e ≡ meant ws e
meant_front ws k (Some (Entry.One props from to)) g = refl
meant_front ws k (Some (Entry.Many props from ids)) g = rw (part_front ws k most_ids ids g)
meant_front ws k (Some (Entry.Chain props c)) g =
    rw (
      part_front ws k most_side c.backtrack g.backtrack,
      part_front ws k most_input c.input g.input,
      part_front ws k most_side c.lookahead g.lookahead,
      part_front ws k (2 * most_records) c.records g.records,
    )
meant_front ws k None g = refl
