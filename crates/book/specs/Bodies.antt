-- A body that the code finds part by part is the body that the definition reads: each part is what the definition takes, and the next begins where it
-- ends.
use Rattle.std.specs.Prelude.{◌≡◌, refl, Bool, true, false, cond, List, [], ◌∷◌, ℕ, ◌+◌, ◌-◌, ◌*◌, ◌<◌, eqb, leb, ltb, length, get_or, take, drop}
use Rattle.std.specs.Prelude.{Option, Some, None}
use Rattle.std.proofs.Common.{sym, ap, ◌∙◌, add-zero, add-one, arith, ltb-true, ltb-false, leb-true, leb-false, length-drop, drop_of_length-le}
use Rattle.std.proofs.Common.{drop-cons, drop-drop, get_or-drop}
use Rattle.book.specs.declared.Part.{Part}
use Rattle.book.specs.declared.ChainParts.{ChainParts}
use Rattle.book.specs.declared.Entry.{Entry}
use Rattle.book.specs.Book.{most_ids, most_input, most_side, most_records, Kind1, Kind2, Found, Is}
use Rattle.book.specs.Book.{Split, Taken, Short, counted, and_then, whole_lookup, kind1, kind2, kind3, body_of}
use Rattle.book.specs.Places.{part_of, lookup_by, meant, counted_at, part_then, whole_at, one_at, many_at, chain_at, kind_at}

-- ---- entries after their number

-- what a part found says
abbrev split_by : List ℕ → Option Part → Split
split_by w (Some p) = Taken (part_of w p) (drop p.to w)
split_by w None = Short

both : (w : List ℕ) (p : Part) (s : Split) (b c : Bool) → s ≡ Taken (part_of w p) (drop p.to w)
    → cond b (cond c s Short) Short ≡ split_by w (cond b (cond c (Some p) None) None)
both w p s true true e = e
both w p s true false e = refl
both w p s false c e = refl

counted_by : (w : List ℕ) (x each most : ℕ) (t : Bool) → ltb x (length w) ≡ t → counted each most (drop x w) ≡ split_by w (counted_at w x each most)
unfolding counted counted_at
counted_by w x each most true e =
    let n : ℕ = get_or w x 0 in
    let h : x < length w = ltb-true x (length w) e in
    let s : x + 1 + each * get_or w x 0 - (x + 1) ≡ each * get_or w x 0 = omega arith in
    let d : drop x w ≡ get_or w x 0 ∷ drop (x + 1) w = drop-cons w x 0 h ∙ ap (λ (k : ℕ). get_or w x 0 ∷ drop k w) (sym (add-one x)) in
    ap (counted each most) d
    ∙ rw (e, length-drop (x + 1) w)
    (both w (record { from = x + 1; to = x + 1 + each * get_or w x 0 })
    (Taken (take (each * get_or w x 0) (drop (x + 1) w)) (drop (each * get_or w x 0) (drop (x + 1) w)))
    (leb (get_or w x 0) most) (leb (each * get_or w x 0) (length w - (x + 1)))
    (rw (s, drop-drop (each * get_or w x 0) (x + 1) w)))
counted_by w x each most false e =
    ap (counted each most) (drop_of_length-le w {i = x} (ltb-false x (length w) e)) ∙ rw e

pub counted_at_lem : (w : List ℕ) (x each most : ℕ) → counted each most (drop x w) ≡ split_by w (counted_at w x each most)
counted_at_lem w x each most = counted_by w x each most (ltb x (length w)) refl

module _ (w : List ℕ) (f : List ℕ → List ℕ → Found) (g : Part → Option Entry) (h : (p : Part) → f (part_of w p) (drop p.to w) ≡ meant w (g p)) where
  then_by : (r : Option Part) → and_then (split_by w r) f ≡ meant w (part_then r g)
  then_by (Some p) = h p
  then_by None = refl

  -- what follows goes on where the part ends
  then_at : (x each most : ℕ) → and_then (counted each most (drop x w)) f ≡ meant w (part_then (counted_at w x each most) g)
  then_at x each most = ap (λ (s : Split). and_then s f) (counted_at_lem w x each most) ∙ then_by (counted_at w x each most)

whole_by : (w : List ℕ) (x : ℕ) (e : Entry) (t : Bool) → leb (length w) x ≡ t → whole_lookup (drop x w) (lookup_by w e) ≡ meant w (whole_at w x e)
whole_by w x e true t = rw (t, drop_of_length-le w {i = x} (leb-true (length w) x t))
whole_by w x e false t = rw (t, drop-cons w x 0 (leb-false (length w) x t))

whole_at_lem : (w : List ℕ) (x : ℕ) (e : Entry) → whole_lookup (drop x w) (lookup_by w e) ≡ meant w (whole_at w x e)
whole_at_lem w x e = whole_by w x e (leb (length w) x) refl

-- ---- a body, by its kind

pick : (w : List ℕ) (t : Bool) (x y : Found) (e f : Option Entry) → x ≡ meant w e → y ≡ meant w f → cond t x y ≡ meant w (cond t e f)
pick w true x y e f p q = p
pick w false x y e f p q = q

one_at_lem : (w : List ℕ) (props a : ℕ) → kind1 props (drop a w) ≡ meant w (one_at w props a)
unfolding one_at
one_at_lem w props a =
    rw (length-drop a w, get_or-drop a w 0 0, get_or-drop a w 1 0, add-zero a)
    (pick w (eqb (length w - a) 2) (Is (Kind1 props (get_or w a 0) (get_or w (a + 1) 0))) Found.None
    (Some (Entry.One props (get_or w a 0) (get_or w (a + 1) 0))) None refl refl)

-- from a on: its first word and the words after it
cons-at : (w : List ℕ) (a : ℕ) → ltb a (length w) ≡ true → drop a w ≡ get_or w a 0 ∷ drop (a + 1) w
cons-at w a e = drop-cons w a 0 (ltb-true a (length w) e) ∙ ap (λ (k : ℕ). get_or w a 0 ∷ drop k w) (sym (add-one a))

nil-at : (w : List ℕ) (a : ℕ) → ltb a (length w) ≡ false → drop a w ≡ []
nil-at w a e = drop_of_length-le w {i = a} (ltb-false a (length w) e)

many_by : (w : List ℕ) (props a : ℕ) (t : Bool) → ltb a (length w) ≡ t → kind2 props (drop a w) ≡ meant w (many_at w props a)
unfolding many_at
many_by w props a true e =
    ap (kind2 props) (cons-at w a e)
    ∙ rw e
    (then_at w (λ ids over. whole_lookup over (Kind2 props (get_or w a 0) ids))
    (λ ids. whole_at w ids.to (Entry.Many props (get_or w a 0) ids))
    (λ p. whole_at_lem w p.to (Entry.Many props (get_or w a 0) p)) (a + 1) 1 most_ids)
many_by w props a false e = ap (kind2 props) (nil-at w a e) ∙ rw e

chain_by_lem : (w : List ℕ) (props a : ℕ) (t : Bool) → ltb a (length w) ≡ t → kind3 props (drop a w) ≡ meant w (chain_at w props a)
unfolding chain_at
chain_by_lem w props a true e =
    ap (kind3 props) (cons-at w a e)
    ∙ rw e
    (then_at w _ _
    (λ back.
    then_at w _ _
    (λ input.
    then_at w _ _
    (λ ahead.
    then_at w _ _
    (λ records.
    let c : ChainParts = record { first = get_or w a 0; backtrack = back; input = input; lookahead = ahead; records = records } in
    whole_at_lem w records.to (Entry.Chain props c))
    ahead.to 2 most_records)
    input.to 1 most_side)
    back.to 1 most_input)
    (a + 1) 1 most_side)
chain_by_lem w props a false e = ap (kind3 props) (nil-at w a e) ∙ rw e

pub kind_at_lem : (w : List ℕ) (kind props a : ℕ) → body_of kind props (drop a w) ≡ meant w (kind_at w kind props a)
unfolding body_of kind_at
kind_at_lem w kind props a =
    pick w (eqb kind 1) _ _ _ _ (one_at_lem w props a)
    (pick w (eqb kind 2) _ _ _ _ (many_by w props a (ltb a (length w)) refl)
    (pick w (eqb kind 3) _ _ _ _ (chain_by_lem w props a (ltb a (length w)) refl) refl))
