-- Where the code finds a lookup is where the definition reads it: an entry shows the lookup that begins at its place.
use Rattle.std.specs.Prelude.{◌≡◌, Bool, true, false, cond, List, ℕ, ◌+◌, ◌-◌, ◌*◌, ◌≤◌, leb, get_or, take, drop, Option, None, is_some}
use Rattle.std.proofs.Math.Path.{refl}
use Rattle.std.proofs.Common.{sym, ap, ◌∙◌, true≢false, leb-true, length-take-le}
use Rattle.std.proofs.Math.Nat.{add-zero}
use native.Mathlib.Omega.{arith}
use Rattle.std.proofs.Math.ListN.{length, length-drop}
use Rattle.std.proofs.Math.Seq.{drop-drop, get_or-drop}
use Rattle.std.proofs.lemmas.List.{drop-take}
use Rattle.book.specs.declared.Entry.{Entry}
use Rattle.book.specs.Book.{Found, body_of, Nothing, followed, first_lookup_of}
use Rattle.book.specs.Places.{meant, kind_at, up_to, entry_at}
use Rattle.book.specs.Bodies.{kind_at_lem}
use Rattle.book.specs.Inside.{FoundInside, good_kind, good_longer, meant_front}

-- ---- a lookup that begins at a place

-- the place's two tests; where they hold, the words up to the body's end are that many
module _ (ws : List ℕ) (at : ℕ) where
  abbrev size : ℕ
  size = get_or ws (at + 3) 0

  up_to_lem : leb 4 (length ws - at) ≡ true → leb size (length ws - (at + 4)) ≡ true → at + 4 + size ≤ length ws
  up_to_lem e f =
      let h = leb-true 4 (length ws - at) e in
      let k = leb-true size (length ws - (at + 4)) f in
      omega arith

  abbrev kinded : Option Entry
  kinded = kind_at (up_to ws at) (get_or ws at 0) (get_or ws (at + 1) 0 + 65536 * get_or ws (at + 2) 0) (at + 4)

  front : at + 4 + size ≤ length ws → FoundInside (at + 4 + size) kinded
  front h = rw (length-take-le (at + 4 + size) ws h) at
      (good_kind (up_to ws at) (get_or ws at 0) (get_or ws (at + 1) 0 + 65536 * get_or ws (at + 2) 0) (at + 4))

  good_by : (t b : Bool) → leb 4 (length ws - at) ≡ t → leb size (length ws - (at + 4)) ≡ b
      → FoundInside (length ws) (cond t (cond b kinded None) None)
  good_by true true p q = good_longer (at + 4 + size) (length ws) kinded (up_to_lem p q) (front (up_to_lem p q))
  good_by true false p q = tt
  good_by false b p q = tt

  -- the parts of an entry lie within the words
  pub entry_inside : FoundInside (length ws) (entry_at ws at)
  unfolding entry_at
  entry_inside = good_by (leb 4 (length ws - at)) (leb size (length ws - (at + 4))) refl refl

  fits_by : (t b : Bool) → leb 4 (length ws - at) ≡ t → leb size (length ws - (at + 4)) ≡ b
      → is_some (cond t (cond b kinded None) None) ≡ true → at + 4 + size ≤ length ws
  fits_by true true p q m = up_to_lem p q
  fits_by true false p q m = absurd (true≢false (sym m))
  fits_by false b p q m = absurd (true≢false (sym m))

  -- a lookup's head and body lie within them
  pub entry_fits : is_some (entry_at ws at) ≡ true → at + 4 + size ≤ length ws
  unfolding entry_at
  entry_fits m = fits_by (leb 4 (length ws - at)) (leb size (length ws - (at + 4))) refl refl m

  abbrev body : Found
  body = body_of (get_or ws at 0) (get_or ws (at + 1) 0 + 65536 * get_or ws (at + 2) 0) (take size (drop (at + 4) ws))

  body_is : at + 4 + size ≤ length ws → body ≡ meant ws kinded
  body_is h =
      ap (body_of (get_or ws at 0) (get_or ws (at + 1) 0 + 65536 * get_or ws (at + 2) 0)) (sym (drop-take (at + 4) size ws))
      ∙ kind_at_lem (up_to ws at) (get_or ws at 0) (get_or ws (at + 1) 0 + 65536 * get_or ws (at + 2) 0) (at + 4)
      ∙ meant_front ws (at + 4 + size) kinded (front h)

  abbrev rest : List ℕ
  rest = drop (at + 4 + size) ws

  first_by : (t b : Bool) → leb 4 (length ws - at) ≡ t → leb size (length ws - (at + 4)) ≡ b
      → cond t (cond b (followed rest body) Nothing) Nothing ≡ followed rest (meant ws (cond t (cond b kinded None) None))
  first_by true true p q = ap (followed rest) (body_is (up_to_lem p q))
  first_by true false p q = refl
  first_by false b p q = refl

  -- what the definition reads from a place on is what the code finds there
  pub first_at : first_lookup_of (drop at ws) ≡ followed rest (meant ws (entry_at ws at))
  unfolding first_lookup_of entry_at
  first_at =
      let e : length ws - at - 4 ≡ length ws - (at + 4) = omega arith in
      let f : at + (4 + size) ≡ at + 4 + size = omega arith in
      rw (
        get_or-drop at ws 0 0,
        get_or-drop at ws 1 0,
        get_or-drop at ws 2 0,
        get_or-drop at ws 3 0,
        length-drop at ws,
        add-zero at,
        drop-drop (4 + size) at ws,
        drop-drop 4 at ws,
        e,
        f,
      )
      (first_by (leb 4 (length ws - at)) (leb size (length ws - (at + 4))) refl refl)
