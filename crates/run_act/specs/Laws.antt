-- Laws of kinds 1 and 2 in code: the glyph that is read in the coming row is the one at the text's cursor, and what is written there is the deed's.
use Rattle.std.specs.Prelude.{◌≡◌, refl, true, false, List, [], ◌∷◌, ℕ, ◌≤◌, ◌<◌, eqb, length, get_or}
use Rattle.std.proofs.Common.{sym, ap, ◌∙◌, arith, eq-eqb, ne_eqb}
use Rattle.glyph.specs.declared.Glyph.{Glyph}
use Rattle.glyph.specs.Glyph.{limit, glyphs_of, blank}
use Rattle.text.specs.declared.Place.{Place}
use Rattle.text.specs.Text.{text_of, size_of, replaced, is_full, Fits, Holds}
use Rattle.text.specs.Changes.{size_is, at_cursor, room_for}
use Rattle.text.specs.Laws.{sizes}
use Rattle.run.specs.declared.Ending.TheVariants.{Full}
use Rattle.run.specs.Run.{size, changed}
use Rattle.run.specs.Deeds.{is_at}
use Rattle.run_step.specs.declared.State.{State}
use Rattle.run_step.specs.State.{run_of, Ran, parted_at, ended_as}
use Rattle.run_act.specs.Acts.{one_on, many_on}

-- ids of a lookup are fewer than a row's glyphs
pub limit_most : 64 ≤ limit
unfolding limit
limit_most = omega arith

module _ (done coming : List ℕ) (s : State) (f : Fits done coming s.place) (g : Glyph) (is : g ≡ get_or (glyphs_of coming) s.place.idx blank)
    (from : ℕ) where
  -- the glyph that was read is the cursor's
  cursor_is : is_at from (text_of done coming s.place) ≡ eqb g.id from
  cursor_is = ap (λ (x : Glyph). eqb x.id from) (at_cursor f ∙ sym is)

  pub inside : s.place.idx < limit → s.place.d < length (text_of done coming s.place).glyphs
  inside h = let z = sizes done coming s.place f in omega arith

  same : Ran done coming s (run_of done coming s)
  same = record { fits = f; is = refl }

  pub one_off : (to : ℕ) → (g.id ≡ from → ⊥) → Ran done coming s (one_on from to (run_of done coming s))
  one_off to n = rw (cursor_is, ne_eqb g.id from n) same

  pub one_on_lem : (to : ℕ) (done' : List ℕ) (place : Place) → g.id ≡ from → Holds done' coming place
      (replaced (to ∷ []) (text_of done coming s.place))
      → Ran done' coming (parted_at place s) (one_on from to (run_of done coming s))
  one_on_lem to done' place e h =
      rw (cursor_is, eq-eqb g.id from e) (record { fits = h.fits; is = λ j. changed (λ t. h.text j) (run_of done coming s) })

  module _ (ids : List ℕ) where
    pub many_off : (g.id ≡ from → ⊥) → Ran done coming s (many_on from ids (run_of done coming s))
    many_off n = rw (cursor_is, ne_eqb g.id from n) same

    full_is : is_full (size (run_of done coming s)) (length ids) ≡ is_full (size_of s.place) (length ids)
    full_is = ap (λ (n : ℕ). is_full n (length ids)) (size_is f)

    pub many_full : g.id ≡ from → is_full (size_of s.place) (length ids) ≡ true
        → Ran done coming (ended_as Full s) (many_on from ids (run_of done coming s))
    many_full e o = rw (cursor_is, eq-eqb g.id from e, full_is, o) (record { fits = f; is = refl })

    pub many_on_lem : (done' : List ℕ) (place : Place) → g.id ≡ from → is_full (size_of s.place) (length ids) ≡ false
        → Holds done' coming place (replaced ids (text_of done coming s.place))
        → Ran done' coming (parted_at place s) (many_on from ids (run_of done coming s))
    many_on_lem done' place e o h =
        rw (cursor_is, eq-eqb g.id from e, full_is, o)
        (record { fits = h.fits; is = λ j. changed (λ t. h.text j) (run_of done coming s) })

-- room for what is written
pub ruleset rooms = (inside, room_for)
