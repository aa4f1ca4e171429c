-- What the places of an accepted match keep to: as many as values, rising inside the row (backward: falling), and the end after the last.
use Rattle.std.specs.Prelude.{ℕ, suc, ◌+◌, ◌≤◌, ◌<◌, ◌≡◌, refl, List, [], ◌∷◌, Bool, length}
use Rattle.std.proofs.Common.{ap}
use native.Mathlib.Omega.{arith}
use Rattle.verdict.specs.declared.Verdict.{Verdict}
use Rattle.matching.specs.Take.{Way, ahead, behind, reached}
use Rattle.matching.specs.Demand2.{Accepts, no_value, more}

-- from p on, and before len
abbrev pub Rising : ℕ → ℕ → List ℕ → Type 0
Rising p len [] = Unit {0}
Rising p len (q ∷ qs) = (p ≤ q) × (q < len) × Rising (q + 1) len qs

-- before p
abbrev pub Falling : ℕ → List ℕ → Type 0
Falling p [] = Unit {0}
Falling p (q ∷ qs) = (q < p) × Falling q qs

module _ {X : Type 0} {v : X → ℕ → Verdict} {ok : ℕ → Bool} where
  pub as_many : {way : Way} {p : ℕ} {values : List X} {places : List ℕ} → Accepts way v ok p values places → length places ≡ length values
  as_many no_value = refl
  as_many (more t k a) = ap suc (as_many a)

  pub places_rise : {len p : ℕ} {values : List X} {places : List ℕ} → Accepts (ahead len) v ok p values places → Rising p len places
  places_rise no_value = tt
  places_rise (more t k a) = (t.later, t.inside, places_rise a)

  pub places_fall : {p : ℕ} {values : List X} {places : List ℕ} → Accepts behind v ok p values places → Falling p places
  places_fall no_value = tt
  places_fall (more t k a) = (t.earlier, places_fall a)

  -- the end is in the row, and not before where matching began
  pub end_inside : {len p : ℕ} {values : List X} {places : List ℕ} → p ≤ len → Accepts (ahead len) v ok p values places
      → (p ≤ reached (ahead len) p places) × (reached (ahead len) p places ≤ len)
  unfolding reached
  end_inside h no_value = (omega arith, h)
  end_inside h (more t k a) =
      let l = t.later in
      let i = t.inside in
      let e = end_inside (omega arith) a in
      (omega arith, e.1)
