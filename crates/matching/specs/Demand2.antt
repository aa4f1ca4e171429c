-- Demand 2: which matches are accepted, for any judge of a value and a place and any rule on places (01, port order 5 and "Nailing an answer down").
-- Accepted exactly when there are places, rising from where matching begins (backward: falling), such that each matches its value, each
-- place between is passed over for the value then due, and the rule lets each. They are the answer's, and no others are such.
-- Else the answer is 4 with the extent of the walk that failed, or 5 where the rule turned a place down.
-- What it means that a walk finds a place, is stopped or runs out, and its extent: walk's `Means`.
use Rattle.std.specs.Prelude.{ℕ, ◌≡◌, List, [], ◌∷◌, Bool, true, false, ◌↔◌, ◌⊎◌}
use Rattle.verdict.specs.declared.Verdict.{Verdict}
use Rattle.walk.specs.Means.{Finds, Stops, RunsOut, FindsBack, StopsBack, RunsOutBack}
use Rattle.matching.specs.Take.{Way, ahead, behind, past, taken, lost, unlike, takes}

-- from p on, q is the first place that isn't passed over, and it matches
abbrev pub Takes : Way → (ℕ → Verdict) → ℕ → ℕ → Type 0
Takes (ahead len) v p q = Finds v len p q
Takes behind v p q = FindsBack v p q

-- from p on, a place that doesn't match stops the walk, or every place is passed over; with the walk's extent
abbrev pub Fails : Way → (ℕ → Verdict) → ℕ → ℕ → Type 0
Fails (ahead len) v p extent = Stops v len p extent ⊎ RunsOut v len p extent
Fails behind v p extent = StopsBack v p extent ⊎ RunsOutBack v p extent

-- from p on, the values take the places
pub data Accepts {X : Type 0} (way : Way) (v : X → ℕ → Verdict) (ok : ℕ → Bool) : ℕ → List X → List ℕ → Type 0 where
  no_value : {p : ℕ} → Accepts way v ok p [] []
  more : {p : ℕ} {x : X} {q : ℕ} {xs : List X} {qs : List ℕ} → Takes way (v x) p q → ok q ≡ true → Accepts way v ok (past way q) xs qs
      → Accepts way v ok p (x ∷ xs) (q ∷ qs)

-- the first of the values take places, and the walk for the next fails with this extent: refusal 4
pub data Loses {X : Type 0} (way : Way) (v : X → ℕ → Verdict) (ok : ℕ → Bool) : ℕ → List X → ℕ → Type 0 where
  fails : {p : ℕ} {x : X} {extent : ℕ} {xs : List X} → Fails way (v x) p extent → Loses way v ok p (x ∷ xs) extent
  fails_later : {p : ℕ} {x : X} {q extent : ℕ} {xs : List X} → Takes way (v x) p q → ok q ≡ true → Loses way v ok (past way q) xs extent
      → Loses way v ok p (x ∷ xs) extent

-- the first of the values take places, and the rule turns the next one's down: refusal 5
pub data TurnsDown {X : Type 0} (way : Way) (v : X → ℕ → Verdict) (ok : ℕ → Bool) : ℕ → List X → Type 0 where
  turned : {p : ℕ} {x : X} {q : ℕ} {xs : List X} → Takes way (v x) p q → ok q ≡ false → TurnsDown way v ok p (x ∷ xs)
  turned_later : {p : ℕ} {x : X} {q : ℕ} {xs : List X} → Takes way (v x) p q → ok q ≡ true → TurnsDown way v ok (past way q) xs
      → TurnsDown way v ok p (x ∷ xs)

-- each answer is given exactly when it is due, and only one place list is due
pub record Demand2 {X : Type 0} (way : Way) (v : X → ℕ → Verdict) (ok : ℕ → Bool) (p : ℕ) (values : List X) : Type 0 where
  pub accepted : (places : List ℕ) → (takes way v ok p values ≡ taken places) ↔ Accepts way v ok p values places
  pub no_others : (places others : List ℕ) → Accepts way v ok p values places → Accepts way v ok p values others → places ≡ others
  pub refused4 : (extent : ℕ) → (takes way v ok p values ≡ lost extent) ↔ Loses way v ok p values extent
  pub refused5 : (takes way v ok p values ≡ unlike) ↔ TurnsDown way v ok p values
