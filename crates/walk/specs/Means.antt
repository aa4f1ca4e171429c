-- What each answer of a walk means, for any judge of places: which place decided, and that every place between is passed over (01, port order 4).
use Rattle.std.specs.Prelude.{ℕ, ◌+◌, ◌-◌, ◌≤◌, ◌<◌, max, ◌≡◌}
use Rattle.verdict.specs.declared.Verdict.{Verdict}
use Rattle.verdict.specs.declared.Verdict.TheVariants.{Match, NotMatch, Skip}
use Rattle.walk.specs.declared.Walked.{Walked}
use Rattle.walk.specs.declared.Walked.TheVariants.{Found, Stopped, RanOut}

-- every place from a on and before b is passed over
abbrev pub Passed : (ℕ → Verdict) → ℕ → ℕ → Type 0
Passed v a b = (k : ℕ) → a ≤ k → k < b → v k ≡ Skip

-- ---- forward, `next` being the next place to test

-- q matches
pub record Finds (v : ℕ → Verdict) (len next q : ℕ) : Type 0 where
  pub later : next ≤ q
  pub inside : q < len
  pub between : Passed v next q
  pub matches : v q ≡ Match

-- a place stops the walk, and the extent is one more
pub record Stops (v : ℕ → Verdict) (len next extent : ℕ) : Type 0 where
  pub place : ℕ
  pub later : next ≤ place
  pub inside : place < len
  pub between : Passed v next place
  pub differs : v place ≡ NotMatch
  pub counts : extent ≡ place + 1

-- every place to the end is passed over; the extent is one past the last place reached
pub record RunsOut (v : ℕ → Verdict) (len next extent : ℕ) : Type 0 where
  pub all : Passed v next len
  pub counts : extent ≡ max next len

abbrev pub Means : (ℕ → Verdict) → ℕ → ℕ → Walked → Type 0
Means v len next (Found q) = Finds v len next q
Means v len next (Stopped extent) = Stops v len next extent
Means v len next (RanOut extent) = RunsOut v len next extent

-- ---- backward from a place

pub record FindsBack (v : ℕ → Verdict) (place q : ℕ) : Type 0 where
  pub earlier : q < place
  pub between : Passed v (q + 1) place
  pub matches : v q ≡ Match

pub record StopsBack (v : ℕ → Verdict) (place extent : ℕ) : Type 0 where
  pub stop : ℕ
  pub earlier : stop < place
  pub between : Passed v (stop + 1) place
  pub differs : v stop ≡ NotMatch
  pub counts : extent ≡ max stop 1 - 1

pub record RunsOutBack (v : ℕ → Verdict) (place extent : ℕ) : Type 0 where
  pub all : Passed v 0 place
  pub counts : extent ≡ 0

abbrev pub MeansBack : (ℕ → Verdict) → ℕ → Walked → Type 0
MeansBack v place (Found q) = FindsBack v place q
MeansBack v place (Stopped extent) = StopsBack v place extent
MeansBack v place (RanOut extent) = RunsOutBack v place extent
