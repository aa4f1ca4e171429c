-- A stored list replayed: each line where the one before it said that the next begins.
use Rattle.std.specs.Prelude.{◌≡◌, ℕ, zero, suc, ◌<◌, ◌≤◌, List}

-- From a tally at a place, in so many turns at most, to the last tally. LineGives says what replaying a line does: the tally before, the words,
-- the line's place, the place of the next, the tally after. Past the list's words and after the last turn nothing is replayed.
abbrev pub ReplayedTo : {T : Type 0} → (T → List ℕ → ℕ → ℕ → T → Type 0) → List ℕ → ℕ → ℕ → T → ℕ → T → Type 0
ReplayedTo LineGives words count zero tally at last = tally ≡ last
ReplayedTo {T} LineGives words count (suc turns) tally at last =
    (count ≤ at → tally ≡ last)
    × (at < count → (after : T) × (next : ℕ) × LineGives tally words at next after × ReplayedTo LineGives words count turns after next last)
