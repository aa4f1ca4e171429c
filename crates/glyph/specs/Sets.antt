-- Mark sets: words that are pairs (set, glyph) in a row (01, "A glyph in four words"; OpenType, chapter GDEF, mark glyph sets).
use Rattle.std.specs.Prelude.{ℕ, ◌%◌, List, [], ◌∷◌, Bool, false, not, ◌&&◌, ◌||◌, eqb, length}

-- the pair (s, g) is one of the pairs; a lone last word is no pair
unfoldable pub in_set : List ℕ → ℕ → ℕ → Bool
in_set [] s g = false
in_set (a ∷ []) s g = false
in_set (a ∷ b ∷ rest) s g = (eqb a s && eqb b g) || in_set rest s g

-- refusal 1: odd mark sets
abbrev pub odd_sets : List ℕ → Bool
odd_sets sets = not (eqb (length sets % 2) 0)
