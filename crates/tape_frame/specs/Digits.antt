-- Hexadecimal digits of either case, and the bytes that a line of them spells, two digits each (01, "The bench tape").
use Rattle.std.specs.Prelude.{ℕ, ◌+◌, ◌-◌, ◌*◌, List, [], ◌∷◌, Bool, true, false, cond, ◌&&◌, ltb}

-- what no digit stands for
abbrev pub no_digit : ℕ
no_digit = 16

-- 0 to 9 are the bytes 48 to 57, A to F 65 to 70, a to f 97 to 102
unfoldable pub digit : ℕ → ℕ
digit b =
    cond (ltb b 48) no_digit
    (cond (ltb b 58) (b - 48)
    (cond (ltb b 65) no_digit
    (cond (ltb b 71) (b - 55)
    (cond (ltb b 97) no_digit
    (cond (ltb b 103) (b - 87) no_digit)))))

abbrev pub is_digit : ℕ → Bool
is_digit b = ltb (digit b) no_digit

-- digits and nothing else, and a pair for each byte
unfoldable pub spells : List ℕ → Bool
spells [] = true
spells (a ∷ []) = false
spells (a ∷ b ∷ rest) = (is_digit a && is_digit b) && spells rest

-- the bytes that pairs of digits spell
unfoldable pub bytes_of : List ℕ → List ℕ
bytes_of [] = []
bytes_of (a ∷ []) = []
bytes_of (a ∷ b ∷ rest) = (digit a * 16 + digit b) ∷ bytes_of rest
