-- Records two words at a time: what a loop over them reads, and that the words of records are read back.
use Rattle.std.specs.Prelude.{◌≡◌, refl, List, [], ◌∷◌, ℕ, zero, suc, ◌+◌, ◌*◌, ◌≤◌, ◌<◌, length, get_or, drop}
use Rattle.std.proofs.Common.{ap, ◌∙◌, ⊎_elim, eq-or-lt_of_le, add-one, arith, drop_of_length-le, drop-cons}
use Rattle.std.proofs.Math.Numerals.{add-two}
use Rattle.book.specs.Book.{Record, records_of}
use Rattle.book.specs.Encode.{pairs_of}

-- one record on: what a loop's turn does
pub records_step : (ws : List ℕ) (i : ℕ) → i + 1 < length ws
    → records_of (drop i ws) ≡ record { seq = get_or ws i 0; lookup = get_or ws (i + 1) 0 } ∷ records_of (drop (i + 2) ws)
unfolding records_of
records_step ws i h =
    rw (add-one, add-two)
    (ap records_of
    (drop-cons ws i 0 (omega arith) ∙ ap (λ (l : List ℕ). get_or ws i 0 ∷ l) (drop-cons ws (suc i) 0 (omega arith))))

-- at the end, and at a lone last word
pub records_end : (ws : List ℕ) (i : ℕ) → length ws ≤ i + 1 → records_of (drop i ws) ≡ []
unfolding records_of
records_end ws i h =
    ⊎_elim
    (λ e.
    ap records_of
    (drop-cons ws i 0 (omega arith) ∙ ap (λ (l : List ℕ). get_or ws i 0 ∷ l) (drop_of_length-le ws {i = suc i} (omega arith))))
    (λ l. ap records_of (drop_of_length-le ws {i = i} (omega arith)))
    (eq-or-lt_of_le h)

-- as many as there are pairs
pub records_length : (n : ℕ) (ws : List ℕ) → length ws ≡ 2 * n → length (records_of ws) ≡ n
unfolding records_of
records_length zero [] e = refl
records_length zero (x ∷ ws) e = let z : ⊥ = omega arith in absurd z
records_length (suc n) [] e = let z : ⊥ = omega arith in absurd z
records_length (suc n) (x ∷ []) e = let z : ⊥ = omega arith in absurd z
records_length (suc n) (x ∷ y ∷ ws) e = ap suc (records_length n ws (omega arith))

pub pairs_length : (rs : List Record) → length (pairs_of rs) ≡ 2 * length rs
unfolding pairs_of
pairs_length [] = refl
pairs_length (r ∷ rs) = omega (arith, pairs_length rs)

-- the words of records are those records, and whole pairs are the words of what they are
pub records_back : (rs : List Record) → records_of (pairs_of rs) ≡ rs
unfolding records_of pairs_of
records_back [] = refl
records_back (r ∷ rs) = ap (λ (l : List Record). r ∷ l) (records_back rs)

pub pairs_back : (n : ℕ) (ws : List ℕ) → length ws ≡ 2 * n → pairs_of (records_of ws) ≡ ws
unfolding records_of pairs_of
pairs_back zero [] e = refl
pairs_back zero (x ∷ ws) e = let z : ⊥ = omega arith in absurd z
pairs_back (suc n) [] e = let z : ⊥ = omega arith in absurd z
pairs_back (suc n) (x ∷ []) e = let z : ⊥ = omega arith in absurd z
pairs_back (suc n) (x ∷ y ∷ ws) e = ap (λ (l : List ℕ). x ∷ y ∷ l) (pairs_back n ws (omega arith))
