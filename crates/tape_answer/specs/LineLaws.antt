-- Positions one at a time, as the code's loop writes them.
use Rattle.std.specs.Prelude.{ℕ, ◌+◌, ◌*◌, ◌≤◌, ◌<◌, ◌≡◌, refl, List, [], ◌∷◌, ◌++◌, get_or, take, drop}
use Rattle.std.proofs.Common.{ap, ◌∙◌, arith, add-one, drop_of_length-le}
use Rattle.std.proofs.Math.ListN.{length}
use Rattle.std.proofs.Math.Seq.{drop-cons, get_or-take, length-take-le}
use Rattle.tape_frame.specs.Line.{digits_of, half}
use Rattle.tape_answer.specs.Line.{halves, most_answer, with_newline}

module _ (l : List ℕ) (n i : ℕ) where
  pub halves_step : i < n → n ≤ length l
      → digits_of (halves (drop i (take n l))) ≡ digits_of (half (get_or l i 0)) ++ digits_of (halves (drop (i + 1) (take n l)))
  unfolding digits_of halves
  halves_step h k =
      let m : i < length (take n l) = omega (arith, length-take-le n l k) in
      rw (add-one i, drop-cons (take n l) i 0 m, get_or-take n l i 0 h)

  pub halves_end : n ≤ i → n ≤ length l → digits_of (halves (drop i (take n l))) ≡ []
  unfolding digits_of halves
  halves_end h k =
      let m : length (take n l) ≤ i = omega (arith, length-take-le n l k) in
      rw (drop_of_length-le (take n l) {i = i} m)

four_each : (l : List ℕ) → length (digits_of (halves l)) ≡ 4 * length l
unfolding digits_of halves
four_each [] = refl
four_each (x ∷ rest) = let e = four_each rest in omega arith

pub length-halves : (l : List ℕ) (n : ℕ) → n ≤ length l → length (digits_of (halves (take n l))) ≡ 4 * n
length-halves l n h = four_each (take n l) ∙ ap (λ (k : ℕ). 4 * k) (length-take-le n l h)

-- short answers have room where the longest has
pub number_fits : (at x r : ℕ) → r ≡ at + length (with_newline (x ∷ [])) → r ≤ at + most_answer
unfolding with_newline digits_of
number_fits at x r e = omega arith

pub extent_fits : (at extent r : ℕ) → r ≡ at + length (with_newline (4 ∷ half extent)) → r ≤ at + most_answer
unfolding with_newline digits_of
extent_fits at extent r e = omega arith
