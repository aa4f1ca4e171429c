-- What keeps a line from being a frame, as far as its digits tell (01, "The bench tape").
use Rattle.std.specs.Prelude.{ℕ, zero, suc, ◌+◌, ◌-◌, ◌%◌, ◌≤◌, ◌<◌, ◌≡◌, refl, List, [], ◌∷◌, Bool, true, false, cond, ◌&&◌, eqb, ltb}
use Rattle.std.specs.Prelude.{length, get_or, drop, not}
use Rattle.std.proofs.Common.{sym, ◌∙◌, true≢false, arith, drop-cons, ltb-true, ltb-false, eqb-true, eq-eqb}
use Rattle.std.specs.Char.{is_ascii_hexdigit}
use Rattle.std.specs.List.{position_or_len}
use Rattle.std.proofs.lemmas.Bool.Decides.{nat_tests}
use Rattle.std.proofs.Math.Bool.{and-false}
use Rattle.std.proofs.Math.Numerals.{add-one}
use Rattle.tape_frame.specs.Digits.{digit, is_digit, spells}
use Rattle.tape_frame.specs.DigitLaws.{spells_odd}
use Rattle.tape_frame.specs.Frame.{not_frame, frame_of, most_digits}
use Rattle.tape_frame.specs.FrameLaws.{long_none}
use Rattle.explain_line.specs.declared.LineFault.{LineFault}
use Rattle.explain_line.specs.declared.LineFault.TheVariants.{TooLong, NotDigit, Odd, OtherFault}

-- the place of the first byte that is no digit, of bytes that begin at place i; one past the last where there is none
unfoldable pub bad_from : List ℕ → ℕ → ℕ
bad_from [] i = i
bad_from (b ∷ rest) i = cond (is_digit b) (bad_from rest (i + 1)) i

unfoldable pub fault_of : List ℕ → LineFault
fault_of line =
    cond (ltb most_digits (length line)) TooLong
    (cond (ltb (bad_from line 0) (length line)) (NotDigit (bad_from line 0)) (cond (eqb (length line % 2) 0) OtherFault Odd))

-- ---- a byte at a time

module _ (line : List ℕ) (i : ℕ) where
  pub bad_on : i < length line
      → bad_from (drop i line) i ≡ cond (is_digit (get_or line i 0)) (bad_from (drop (i + 1) line) (i + 1)) i
  unfolding bad_from
  bad_on h = rw (drop-cons line i 0 h, add-one i)

  pub bad_end : drop i line ≡ [] → bad_from (drop i line) i ≡ i
  unfolding bad_from
  bad_end e = rw e

-- the digits by their ranges, which are those of std's `is_ascii_hexdigit`
pub digit_ranges : (b : ℕ) → is_ascii_hexdigit b ≡ is_digit b
unfolding digit
digit_ranges b = grind (arith, nat_tests)

-- the first bad byte's place as std searches a list for it
by_digit_place : (d : Bool) (rest : List ℕ) (i : ℕ) → bad_from rest (i + 1) ≡ i + 1 + position_or_len (λ b. not (is_ascii_hexdigit b)) rest
    → cond d (bad_from rest (i + 1)) i ≡ i + cond (not (not d)) (1 + position_or_len (λ b. not (is_ascii_hexdigit b)) rest) 0
by_digit_place true rest i e = e ∙ omega arith
by_digit_place false rest i e = omega arith

pub bad_place : (line : List ℕ) (i : ℕ) → bad_from line i ≡ i + position_or_len (λ b. not (is_ascii_hexdigit b)) line
unfolding bad_from
bad_place [] i = omega arith
bad_place (b ∷ rest) i = rw (digit_ranges b) (by_digit_place (is_digit b) rest i (bad_place rest (i + 1)))

pub bad_is : (line : List ℕ) → bad_from line 0 ≡ position_or_len (λ b. not (is_ascii_hexdigit b)) line
bad_is line = let e = bad_place line 0 in omega arith

-- ---- each fault is one

-- what a fault says of a line
abbrev pub FaultSays : List ℕ → LineFault → Type 0
FaultSays line TooLong = (most_digits < length line) × (frame_of line ≡ not_frame)
FaultSays line (NotDigit i) = (i < length line) × (is_digit (get_or line i 0) ≡ false) × (frame_of line ≡ not_frame)
FaultSays line Odd = (length line % 2 ≡ 0 → ⊥) × (frame_of line ≡ not_frame)
FaultSays line OtherFault = (length line % 2 ≡ 0) × ((i : ℕ) → i < length line → is_digit (get_or line i 0) ≡ true)

unspelled : (line : List ℕ) → spells line ≡ false → frame_of line ≡ not_frame
unfolding frame_of
unspelled line e = rw e

bad_spells : (line : List ℕ) (i : ℕ) → i < length line → is_digit (get_or line i 0) ≡ false → spells line ≡ false
unfolding spells
bad_spells [] i h e = absurd (omega arith)
bad_spells (a ∷ []) i h e = refl
bad_spells (a ∷ b ∷ rest) zero h e = rw e
bad_spells (a ∷ b ∷ rest) (suc zero) h e = rw (e, and-false (is_digit a))
bad_spells (a ∷ b ∷ rest) (suc (suc i)) h e = rw (bad_spells rest i (omega arith) e) (and-false (is_digit a && is_digit b))

-- the first bad byte: it is one, and none before it is
pub record FirstBad (line : List ℕ) (k at : ℕ) : Type 0 where
  pub after : k ≤ at
  pub inside : at ≤ k + length line
  pub bad : at < k + length line → is_digit (get_or line (at - k) 0) ≡ false
  pub good : (i : ℕ) → i < at - k → is_digit (get_or line i 0) ≡ true

bad_more : (b : ℕ) (rest : List ℕ) (k at : ℕ) → is_digit b ≡ true → FirstBad rest (k + 1) at → FirstBad (b ∷ rest) k at
bad_more b rest k at e f =
    let n : at - k ≡ suc (at - (k + 1)) = let h = f.after in omega arith in
    record {
      after = let h = f.after in omega arith;
      inside = let h = f.inside in omega arith;
      bad = λ h. rw n (f.bad (omega arith));
      good = λ i h. first i h n;
    }
  where
    first : (i : ℕ) → i < at - k → at - k ≡ suc (at - (k + 1)) → is_digit (get_or (b ∷ rest) i 0) ≡ true
    first zero h n = e
    first (suc i) h n = f.good i (omega arith)

bad_here : (b : ℕ) (rest : List ℕ) (k : ℕ) → is_digit b ≡ false → FirstBad (b ∷ rest) k k
bad_here b rest k e =
    let n : k - k ≡ 0 = omega arith in
    record {
      after = omega arith;
      inside = omega arith;
      bad = λ h. rw n e;
      good = λ i h. absurd (omega arith);
    }

by_digit : (b : ℕ) (rest : List ℕ) (k at : ℕ) (d : Bool) → is_digit b ≡ d → FirstBad rest (k + 1) at → FirstBad (b ∷ rest) k (cond d at k)
by_digit b rest k at true e f = bad_more b rest k at e f
by_digit b rest k at false e f = bad_here b rest k e

pub first_bad : (line : List ℕ) (k : ℕ) → FirstBad line k (bad_from line k)
unfolding bad_from
first_bad [] k = record {
  after = omega arith;
  inside = omega arith;
  bad = λ h. absurd (omega arith);
  good = λ i h. absurd (omega arith);
}
first_bad (b ∷ rest) k = by_digit b rest k (bad_from rest (k + 1)) (is_digit b) refl (first_bad rest (k + 1))

-- by the three tests
module _ (line : List ℕ) where
  abbrev at : ℕ
  at = bad_from line 0

  says_by : (a b c : Bool) → ltb most_digits (length line) ≡ a → ltb at (length line) ≡ b → eqb (length line % 2) 0 ≡ c
      → FaultSays line (cond a TooLong (cond b (NotDigit at) (cond c OtherFault Odd)))
  says_by true b c long t e = let h = ltb-true most_digits (length line) long in (h, long_none line h)
  says_by false true c long t e =
      let f = first_bad line 0 in
      let z : at - 0 ≡ at = omega arith in
      let h = ltb-true at (length line) t in
      let b : is_digit (get_or line at 0) ≡ false = rw z at (f.bad (omega arith)) in
      (h, b, unspelled line (bad_spells line at h b))
  says_by false false true long t e =
      let f = first_bad line 0 in
      let h = ltb-false at (length line) t in
      (eqb-true (length line % 2) 0 e, λ i l. f.good i (omega arith))
  says_by false false false long t e =
      let o : length line % 2 ≡ 0 → ⊥ = λ s. true≢false (sym (eq-eqb (length line % 2) 0 s) ∙ e) in
      (o, unspelled line (spells_odd line o))

-- a fault is the line's
pub fault_says : (line : List ℕ) → FaultSays line (fault_of line)
unfolding fault_of
fault_says line = says_by line (ltb most_digits (length line)) (ltb (bad_from line 0) (length line)) (eqb (length line % 2) 0) refl refl refl
