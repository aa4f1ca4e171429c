-- Tests in their order, as 01's table of refusals has them ("When the desk says no"): the first that holds answers, with its number. For any list of
-- tests, and for any list of lines that they tell.
use Rattle.std.specs.Prelude.{◌≡◌, refl, Bool, true, false, cond, List, [], ◌∷◌, ◌↔◌, ◌⊎◌, ℕ, zero, suc, ◌<◌, length, get_or}
use Rattle.std.proofs.Common.{sym, ap, ◌∙◌, true≢false, inl, inr, ⊎_elim, arith}
use Rattle.std.proofs.Math.Option.{Option, none, some, none-ne-some, some-ne-none, some_inj}

-- ---- tests

-- each a test and the number that it answers with
unfoldable pub first_answer : List (Bool × ℕ) → Option ℕ
first_answer [] = none
first_answer (t ∷ ts) = cond t.0 (some t.1) (first_answer ts)

-- the test i of a list
abbrev pub test_at : List (Bool × ℕ) → ℕ → Bool × ℕ
test_at ts i = get_or ts i (false, 0)

-- some entry is (true, n), and each before it is false
pub record FirstHolds (ts : List (Bool × ℕ)) (n : ℕ) : Type 0 where
  pub place : ℕ
  pub inside : place < length ts
  pub holds : test_at ts place ≡ (true, n)
  pub before : (i : ℕ) → i < place → (test_at ts i).0 ≡ false

-- every entry is false
abbrev pub NoneHolds : List (Bool × ℕ) → Type 0
NoneHolds ts = (i : ℕ) → i < length ts → (test_at ts i).0 ≡ false

first_by : (ts : List (Bool × ℕ)) (n : ℕ) → first_answer ts ≡ some n → FirstHolds ts n
unfolding first_answer
first_by [] n e = absurd (none-ne-some n e)
first_by ((true, k) ∷ ts) n e =
    record { place = 0; inside = omega arith; holds = ap (λ (m : ℕ). (true, m)) (some_inj.0 e); before = λ i h. absurd (omega arith) }
first_by ((false, k) ∷ ts) n e =
    let f = first_by ts n e in
    let h = f.inside in
    record { place = suc f.place; inside = omega arith; holds = f.holds; before = later f }
  where
    later : (f : FirstHolds ts n) → (i : ℕ) → i < suc f.place → (test_at ((false, k) ∷ ts) i).0 ≡ false
    later f zero h = refl
    later f (suc i) h = f.before i (omega arith)

by_first : (ts : List (Bool × ℕ)) (n i : ℕ) → i < length ts → test_at ts i ≡ (true, n) → ((j : ℕ) → j < i → (test_at ts j).0 ≡ false)
    → first_answer ts ≡ some n
unfolding first_answer
by_first [] n i h e b = absurd (omega arith)
by_first (t ∷ ts) n zero h e b = ap (λ (u : Bool × ℕ). cond u.0 (some u.1) (first_answer ts)) e
by_first (t ∷ ts) n (suc i) h e b =
    ap (λ (x : Bool). cond x (some t.1) (first_answer ts)) (b 0 (omega arith)) ∙ by_first ts n i (omega arith) e (λ j k. b (suc j) (omega arith))

-- a number is answered exactly when its test is the first that holds
pub first_exactly : (ts : List (Bool × ℕ)) (n : ℕ) → (first_answer ts ≡ some n) ↔ FirstHolds ts n
first_exactly ts n = (first_by ts n, λ f. by_first ts n f.place f.inside f.holds f.before)

-- there is no second
pub first_alone : (ts : List (Bool × ℕ)) (n m : ℕ) → FirstHolds ts n → FirstHolds ts m → n ≡ m
first_alone ts n m f g = some_inj.0 (sym ((first_exactly ts n).1 f) ∙ (first_exactly ts m).1 g)

none_by : (ts : List (Bool × ℕ)) → first_answer ts ≡ none → NoneHolds ts
unfolding first_answer
none_by [] e i h = absurd (omega arith)
none_by ((true, k) ∷ ts) e i h = absurd (some-ne-none k e)
none_by ((false, k) ∷ ts) e zero h = refl
none_by ((false, k) ∷ ts) e (suc i) h = none_by ts e i (omega arith)

by_none : (ts : List (Bool × ℕ)) → NoneHolds ts → first_answer ts ≡ none
unfolding first_answer
by_none [] n = refl
by_none (t ∷ ts) n = ap (λ (x : Bool). cond x (some t.1) (first_answer ts)) (n 0 (omega arith)) ∙ by_none ts (λ i h. n (suc i) (omega arith))

-- and none is answered exactly when no test holds
pub none_exactly : (ts : List (Bool × ℕ)) → (first_answer ts ≡ none) ↔ NoneHolds ts
none_exactly ts = (none_by ts, by_none ts)

-- ---- lines

-- a line of the table: its number, and what it lets pass. It refuses where that isn't so
pub record Line : Type 1 where
  pub number : ℕ
  pub lets : Type 0

-- the number of the first line that refuses: each before it lets pass
abbrev pub RefusedBy : ℕ → List Line → Type 0
RefusedBy n [] = ⊥
RefusedBy n (l ∷ ls) = ((l.number ≡ n) × (l.lets → ⊥)) ⊎ (l.lets × RefusedBy n ls)

-- each line lets pass
abbrev pub LetThrough : List Line → Type 0
LetThrough [] = Unit {0}
LetThrough (l ∷ ls) = l.lets × LetThrough ls

-- a line with its test, which is false exactly where the line lets pass
pub record Tested : Type 1 where
  pub test : Bool
  pub line : Line
  pub tells : (test ≡ false) ↔ line.lets

abbrev pub tests_of : List Tested → List (Bool × ℕ)
tests_of [] = []
tests_of (t ∷ ts) = (t.test, t.line.number) ∷ tests_of ts

abbrev pub lines_of : List Tested → List Line
lines_of [] = []
lines_of (t ∷ ts) = t.line ∷ lines_of ts

-- one line more
one_more : (b : Bool) (k n : ℕ) (rest : Option ℕ) {L R : Type 0} → (b ≡ false) ↔ L → (rest ≡ some n) ↔ R → (cond b (some k) rest ≡ some n)
    ↔ (((k ≡ n) × (L → ⊥)) ⊎ (L × R))
one_more true k n rest t r = (
  λ e. inl (some_inj.0 e, λ l. true≢false (t.1 l)),
  ⊎_elim (λ h. ap some h.0) (λ h. absurd (true≢false (t.1 h.0))),
)
one_more false k n rest t r = (λ e. inr (t.0 refl, r.0 e), ⊎_elim (λ h. absurd (h.1 (t.0 refl))) (λ h. r.1 h.1))

one_less : (b : Bool) (k : ℕ) (rest : Option ℕ) {L R : Type 0} → (b ≡ false) ↔ L → (rest ≡ none) ↔ R → (cond b (some k) rest ≡ none) ↔ (L × R)
one_less true k rest t r = (λ e. absurd (some-ne-none k e), λ h. absurd (true≢false (t.1 h.0)))
one_less false k rest t r = (λ e. (t.0 refl, r.0 e), λ h. r.1 h.1)

-- tests that tell their lines answer with the number of the first line that refuses
pub refused_exactly : (ts : List Tested) (n : ℕ) → (first_answer (tests_of ts) ≡ some n) ↔ RefusedBy n (lines_of ts)
unfolding first_answer
refused_exactly [] n = (λ e. none-ne-some n e, λ z. absurd z)
refused_exactly (t ∷ ts) n = one_more t.test t.line.number n (first_answer (tests_of ts)) t.tells (refused_exactly ts n)

-- and with none exactly when each lets pass
pub through_exactly : (ts : List Tested) → (first_answer (tests_of ts) ≡ none) ↔ LetThrough (lines_of ts)
unfolding first_answer
through_exactly [] = (λ e. tt, λ u. refl)
through_exactly (t ∷ ts) = one_less t.test t.line.number (first_answer (tests_of ts)) t.tells (through_exactly ts)

-- no second number
pub refused_alone : (ts : List Tested) (n m : ℕ) → RefusedBy n (lines_of ts) → RefusedBy m (lines_of ts) → n ≡ m
refused_alone ts n m f g = some_inj.0 (sym ((refused_exactly ts n).1 f) ∙ (refused_exactly ts m).1 g)
