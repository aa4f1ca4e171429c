-- What the desk says: a number of 01's table "When the desk says no", 0 where none of them is meant, and the values that go with it.
use Rattle.std.specs.Prelude.{ℕ, ◌≡◌, Bool, true, false, List, [], ◌∷◌, length}
use Rattle.std.proofs.Common.{sym, ap, ◌∙◌, true≢false, arith}

pub record Reply : Type 0 where
  pub number : ℕ
  pub values : List ℕ

abbrev pub replies : ℕ → List ℕ → Reply
replies n vs = record { number = n; values = vs }

-- ---- what a reply tells

abbrev pub number_in : Reply → ℕ
number_in r = r.number

-- a reply with values is none without
pub has_values : {k n v : ℕ} {vs : List ℕ} → replies k (v ∷ vs) ≡ replies n [] → ⊥
has_values e = let z = ap (λ (r : Reply). length r.values) e in omega arith

-- numbers that a test tells apart
pub apart_by : (test : ℕ → Bool) (m n : ℕ) → test m ≡ true → test n ≡ false → m ≡ n → ⊥
apart_by test m n holds fails e = true≢false (sym holds ∙ ap test e ∙ fails)
