-- Where all of a list's elements, each with its number, pass a test or one fails it, that says what `every` does. Assumes nothing.
use Rattle.std.proofs.Common.{◌≡◌, ℕ, ◌+◌, ◌<◌, Bool, true, false, List, length, get_or, sym, subst, arith}
use Rattle.std.specs.List.{AllWithin, HoldsAt, enumerate_from}
use Rattle.std.specs.Prelude.{MatchBool}
use Rattle.std.proofs.lemmas.List.FromFn.{length-enumerate_from, get_or-enumerate_from}
use Rattle.bits.specs.Bits.{every}
use Rattle.bits.proofs.Laws.{every_so, every_not}

module _ (passes : ℕ → ℕ → Bool) (xs : List ℕ) (n : ℕ) (h : length xs ≡ n) where
  told : (r : Bool) (k : ℕ) → k < n → HoldsAt (λ (x : ℕ × ℕ). passes x.0 x.1 ≡ r) (enumerate_from 0 xs) k → passes k (get_or xs k 0) ≡ r
  told r k l f =
      let z : 0 + k ≡ k = omega arith in
      let e = get_or-enumerate_from 0 xs k (0, 0) (omega (arith, h)) in
      subst (λ j. passes j (get_or xs k 0) ≡ r) z (subst (λ (x : ℕ × ℕ). passes x.0 x.1 ≡ r) e (f (0, 0)))

  pub every_numbered : (r : Bool)
      → MatchBool r (AllWithin (λ (x : ℕ × ℕ). passes x.0 x.1 ≡ true) (enumerate_from 0 xs) 0 (length (enumerate_from 0 xs)))
      ((k : ℕ) × (k < length (enumerate_from 0 xs)) × HoldsAt (λ (x : ℕ × ℕ). passes x.0 x.1 ≡ false) (enumerate_from 0 xs) k)
      → r ≡ every n (λ k. passes k (get_or xs k 0))
  every_numbered true f =
      let m = length-enumerate_from 0 xs in
      sym (every_so (λ k. passes k (get_or xs k 0)) n (λ k l. told true k l (λ d. f k d (omega arith) (omega (arith, h, m)))))
  every_numbered false f =
      let m = length-enumerate_from 0 xs in
      let l : f.0 < n = omega (arith, f.1, h, m) in
      sym (every_not (λ k. passes k (get_or xs k 0)) n f.0 l (told false f.0 l f.2))
