-- The code's side: a list stored in another from a place on, what stands past it kept; and the laws by which stores follow each other.
use Prim.Native.Nat.{ℕ, suc, ◌+◌, ◌≤◌, ◌<◌}
use Rattle.std.specs.Prelude.{◌≡◌, set}
use Rattle.std.proofs.Math.Path.{sym, ap}
use Rattle.std.proofs.Common.{◌∙◌, add-one, add-zero, length-set, take-append-drop, take_at, drop_at}
use mathlib.Core.List.{List, [], ◌∷◌, ◌++◌, append_assoc}
use native.Mathlib.Omega.{arith}
use Rattle.std.proofs.Math.ListN.{length, take, drop, length-append, length-drop}
use Rattle.std.proofs.Math.Seq.{length-take-le, take-suc-set, drop-set-lt, drop-drop}

unfoldable pub put : List ℕ → ℕ → List ℕ → List ℕ
put old at s = take at old ++ (s ++ drop (at + length s) old)

-- what code that stores a list and says where it ends leaves
pub record Puts (old : List ℕ) (at : ℕ) (s new : List ℕ) (end : ℕ) : Type 0 where
  pub stored : new ≡ put old at s
  pub ends : end ≡ at + length s

module _ (old : List ℕ) (at : ℕ) where
  -- nothing stored
  pub put_none : put old at [] ≡ old
  unfolding put
  put_none = rw (add-zero at) (take-append-drop at old)

  -- the first is stored
  pub put-cons : (v : ℕ) (s : List ℕ) → at < length old → put old at (v ∷ s) ≡ put (set old at v) (at + 1) s
  unfolding put
  put-cons v s h =
      let e : at + suc (length s) ≡ suc at + length s = omega arith in
      rw (add-one at, e, take-suc-set old at v h, drop-set-lt (suc at + length s) old at v (omega arith))
      (sym (append_assoc (take at old) (v ∷ []) (s ++ drop (suc at + length s) old)))

  pub length-put : (s : List ℕ) → at + length s ≤ length old → length (put old at s) ≡ length old
  unfolding put
  length-put s h = simp (length-append, length-drop, length-take-le at old (omega arith)) (omega arith)

  -- what is stored stands there, after what stood before it
  pub take_put : (s : List ℕ) → at + length s ≤ length old → take (at + length s) (put old at s) ≡ take at old ++ s
  unfolding put
  take_put s h =
      rw (← append_assoc (take at old) s (drop (at + length s) old))
      (take_at (take at old ++ s) (drop (at + length s) old) (at + length s)
      (simp (length-append, length-take-le at old (omega arith))))

  drop-put : (s : List ℕ) → at + length s ≤ length old → drop (at + length s) (put old at s) ≡ drop (at + length s) old
  unfolding put
  drop-put s h =
      rw (← append_assoc (take at old) s (drop (at + length s) old))
      (drop_at (take at old ++ s) (drop (at + length s) old) (at + length s)
      (simp (length-append, length-take-le at old (omega arith))))

  -- one list stored after another
  pub put-append : (s t : List ℕ) → at + length s ≤ length old
      → put (put old at s) (at + length s) t ≡ put old at (s ++ t)
  unfolding put
  put-append s t h =
      let e : at + length (s ++ t) ≡ at + length s + length t = simp length-append (omega arith) in
      let d : drop (at + length s + length t) (put old at s) ≡ drop (at + length s + length t) old =
      sym (drop-drop (length t) (at + length s) (put old at s))
      ∙ ap (drop (length t)) (drop-put s h)
      ∙ drop-drop (length t) (at + length s) old in
      ap (λ (r : List ℕ). take (at + length s) (put old at s) ++ (t ++ r)) d
      ∙ ap (λ (r : List ℕ). r ++ (t ++ drop (at + length s + length t) old)) (take_put s h)
      ∙ append_assoc (take at old) s (t ++ drop (at + length s + length t) old)
      ∙ ap (λ (r : List ℕ). take at old ++ r) (sym (append_assoc s t (drop (at + length s + length t) old)))
      ∙ ap (λ (n : ℕ). take at old ++ (s ++ t ++ drop n old)) (sym e)

-- what is stored at the front, taken off again
pub front_put : (old s : List ℕ) (n : ℕ) → length s ≡ n → length s ≤ length old → take n (put old 0 s) ≡ s
front_put old s n e h =
    let z : 0 + length s ≡ n = omega arith in
    let f : 0 + length s ≤ length old = omega arith in
    ap (λ (k : ℕ). take k (put old 0 s)) (sym z) ∙ take_put old 0 s f

module _ (old : List ℕ) (at : ℕ) where
  -- one element, and two
  pub put_one : (v : ℕ) → at < length old → set old at v ≡ put old at (v ∷ [])
  put_one v h = sym (put-cons old at v [] h ∙ put_none (set old at v) (at + 1))

module _ (old : List ℕ) (at : ℕ) where
  pub put_two : (v w : ℕ) → at + 1 < length old → set (set old at v) (at + 1) w ≡ put old at (v ∷ w ∷ [])
  put_two v w h =
      put_one (set old at v) (at + 1) w (simp length-set h) ∙ sym (put-cons old at v (w ∷ []) (omega arith))

-- a store, and another where it ended
pub put_then : (old : List ℕ) {mid new : List ℕ} (at k : ℕ) (s t : List ℕ) → mid ≡ put old at s → k ≡ at + length s → new ≡ put mid k t
    → at + length s ≤ length old → new ≡ put old at (s ++ t)
put_then old at k s t first on second h =
    second
    ∙ ap (λ (m : List ℕ). put m k t) first
    ∙ ap (λ (n : ℕ). put (put old at s) n t) on
    ∙ put-append old at s t h
