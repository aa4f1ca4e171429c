-- The matchers' loops a value at a time: what has been taken, and that the whole is what is left from here.
use Prim.Native.Nat.{ℕ, suc, ◌+◌, ◌-◌, ◌*◌, ◌≤◌, ◌<◌}
use Rattle.std.specs.Prelude.{◌≡◌, Result, Ok, Err, Bool, true, cond, length, get_or, drop, replicate, set}
use Rattle.std.proofs.Math.Path.{refl, sym, ap}
use Rattle.std.proofs.Common.{◌∙◌, length-append, drop_of_length-le, drop-cons}
use mathlib.Core.List.{List, [], ◌∷◌, ◌++◌, append_assoc, append-nil}
use native.Mathlib.Omega.{arith}
use Rattle.std.proofs.Math.Numerals.{add-one}
use Rattle.std.proofs.Math.Seq.{set-append_seam}
use Rattle.glyph.specs.declared.Glyph.{Glyph}
use Rattle.glyph.specs.Glyph.{blank}
use Rattle.verdict.specs.declared.Verdict.{Verdict}
use Rattle.verdict.specs.declared.Verdict.TheVariants.{Skip}
use Rattle.walk.specs.declared.Walked.{Walked}
use Rattle.walk.specs.declared.Walked.TheVariants.{Found, Stopped, RanOut}
use Rattle.walk.specs.Walk.{on_verdict, walk_from, on_verdict_back, walk_back}
use Rattle.walk.specs.Steps.{walk_on, back_on_by, back_end}
use Rattle.matching.specs.declared.NoContext.{NoContext}
use Rattle.matching.specs.Take.{slots, Way, ahead, behind, walk_by, past, Outcome, taken, lost, unlike, having, on_walked, takes, reached}
use Rattle.matching.specs.Matchers.{anywhere}
use Rattle.matching.specs.Answers.{slotted, ligated, total_of, input_told, context_told}

-- ---- context

module _ (way : Way) where
  -- where a place was taken the answer is that of the rest
  told_rest : (p q : ℕ) (o : Outcome) → context_told way p (having (q ∷ []) o) ≡ context_told way (past way q) o
  unfolding reached
  told_rest p q (taken qs) = refl
  told_rest p q (lost extent) = refl
  told_rest p q unlike = refl

  module _ (v : ℕ → ℕ → Verdict) where
    -- the answer from p on, with these values left
    abbrev pub told : ℕ → List ℕ → Result ℕ NoContext
    told p xs = context_told way p (takes way v anywhere p xs)

    -- what a walk's answer makes of it
    abbrev pub told_by : Walked → List ℕ → Result ℕ NoContext
    told_by (Found q) rest = told (past way q) rest
    told_by (Stopped extent) rest = Err (NoContext.Lost extent)
    told_by (RanOut extent) rest = Err (NoContext.Lost extent)

    by_walk : (p : ℕ) (w : Walked) (rest : List ℕ) → context_told way p (on_walked anywhere w (λ q. takes way v anywhere (past way q) rest))
        ≡ told_by w rest
    by_walk p (Found q) rest = told_rest p q (takes way v anywhere (past way q) rest)
    by_walk p (Stopped extent) rest = refl
    by_walk p (RanOut extent) rest = refl

    module _ (p i : ℕ) (values : List ℕ) where
      pub told_on : i < length values → told p (drop i values) ≡ told_by (walk_by way (v (get_or values i 0)) p) (drop (i + 1) values)
      unfolding takes
      told_on h =
          rw add-one
          (ap (told p) (drop-cons values i 0 h) ∙ by_walk p (walk_by way (v (get_or values i 0)) p) (drop (suc i) values))

      pub told_end : length values ≤ i → told p (drop i values) ≡ Ok p
      unfolding takes reached
      told_end h = ap (told p) (drop_of_length-le values h)

-- a place at a time, with the value that is due: the verdict tells whether it is taken there, lost, or sought further on
module _ (v : ℕ → ℕ → Verdict) (i : ℕ) (values : List ℕ) (h : i < length values) where
  abbrev due : ℕ → Verdict
  due = v (get_or values i 0)

  pub back_turn : (place p : ℕ) (r : Verdict) → place ≡ suc p → due p ≡ r
      → told behind v place (drop i values) ≡ told_by behind v (on_verdict_back r p (walk_back due p)) (drop (i + 1) values)
  back_turn place p r l e =
      told_on behind v place i values h
      ∙ ap (λ (w : Walked). told_by behind v w (drop (i + 1) values))
      (back_on_by due place p l r e)

  pub back_skip : (place p : ℕ) → place ≡ suc p → due p ≡ Skip → told behind v place (drop i values) ≡ told behind v p (drop i values)
  back_skip place p l e = back_turn place p Skip l e ∙ sym (told_on behind v p i values h)

  pub back_out : (place : ℕ) → place ≡ 0 → told behind v place (drop i values) ≡ Err (NoContext.Lost 0)
  back_out place l =
      told_on behind v place i values h ∙ ap (λ (w : Walked). told_by behind v w (drop (i + 1) values)) (back_end due place l)

-- ---- input

having_having : (a b : List ℕ) (o : Outcome) → having a (having b o) ≡ having (a ++ b) o
having_having a b (taken rs) = rw append_assoc
having_having a b (lost extent) = refl
having_having a b unlike = refl

having_none : (o : Outcome) → having [] o ≡ o
having_none (taken rs) = refl
having_none (lost extent) = refl
having_none unlike = refl

-- one more slot is used
slotted_more : (l : List ℕ) (q : ℕ) → length l < slots → set (slotted l) (length l) q ≡ slotted (l ++ q ∷ [])
slotted_more l q h =
    let n = slots - suc (length l) in
    let e₁ : slots - length l ≡ suc n = omega arith in
    let e₂ : n ≡ slots - length (l ++ q ∷ []) = omega (arith, length-append l (q ∷ [])) in
    ap (λ (k : ℕ). set (l ++ replicate k 0) (length l) q) e₁ ∙ set-append_seam l 0 (replicate n 0) q
    ∙ sym (append_assoc l (q ∷ []) (replicate n 0)) ∙ ap (λ (k : ℕ). (l ++ q ∷ []) ++ replicate k 0) e₂

ligated_more : (gs : List Glyph) (qs : List ℕ) (q : ℕ) → ligated gs (qs ++ q ∷ []) ≡ ligated gs qs + (get_or gs q blank).ligated
unfolding ligated
ligated_more gs [] q = omega arith
ligated_more gs (r ∷ qs) q = let ih = ligated_more gs qs q in omega arith

reached_more : (way : Way) (p : ℕ) (qs : List ℕ) (q : ℕ) → reached way p (qs ++ q ∷ []) ≡ past way q
unfolding reached
reached_more way p [] q = refl
reached_more way p (r ∷ qs) q = reached_more way (past way r) qs q

-- i values have taken the places qs, and what the rest take goes on from `next`: past the last place taken, and past what is passed over for
-- the value that is due
pub record Going (gs : List Glyph) (v : ℕ → ℕ → Verdict) (ok : ℕ → Bool) (idx : ℕ) (values positions : List ℕ) (total next i : ℕ) : Type 0 where
  pub qs : List ℕ
  pub size : length qs ≡ i
  pub within : i ≤ length values
  pub inside : next ≤ length gs
  pub slotting : positions ≡ slotted (idx ∷ qs)
  pub left : takes (ahead (length gs)) v ok (idx + 1) values ≡ having qs (takes (ahead (length gs)) v ok next (drop i values))
  pub here : length values ≤ i → reached (ahead (length gs)) (idx + 1) qs ≡ next
  pub sum : total ≡ total_of gs idx qs
  pub small : total ≤ 255 * (i + 1)

module _ (gs : List Glyph) (v : ℕ → ℕ → Verdict) (ok : ℕ → Bool) (idx : ℕ) (values : List ℕ) where
  abbrev from : ℕ → List ℕ → Outcome
  from = takes (ahead (length gs)) v ok

  pub going_none : idx < length gs → (get_or gs idx blank).count ≤ 255 → Going gs v ok idx values (slotted (idx ∷ [])) (get_or gs idx blank).count
      (idx + 1) 0
  unfolding ligated reached
  going_none h b = record {
    qs = [];
    size = refl;
    within = omega arith;
    inside = omega arith;
    slotting = refl;
    left = sym (having_none (from (idx + 1) values));
    here = λ l. refl;
    sum = omega arith;
    small = omega arith;
  }

  module _ (positions : List ℕ) (total next i : ℕ) (g : Going gs v ok idx values positions total next i) where
    -- what the values left take from p on, by the walk for the one that is due
    left_on : (p : ℕ) → i < length values
        → from p (drop i values) ≡ on_walked ok (walk_from (v (get_or values i 0)) (length gs) p) (λ q. from (q + 1) (drop (i + 1) values))
    unfolding takes
    left_on p h = rw (add-one i) (ap (from p) (drop-cons values i 0 h))

    -- what a turn's walk makes of the whole
    pub turn : i < length values → (w : Walked) → walk_from (v (get_or values i 0)) (length gs) next ≡ w
        → from (idx + 1) values ≡ having g.qs (on_walked ok w (λ q. from (q + 1) (drop (i + 1) values)))
    turn h w e =
        g.left ∙ ap (having g.qs) (left_on next h ∙ ap (λ (w : Walked). on_walked ok w (λ q. from (q + 1) (drop (i + 1) values))) e)

    -- the walk for the value that is due, by the verdict on the next place
    pub walks : (r : Verdict) → next < length gs → v (get_or values i 0) next ≡ r
        → walk_from (v (get_or values i 0)) (length gs) next ≡ on_verdict r next (walk_from (v (get_or values i 0)) (length gs) (next + 1))
    walks r l e =
        walk_on (v (get_or values i 0)) (length gs) next l
        ∙ ap (λ (r : Verdict). on_verdict r next (walk_from (v (get_or values i 0)) (length gs) (next + 1))) e

    pub going_skip : i < length values → next < length gs → v (get_or values i 0) next ≡ Skip → Going gs v ok idx values positions total (next + 1) i
    going_skip h l e = record {
      qs = g.qs;
      size = g.size;
      within = g.within;
      inside = omega arith;
      slotting = g.slotting;
      left = turn h (walk_from (v (get_or values i 0)) (length gs) (next + 1)) (walks Skip l e) ∙ ap (having g.qs) (sym (left_on (next + 1) h));
      here = λ k. absurd (omega arith);
      sum = g.sum;
      small = g.small;
    }

    pub going_more : (q : ℕ) → i < length values → length values < slots → q < length gs → (get_or gs q blank).ligated ≤ 255
        → walk_from (v (get_or values i 0)) (length gs) next ≡ Found q → ok q ≡ true
        → Going gs v ok idx values (set positions (i + 1) q) (total + (get_or gs q blank).ligated) (q + 1) (i + 1)
    going_more q h few in_row b e k =
        let s = g.size in
        let t = g.sum in
        let m = g.small in
        record {
          qs = g.qs ++ q ∷ [];
          size = omega (arith, length-append g.qs (q ∷ []));
          within = omega arith;
          inside = omega arith;
          slotting =
              let n : i + 1 ≡ suc (length g.qs) = omega arith in
              ap (λ (l : List ℕ). set l (i + 1) q) g.slotting ∙ ap (λ (k : ℕ). set (slotted (idx ∷ g.qs)) k q) n
              ∙ slotted_more (idx ∷ g.qs) q (omega arith);
          left =
              turn h (Found q) e
              ∙ ap (λ (b : Bool). having g.qs (cond b (having (q ∷ []) (from (q + 1) (drop (i + 1) values))) unlike)) k
              ∙ having_having g.qs (q ∷ []) (from (q + 1) (drop (i + 1) values));
          here = λ l. reached_more (ahead (length gs)) (idx + 1) g.qs q;
          sum = omega (arith, ligated_more gs g.qs q);
          small = omega arith;
        }

    pub going_done : length values ≤ i
        → input_told gs idx (from (idx + 1) values)
        ≡ record { answer = Ok (record { end = next; total = total }); count = i + 1; positions = positions }
    unfolding takes
    going_done h =
        let e : from (idx + 1) values ≡ taken g.qs =
        g.left ∙ ap (λ (l : List ℕ). having g.qs (from next l)) (drop_of_length-le values h) ∙ ap taken (append-nil g.qs) in
        let n : suc (length g.qs) ≡ i + 1 = let s = g.size in omega arith in
        ap (input_told gs idx) e
        ∙ (λ j. record { answer = Ok (record { end = g.here h j; total = sym g.sum j }); count = n j; positions = sym g.slotting j })
