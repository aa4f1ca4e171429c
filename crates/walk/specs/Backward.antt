-- Backward: a walk gives an answer exactly when what the answer means holds. By induction on the place; at each the verdict decides.
use Prim.Native.Nat.{ℕ, zero, suc, ◌+◌, ◌≤◌}
use Rattle.std.specs.Prelude.{◌≡◌, ◌↔◌}
use Rattle.std.proofs.Math.Path.{refl, ap}
use Rattle.std.proofs.Common.{sym, ◌∙◌, subst, eq-or-lt_of_le}
use Rattle.std.proofs.Math.Logic.{⊎_elim}
use native.Mathlib.Omega.{arith}
use Rattle.verdict.specs.declared.Verdict.{Verdict}
use Rattle.verdict.specs.declared.Verdict.TheVariants.{Match, NotMatch, Skip}
use Rattle.walk.specs.declared.Walked.{Walked}
use Rattle.walk.specs.declared.Walked.TheVariants.{Found, Stopped, RanOut}
use Rattle.walk.specs.Walk.{on_verdict_back, walk_back}
use Rattle.walk.specs.Means.{Passed, FindsBack, StopsBack, RunsOutBack, MeansBack}

module _ (v : ℕ → Verdict) where
  -- one more place after those passed over
  passed_more : (a p : ℕ) → v p ≡ Skip → Passed v a p → Passed v a (suc p)
  passed_more a p e h k l u =
      let u' : k ≤ p = omega arith in
      ⊎_elim (λ s. subst (λ (j : ℕ). v j ≡ Skip) (sym s) e) (λ g. h k l g) (eq-or-lt_of_le u')

  -- one place fewer
  passed_less : (a p : ℕ) → Passed v a (suc p) → Passed v a p
  passed_less a p h k l u = h k l (omega arith)

  more : (p : ℕ) (r : Walked) → v p ≡ Skip → MeansBack v p r → MeansBack v (suc p) r
  more p (Found q) e f = record {
    earlier = let h = f.earlier in omega arith;
    between = passed_more (q + 1) p e f.between;
    matches = f.matches;
  }
  more p (Stopped x) e f = record {
    stop = f.stop;
    earlier = let h = f.earlier in omega arith;
    between = passed_more (f.stop + 1) p e f.between;
    differs = f.differs;
    counts = f.counts;
  }
  more p (RanOut x) e f = record { all = passed_more 0 p e f.all; counts = f.counts }

  turn : (p : ℕ) (r : Verdict) (rest : Walked) → v p ≡ r → MeansBack v p rest → MeansBack v (suc p) (on_verdict_back r p rest)
  turn p Match rest e f = record { earlier = omega arith; between = λ k g h. absurd (omega arith); matches = e }
  turn p NotMatch rest e f = record {
    stop = p;
    earlier = omega arith;
    between = λ k g h. absurd (omega arith);
    differs = e;
    counts = refl;
  }
  turn p Skip rest e f = more p rest e f

  sound : (place : ℕ) → MeansBack v place (walk_back v place)
  unfolding walk_back
  sound zero = record { all = λ k g h. absurd (omega arith); counts = refl }
  sound (suc p) = turn p (v p) (walk_back v p) refl (sound p)

  complete : (place : ℕ) (r : Walked) → MeansBack v place r → walk_back v place ≡ r
  unfolding walk_back
  complete zero (Found q) f = let h = f.earlier in absurd (omega arith)
  complete zero (Stopped x) f = let h = f.earlier in absurd (omega arith)
  complete zero (RanOut x) f = ap RanOut (sym f.counts)
  complete (suc p) (Found q) f =
      let le : q ≤ p = let h = f.earlier in omega arith in
      ⊎_elim
      (λ s. rw (subst (λ (k : ℕ). v k ≡ Match) s f.matches) (ap Found (sym s)))
      (λ l.
      rw (f.between p (omega arith) (omega arith))
      (complete p (Found q) (record { earlier = l; between = passed_less (q + 1) p f.between; matches = f.matches })))
      (eq-or-lt_of_le le)
  complete (suc p) (Stopped x) f =
      let le : f.stop ≤ p = let h = f.earlier in omega arith in
      ⊎_elim
      (λ s. rw (subst (λ (k : ℕ). v k ≡ NotMatch) s f.differs) (ap Stopped (let h = f.counts in omega arith)))
      (λ l.
      rw (f.between p (omega arith) (omega arith))
      (complete p (Stopped x)
      (record {
        stop = f.stop;
        earlier = l;
        between = passed_less (f.stop + 1) p f.between;
        differs = f.differs;
        counts = f.counts;
      })))
      (eq-or-lt_of_le le)
  complete (suc p) (RanOut x) f =
      rw (f.all p (omega arith) (omega arith))
      (complete p (RanOut x) (record { all = passed_less 0 p f.all; counts = f.counts }))

  module _ (place : ℕ) where
    pub back_means : (r : Walked) → (walk_back v place ≡ r) ↔ MeansBack v place r
    back_means r = (λ e. subst (MeansBack v place) e (sound place), complete place r)

    pub back_found : (q : ℕ) → (walk_back v place ≡ Found q) ↔ FindsBack v place q
    back_found q = back_means (Found q)

    pub back_stopped : (extent : ℕ) → (walk_back v place ≡ Stopped extent) ↔ StopsBack v place extent
    back_stopped extent = back_means (Stopped extent)

    pub back_ran_out : (extent : ℕ) → (walk_back v place ≡ RanOut extent) ↔ RunsOutBack v place extent
    back_ran_out extent = back_means (RanOut extent)

    pub back_one : (r s : Walked) → MeansBack v place r → MeansBack v place s → r ≡ s
    back_one r s a b = sym ((back_means r).1 a) ∙ (back_means s).1 b
