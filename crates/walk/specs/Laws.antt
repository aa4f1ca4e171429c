-- Forward: a walk gives an answer exactly when what the answer means holds. By induction on the places left; at each the verdict decides.
use Prim.Native.Nat.{ℕ, zero, suc, ◌+◌, ◌-◌, ◌<◌}
use Rattle.std.specs.Prelude.{◌≡◌, ◌↔◌}
use Rattle.std.proofs.Math.Path.{refl, ap, subst}
use Rattle.std.proofs.Common.{sym, ◌∙◌, eq-or-lt_of_le}
use Rattle.std.proofs.Math.Logic.{⊎_elim}
use native.Mathlib.Omega.{arith}
use Rattle.verdict.specs.declared.Verdict.{Verdict}
use Rattle.verdict.specs.declared.Verdict.TheVariants.{Match, NotMatch, Skip}
use Rattle.walk.specs.declared.Walked.{Walked}
use Rattle.walk.specs.declared.Walked.TheVariants.{Found, Stopped, RanOut}
use Rattle.walk.specs.Walk.{on_verdict, walk, walk_from}
use Rattle.walk.specs.Means.{Passed, Finds, Stops, RunsOut, Means}

module _ (v : ℕ → Verdict) (len : ℕ) where
  -- one more place before those passed over
  passed_more : (next b : ℕ) → v next ≡ Skip → Passed v (next + 1) b → Passed v next b
  passed_more next b e h k l u =
      ⊎_elim (λ s. subst (λ (j : ℕ). v j ≡ Skip) s e) (λ g. h k (omega arith) u) (eq-or-lt_of_le l)

  -- one place fewer
  passed_less : (next b : ℕ) → Passed v next b → Passed v (next + 1) b
  passed_less next b h k l u = h k (omega arith) u

  more : (next : ℕ) (r : Walked) → next < len → v next ≡ Skip → Means v len (next + 1) r → Means v len next r
  more next (Found q) l e f = record {
    later = let h = f.later in omega arith;
    inside = f.inside;
    between = passed_more next q e f.between;
    matches = f.matches;
  }
  more next (Stopped x) l e f = record {
    place = f.place;
    later = let h = f.later in omega arith;
    inside = f.inside;
    between = passed_more next f.place e f.between;
    differs = f.differs;
    counts = f.counts;
  }
  more next (RanOut x) l e f = record { all = passed_more next len e f.all; counts = let h = f.counts in omega arith }

  turn : (next : ℕ) (r : Verdict) (rest : Walked) → next < len → v next ≡ r → Means v len (next + 1) rest → Means v len next (on_verdict r next rest)
  turn next Match rest l e f = record {
    later = omega arith;
    inside = l;
    between = λ k g h. absurd (omega arith);
    matches = e;
  }
  turn next NotMatch rest l e f = record {
    place = next;
    later = omega arith;
    inside = l;
    between = λ k g h. absurd (omega arith);
    differs = e;
    counts = refl;
  }
  turn next Skip rest l e f = more next rest l e f

  sound : (n next : ℕ) → n ≡ len - next → Means v len next (walk v n next)
  unfolding walk
  sound zero next e = record { all = λ k g h. absurd (omega arith); counts = omega arith }
  sound (suc n) next e =
      turn next (v next) (walk v n (next + 1)) (omega arith) refl (sound n (next + 1) (omega arith))

  complete : (n next : ℕ) (r : Walked) → n ≡ len - next → Means v len next r → walk v n next ≡ r
  unfolding walk
  complete zero next (Found q) e f = let h = f.later in let i = f.inside in absurd (omega arith)
  complete zero next (Stopped x) e f = let h = f.later in let i = f.inside in absurd (omega arith)
  complete zero next (RanOut x) e f = ap RanOut (let h = f.counts in omega arith)
  complete (suc n) next (Found q) e f =
      ⊎_elim
      (λ s. rw (subst (λ (k : ℕ). v k ≡ Match) (sym s) f.matches) (ap Found s))
      (λ l.
      rw (f.between next (omega arith) l)
      (complete n (next + 1) (Found q) (omega arith)
      (record {
        later = omega arith;
        inside = f.inside;
        between = passed_less next q f.between;
        matches = f.matches;
      })))
      (eq-or-lt_of_le f.later)
  complete (suc n) next (Stopped x) e f =
      ⊎_elim
      (λ s. rw (subst (λ (k : ℕ). v k ≡ NotMatch) (sym s) f.differs) (ap Stopped (let h = f.counts in omega arith)))
      (λ l.
      rw (f.between next (omega arith) l)
      (complete n (next + 1) (Stopped x) (omega arith)
      (record {
        place = f.place;
        later = omega arith;
        inside = f.inside;
        between = passed_less next f.place f.between;
        differs = f.differs;
        counts = f.counts;
      })))
      (eq-or-lt_of_le f.later)
  complete (suc n) next (RanOut x) e f =
      rw (f.all next (omega arith) (omega arith))
      (complete n (next + 1) (RanOut x) (omega arith)
      (record { all = passed_less next len f.all; counts = let h = f.counts in omega arith }))

  module _ (next : ℕ) where
    pub walk_means : (r : Walked) → (walk_from v len next ≡ r) ↔ Means v len next r
    unfolding walk_from
    walk_means r = (
      λ e. subst (Means v len next) e (sound (len - next) next refl),
      complete (len - next) next r refl,
    )

    pub walk_found : (q : ℕ) → (walk_from v len next ≡ Found q) ↔ Finds v len next q
    walk_found q = walk_means (Found q)

    pub walk_stopped : (extent : ℕ) → (walk_from v len next ≡ Stopped extent) ↔ Stops v len next extent
    walk_stopped extent = walk_means (Stopped extent)

    pub walk_ran_out : (extent : ℕ) → (walk_from v len next ≡ RanOut extent) ↔ RunsOut v len next extent
    walk_ran_out extent = walk_means (RanOut extent)

    -- no second answer means what holds
    pub walk_one : (r s : Walked) → Means v len next r → Means v len next s → r ≡ s
    walk_one r s a b = sym ((walk_means r).1 a) ∙ (walk_means s).1 b
