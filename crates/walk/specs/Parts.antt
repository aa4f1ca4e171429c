-- A walk over a part of a row: it is the walk over the whole row, with places counted from the part's first glyph.
use Prim.Native.Nat.{ℕ, zero, suc, ◌+◌, ◌-◌, ◌≤◌, ◌<◌}
use Rattle.std.specs.Prelude.{◌≡◌, List, take, drop}
use Rattle.std.proofs.Math.Path.{refl, ap}
use Rattle.std.proofs.Common.{◌∙◌, get_or-drop, get_or-take}
use native.Mathlib.Omega.{arith}
use Rattle.glyph.specs.declared.Glyph.{Glyph}
use Rattle.glyph.specs.Glyph.{blank}
use Rattle.verdict.specs.declared.Matcher.{Matcher}
use Rattle.verdict.specs.declared.Verdict.{Verdict}
use Rattle.verdict.specs.declared.Verdict.TheVariants.{Match, NotMatch, Skip}
use Rattle.verdict.specs.Verdict.{Asked, verdict, judge_at}
use Rattle.walk.specs.declared.Walked.{Walked}
use Rattle.walk.specs.declared.Walked.TheVariants.{Found, Stopped, RanOut}
use Rattle.walk.specs.Walk.{on_verdict, walk, walk_from, on_verdict_back, walk_back}

-- an answer over a part that begins at `start`, counted in the whole row
abbrev pub raised : ℕ → Walked → Walked
raised start (Found p) = Found (start + p)
raised start (Stopped extent) = Stopped (start + extent)
raised start (RanOut extent) = RanOut (start + extent)

module _ (v : ℕ → Verdict) (start : ℕ) where
  turn : (r : Verdict) (p : ℕ) (rest rest' : Walked) → raised start rest ≡ rest' → raised start (on_verdict r p rest) ≡ on_verdict r (start + p) rest'
  turn Match p rest rest' e = refl
  turn NotMatch p rest rest' e = ap Stopped (omega arith)
  turn Skip p rest rest' e = e

  shift : (n next : ℕ) → raised start (walk (λ i. v (start + i)) n next) ≡ walk v n (start + next)
  unfolding walk
  shift zero next = refl
  shift (suc n) next =
      let on : start + (next + 1) ≡ start + next + 1 = omega arith in
      turn (v (start + next)) next (walk (λ i. v (start + i)) n (next + 1)) (walk v n (start + next + 1))
      (shift n (next + 1) ∙ ap (walk v n) on)

  pub walk_shift : (len next : ℕ) → raised start (walk_from (λ i. v (start + i)) len next) ≡ walk_from v (start + len) (start + next)
  unfolding walk_from
  walk_shift len next =
      let left : len - next ≡ start + len - (start + next) = omega arith in
      shift (len - next) next ∙ ap (λ (n : ℕ). walk v n (start + next)) left

-- a walk asks only the places that it may reach
module _ (u v : ℕ → Verdict) where
  same : (n next : ℕ) → ((k : ℕ) → next ≤ k → k < next + n → u k ≡ v k) → walk u n next ≡ walk v n next
  unfolding walk
  same zero next h = refl
  same (suc n) next h =
      rw (h next (omega arith) (omega arith))
      (ap (on_verdict (v next) next) (same n (next + 1) (λ k l g. h k (omega arith) (omega arith))))

  pub walk_same : (len next : ℕ) → ((k : ℕ) → next ≤ k → k < len → u k ≡ v k) → walk_from u len next ≡ walk_from v len next
  unfolding walk_from
  walk_same len next h = same (len - next) next (λ k l g. h k l (omega arith))

  pub back_same : (place : ℕ) → ((k : ℕ) → k < place → u k ≡ v k) → walk_back u place ≡ walk_back v place
  unfolding walk_back
  back_same zero h = refl
  back_same (suc p) h = rw (h p (omega arith)) (ap (on_verdict_back (v p) p) (back_same p (λ k l. h k (omega arith))))

module _ (m : Matcher) (asked : Asked) (syllable : ℕ) (sets : List ℕ) (gs : List Glyph) where
  -- the part from glyph `start` on
  pub walk_onward : (start len next : ℕ)
      → raised start (walk_from (judge_at m asked syllable sets (drop start gs)) len next)
      ≡ walk_from (judge_at m asked syllable sets gs) (start + len) (start + next)
  walk_onward start len next =
      ap (raised start)
      (walk_same (judge_at m asked syllable sets (drop start gs)) (λ i. judge_at m asked syllable sets gs (start + i)) len next
      (λ k l g. ap (verdict m asked syllable sets) (get_or-drop start gs k blank)))
      ∙ walk_shift (judge_at m asked syllable sets gs) start len next

  -- the part of the first n glyphs
  pub walk_first : (n len next : ℕ) → len ≤ n
      → walk_from (judge_at m asked syllable sets (take n gs)) len next ≡ walk_from (judge_at m asked syllable sets gs) len next
  walk_first n len next h =
      walk_same (judge_at m asked syllable sets (take n gs)) (judge_at m asked syllable sets gs) len next
      (λ k l g. ap (verdict m asked syllable sets) (get_or-take n gs k blank (omega arith)))

  pub back_first : (n place : ℕ) → place ≤ n
      → walk_back (judge_at m asked syllable sets (take n gs)) place ≡ walk_back (judge_at m asked syllable sets gs) place
  back_first n place h =
      back_same (judge_at m asked syllable sets (take n gs)) (judge_at m asked syllable sets gs) place
      (λ k l. ap (verdict m asked syllable sets) (get_or-take n gs k blank (omega arith)))
