-- The two calls keep what a walk promises. The code's test tells 01's line 1, so a walk is refused by it exactly where it doesn't let pass
-- (Order); and a reply tells the case that it is of.
use Rattle.std.specs.Prelude.{ℕ, ◌+◌, ◌≡◌, refl, List, [], ◌∷◌, ◌↔◌, ◌⊎◌, Bool, true, false, ◌||◌, ltb, length, Result, Ok, Err}
use Rattle.std.proofs.Common.{sym, ap, ◌∙◌, inl, inr, ⊎_elim, true≢false, arith}
use mathlib.Core.Logic.Iff
use Rattle.std.proofs.Math.Option.{some, some_inj, none-ne-some}
use Rattle.glyph.specs.declared.IllShaped.{IllShaped}
use Rattle.glyph.specs.Glyph.{glyphs_of, ill_shaped}
use Rattle.glyph.specs.Laws.{well_shaped}
use Rattle.glyph.specs.Sets.{odd_sets}
use Rattle.glyph.specs.Reply.{Reply}
use Rattle.glyph.specs.Order.{first_answer, RefusedBy, refused_exactly}
use Rattle.glyph.specs.Tests.{both, over, paired}
use Rattle.verdict.specs.declared.Matcher.{Matcher}
use Rattle.verdict.specs.Verdict.{Asked, judge_at}
use Rattle.walk.specs.declared.Walked.{Walked}
use Rattle.walk.specs.declared.Walked.TheVariants.{Found, Stopped, RanOut}
use Rattle.walk.specs.Calls.{bad_walk, forward_of, backward_of, walk_reply}
use Rattle.walk.specs.Means.{Means, MeansBack}
use Rattle.glyph.specs.Reply.{replies}
use Rattle.walk.specs.Promise.{Walkable, ForwardPromise, BackwardPromise}
use Rattle.walk.specs.Accepted.{forward_refused, backward_refused, forward_means, backward_means}

walkable : (row : List ℕ) (len place : ℕ) (sets : List ℕ) → (bad_walk row len place sets ≡ false) ↔ Walkable row len place sets
unfolding bad_walk
walkable row len place sets =
    let a = ill_shaped row in
    let b = ltb (length (glyphs_of row)) len in
    let c = ltb len place in
    let t₁ = both a b (well_shaped row) (over (length (glyphs_of row)) len) in
    let t₂ = both (a || b) c t₁ (over len place) in
    let t = both ((a || b) || c) (odd_sets sets) t₂ (paired sets) in (
      λ q. let h = t.0 q in record {
        row_whole = h.0.0.0.0;
        row_short = h.0.0.0.1;
        len_inside = h.0.0.1;
        place_inside = h.0.1;
        sets_paired = h.1;
      },
      λ w. t.1 ((((w.row_whole, w.row_short), w.len_inside), w.place_inside), w.sets_paired),
    )

-- ---- refused

-- each other answer has a value
bare : (w : Result Walked IllShaped) (n : ℕ) → walk_reply w ≡ replies n [] → w ≡ Err (record {})
bare (Ok (Found p)) n e = let z = ap (λ (r : Reply). length r.values) e in absurd (omega arith)
bare (Ok (Stopped x)) n e = let z = ap (λ (r : Reply). length r.values) e in absurd (omega arith)
bare (Ok (RanOut x)) n e = let z = ap (λ (r : Reply). length r.values) e in absurd (omega arith)
bare (Err x) n e = refl

-- so the number of a reply with none is what the test answers with
first : (w : Result Walked IllShaped) (bad : Bool) → (w ≡ Err (record {})) ↔ (bad ≡ true)
    → (n : ℕ) → (walk_reply w ≡ replies n []) ↔ (first_answer ((bad, 1) ∷ []) ≡ some n)
unfolding first_answer
first w true r n =
    let one = ap walk_reply (r.1 refl) in
    (λ e. ap (λ (q : Reply). some q.number) (sym one ∙ e), λ e. one ∙ ap (λ (k : ℕ). replies k []) (some_inj.0 e))
first w false r n = (λ e. absurd (true≢false (sym (r.0 (bare w n e)))), λ e. absurd (none-ne-some n e))

-- ---- found and lost

tells_found : (w : Result Walked IllShaped) (q : ℕ) → (walk_reply w ≡ replies 0 (q ∷ [])) ↔ (w ≡ Ok (Found q))
tells_found (Ok (Found p)) q = (λ e. let same = ap (λ (r : Reply). r.values) e in cc, λ e. ap walk_reply e)
tells_found (Ok (Stopped x)) q = (λ e. let z = ap (λ (r : Reply). r.number) e in absurd (omega arith), λ e. cc)
tells_found (Ok (RanOut x)) q = (λ e. let z = ap (λ (r : Reply). r.number) e in absurd (omega arith), λ e. cc)
tells_found (Err x) q = (λ e. let z = ap (λ (r : Reply). r.number) e in absurd (omega arith), λ e. cc)

-- stopped or ran out: 4 doesn't tell which
lost_reply : (w : Result Walked IllShaped) (x : ℕ) → (w ≡ Ok (Stopped x)) ⊎ (w ≡ Ok (RanOut x)) → walk_reply w ≡ replies 4 (x ∷ [])
lost_reply w x o = ⊎_elim (λ e. ap walk_reply e) (λ e. ap walk_reply e) o

tells_lost : (w : Result Walked IllShaped) (x : ℕ) → walk_reply w ≡ replies 4 (x ∷ []) → (w ≡ Ok (Stopped x)) ⊎ (w ≡ Ok (RanOut x))
tells_lost (Ok (Found p)) x e = let z = ap (λ (r : Reply). r.number) e in absurd (omega arith)
tells_lost (Ok (Stopped y)) x e = let same = ap (λ (r : Reply). r.values) e in inl cc
tells_lost (Ok (RanOut y)) x e = let same = ap (λ (r : Reply). r.values) e in inr cc
tells_lost (Err y) x e = let z = ap (λ (r : Reply). r.number) e in absurd (omega arith)

-- an answer wasn't refused by the test
passed : (w : Result Walked IllShaped) (r : Walked) (bad : Bool) → (w ≡ Err (record {})) ↔ (bad ≡ true) → w ≡ Ok r → bad ≡ false
passed w r true t e = let f = t.1 refl in cc
passed w r false t e = refl

lost_passed : (w : Result Walked IllShaped) (x : ℕ) (bad : Bool) → (w ≡ Err (record {})) ↔ (bad ≡ true)
    → (w ≡ Ok (Stopped x)) ⊎ (w ≡ Ok (RanOut x)) → bad ≡ false
lost_passed w x bad t o = ⊎_elim (passed w (Stopped x) bad t) (passed w (RanOut x) bad t) o

-- ---- any call that refuses by a test, and else means something

module _ (w : Result Walked IllShaped) (bad : Bool) {W : Type 0} (good : (bad ≡ false) ↔ W) (refused : (w ≡ Err (record {})) ↔ (bad ≡ true))
    (M : Walked → Type 0) (means : (r : Walked) → bad ≡ false → (w ≡ Ok r) ↔ M r) where
  refused_by_lem : (n : ℕ) → (walk_reply w ≡ replies n []) ↔ RefusedBy n (record { number = 1; lets = W } ∷ [])
  refused_by_lem n =
      Iff.trans (first w bad refused n) (refused_exactly (record { test = bad; line = record { number = 1; lets = W }; tells = good } ∷ []) n)

  found_0 : (q : ℕ) → (walk_reply w ≡ replies 0 (q ∷ [])) ↔ (W × M (Found q))
  found_0 q = (
    λ e. let f = (tells_found w q).0 e in let b = passed w (Found q) bad refused f in (good.0 b, (means (Found q) b).0 f),
    λ h. (tells_found w q).1 ((means (Found q) (good.1 h.0)).1 h.1),
  )

  lost_4 : (x : ℕ) → (walk_reply w ≡ replies 4 (x ∷ [])) ↔ (W × (M (Stopped x) ⊎ M (RanOut x)))
  lost_4 x = (
    λ e. let o = tells_lost w x e in let b = lost_passed w x bad refused o in
        (good.0 b, ⊎_elim (λ f. inl ((means (Stopped x) b).0 f)) (λ f. inr ((means (RanOut x) b).0 f)) o),
    λ h. let b = good.1 h.0 in
        lost_reply w x (⊎_elim (λ m. inl ((means (Stopped x) b).1 m)) (λ m. inr ((means (RanOut x) b).1 m)) h.1),
  )

module _ (row : List ℕ) (m : Matcher) (asked : Asked) (syllable : ℕ) (sets : List ℕ) where
  pub forward_keeps : (len place : ℕ) → ForwardPromise row len place m asked syllable sets (forward_of row len place m asked syllable sets)
  forward_keeps len place =
      let w = forward_of row len place m asked syllable sets in
      let bad = bad_walk row len place sets in
      let g = walkable row len place sets in
      let r = forward_refused row m asked syllable sets len place in
      let M = Means (judge_at m asked syllable sets (glyphs_of row)) len (place + 1) in
      let means = forward_means row m asked syllable sets len place in
      record {
        refused = refused_by_lem w bad g r M means;
        found_0 = found_0 w bad g r M means;
        lost_4 = lost_4 w bad g r M means;
      }

  pub backward_keeps : (place : ℕ) → BackwardPromise row place m asked syllable sets (backward_of row place m asked syllable sets)
  backward_keeps place =
      let w = backward_of row place m asked syllable sets in
      let bad = bad_walk row (length (glyphs_of row)) place sets in
      let g = walkable row (length (glyphs_of row)) place sets in
      let r = backward_refused row m asked syllable sets place in
      let M = MeansBack (judge_at m asked syllable sets (glyphs_of row)) place in
      let means = backward_means row m asked syllable sets place in
      record {
        refused = refused_by_lem w bad g r M means;
        found_0 = found_0 w bad g r M means;
        lost_4 = lost_4 w bad g r M means;
      }
