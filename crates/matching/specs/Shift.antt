-- Matching over a text from a place on is matching over what stands from there, with every place and extent raised by it.
use Prim.Native.Nat.{ℕ, ◌+◌, ◌≤◌}
use Rattle.std.specs.Prelude.{◌≡◌, true, false, cond, length, get_or}
use Rattle.std.proofs.Math.Path.{refl, ap, ap₂}
use Rattle.std.proofs.Common.{sym, ◌∙◌, length-drop, get_or-drop}
use mathlib.Core.List.{List, [], ◌∷◌, map}
use Rattle.std.proofs.Math.Bool.{Bool}
use native.Mathlib.Omega.{arith}
use Rattle.std.proofs.Math.ListN.{drop}
use Rattle.glyph.specs.declared.Glyph.{Glyph}
use Rattle.glyph.specs.Glyph.{blank}
use Rattle.verdict.specs.declared.Matcher.{Matcher}
use Rattle.verdict.specs.declared.Verdict.{Verdict}
use Rattle.verdict.specs.Verdict.{Asked, verdict}
use Rattle.walk.specs.declared.Walked.{Walked}
use Rattle.walk.specs.declared.Walked.TheVariants.{Found, Stopped, RanOut}
use Rattle.walk.specs.Walk.{walk_from}
use Rattle.walk.specs.Parts.{raised, walk_shift, walk_same, back_same}
use Rattle.matching.specs.declared.Terms.{Terms}
use Rattle.matching.specs.Take.{Way, ahead, behind, walk_by, past, Outcome, taken, lost, unlike, having, on_walked, takes, reached}
use Rattle.ligature.specs.Ligature.{may_join, base_skips}
use Rattle.matching.specs.Matchers.{judge, joins, anywhere, input_matcher_of, context_matcher_of, searched_glyphs, input_by, input_on, ahead_on}
use Rattle.matching.specs.Answers.{ligated, total_of}

abbrev pub raised_all : ℕ → List ℕ → List ℕ
raised_all start qs = map (λ (q : ℕ). start + q) qs

-- an outcome over what stands from `start` on, counted in the whole
abbrev pub raised_by : ℕ → Outcome → Outcome
raised_by start (taken qs) = taken (raised_all start qs)
raised_by start (lost extent) = lost (start + extent)
raised_by start unlike = unlike

-- ---- judges and rules that agree

module _ {X : Type 0} (way : Way) (u v : X → ℕ → Verdict) (ok ok' : ℕ → Bool) (same : (x : X) (k : ℕ) → u x k ≡ v x k)
    (same' : (k : ℕ) → ok k ≡ ok' k) where
  walk_by_same : (way : Way) (x : X) (p : ℕ) → walk_by way (u x) p ≡ walk_by way (v x) p
  walk_by_same (ahead len) x p = walk_same (u x) (v x) len p (λ k l g. same x k)
  walk_by_same behind x p = back_same (u x) (v x) p (λ k l. same x k)

  follow_same : (w : Walked) (f g : ℕ → Outcome) → ((q : ℕ) → f q ≡ g q) → on_walked ok w f ≡ on_walked ok' w g
  follow_same (Found q) f g e = ap₂ (λ (b : Bool) (o : Outcome). cond b (having (q ∷ []) o) unlike) (same' q) (e q)
  follow_same (Stopped extent) f g e = refl
  follow_same (RanOut extent) f g e = refl

  pub takes_same : (p : ℕ) (xs : List X) → takes way u ok p xs ≡ takes way v ok' p xs
  unfolding takes
  takes_same p [] = refl
  takes_same p (x ∷ xs) =
      ap (λ (w : Walked). on_walked ok w (λ q. takes way u ok (past way q) xs)) (walk_by_same way x p)
      ∙ follow_same (walk_by way (v x) p) (λ q. takes way u ok (past way q) xs) (λ q. takes way v ok' (past way q) xs)
      (λ q. takes_same (past way q) xs)

-- ---- any judge, any rule

having_raised : (start q : ℕ) (o : Outcome) → having ((start + q) ∷ []) (raised_by start o) ≡ raised_by start (having (q ∷ []) o)
having_raised start q (taken qs) = refl
having_raised start q (lost extent) = refl
having_raised start q unlike = refl

module _ {X : Type 0} (v : X → ℕ → Verdict) (ok : ℕ → Bool) (start len : ℕ) where
  -- the part's own judge and rule
  abbrev v' : X → ℕ → Verdict
  v' x i = v x (start + i)

  abbrev ok' : ℕ → Bool
  ok' i = ok (start + i)

  by_rule : (q : ℕ) (b : Bool) (o o' : Outcome) → o ≡ raised_by start o' → cond b (having ((start + q) ∷ []) o) unlike
      ≡ raised_by start (cond b (having (q ∷ []) o') unlike)
  by_rule q true o o' e = ap (having ((start + q) ∷ [])) e ∙ having_raised start q o'
  by_rule q false o o' e = refl

  by_walk : (w : Walked) (f g : ℕ → Outcome) → ((q : ℕ) → f (start + q) ≡ raised_by start (g q))
      → on_walked ok (raised start w) f ≡ raised_by start (on_walked ok' w g)
  by_walk (Found q) f g e = by_rule q (ok (start + q)) (f (start + q)) (g q) (e q)
  by_walk (Stopped extent) f g e = refl
  by_walk (RanOut extent) f g e = refl

  pub takes_shift : (p : ℕ) (xs : List X) → takes (ahead (start + len)) v ok (start + p) xs ≡ raised_by start (takes (ahead len) v' ok' p xs)
  unfolding takes
  takes_shift p [] = refl
  takes_shift p (x ∷ xs) =
      ap (λ (w : Walked). on_walked ok w (λ q. takes (ahead (start + len)) v ok (q + 1) xs)) (sym (walk_shift (v x) start len p))
      ∙ by_walk (walk_from (v' x) len p) (λ q. takes (ahead (start + len)) v ok (q + 1) xs) (λ q. takes (ahead len) v' ok' (q + 1) xs)
      (λ q.
      let on : start + q + 1 ≡ start + (q + 1) = omega arith in
      ap (λ (n : ℕ). takes (ahead (start + len)) v ok n xs) on ∙ takes_shift (q + 1) xs)

pub reached_shift : (start len p : ℕ) (qs : List ℕ) → reached (ahead (start + len)) (start + p) (raised_all start qs)
    ≡ start + reached (ahead len) p qs
unfolding reached
reached_shift start len p [] = refl
reached_shift start len p (q ∷ qs) =
    let on : start + q + 1 ≡ start + (q + 1) = omega arith in
    ap (λ (n : ℕ). reached (ahead (start + len)) n (raised_all start qs)) on ∙ reached_shift start len (q + 1) qs

-- ---- the matchers

module _ (gs : List Glyph) (start : ℕ) where
  glyph_shift : (k : ℕ) → get_or (drop start gs) k blank ≡ get_or gs (start + k) blank
  glyph_shift k = get_or-drop start gs k blank

  first_shift : get_or (drop start gs) 0 blank ≡ get_or gs start blank
  first_shift = let e : start + 0 ≡ start = omega arith in glyph_shift 0 ∙ ap (λ (n : ℕ). get_or gs n blank) e

  judge_shift : {X : Type 0} (m : Matcher) (sets : List ℕ) (test : X → Asked) (syllable : ℕ) (x : X) (k : ℕ)
      → judge m sets test syllable gs x (start + k) ≡ judge m sets test syllable (drop start gs) x k
  judge_shift m sets test syllable x k = ap (verdict m (test x) syllable sets) (sym (glyph_shift k))

  joins_shift : (m : Matcher) (sets : List ℕ) (searched : List Glyph) (k : ℕ)
      → joins m sets searched gs start (start + k) ≡ joins m sets searched (drop start gs) 0 k
  joins_shift m sets searched k =
      ap₂ (λ (first this : Glyph). may_join first this (base_skips m sets first.lig searched)) (sym first_shift) (sym (glyph_shift k))

  whole : start ≤ length gs → length gs ≡ start + length (drop start gs)
  whole h = omega (arith, length-drop start gs)

  ligated_shift : (qs : List ℕ) → ligated gs (raised_all start qs) ≡ ligated (drop start gs) qs
  unfolding ligated
  ligated_shift [] = refl
  ligated_shift (q ∷ qs) = ap₂ (λ (a b : ℕ). a + b) (ap (λ (g : Glyph). g.ligated) (sym (glyph_shift q))) (ligated_shift qs)

  pub total_shift : (qs : List ℕ) → total_of gs start (raised_all start qs) ≡ total_of (drop start gs) 0 qs
  total_shift qs = ap₂ (λ (a b : ℕ). a + b) (ap (λ (g : Glyph). g.count) (sym first_shift)) (ligated_shift qs)

  module _ {X : Type 0} (lookup : Terms) (sets : List ℕ) (test : X → Asked) (h : start ≤ length gs) where
    -- input from the cursor `start`
    pub input_shift : (done : List Glyph) (values : List X) → input_on lookup sets test done gs start values
        ≡ raised_by start (input_on lookup sets test done (drop start gs) 0 values)
    unfolding input_on input_by
    input_shift done values =
        let m = input_matcher_of lookup in
        let searched = searched_glyphs lookup.settings.table done in
        let part = drop start gs in
        let s = (get_or gs start blank).syllable in
        let v : X → ℕ → Verdict = judge m sets test s gs in
        let ok : ℕ → Bool = joins m sets searched gs start in
        let w : X → ℕ → Verdict = judge m sets test (get_or part 0 blank).syllable part in
        let ok'' : ℕ → Bool = joins m sets searched part 0 in
        ap (λ (n : ℕ). takes (ahead n) v ok (start + 1) values) (whole h)
        ∙ takes_shift v ok start (length part) 1 values
        ∙ ap (raised_by start)
        (takes_same (ahead (length part)) (λ x k. v x (start + k)) w (λ k. ok (start + k)) ok''
        (λ x k. judge_shift m sets test s x k ∙ ap (λ (g : Glyph). judge m sets test g.syllable part x k) (sym first_shift))
        (λ k. joins_shift m sets searched k) 1 values)

    -- lookahead from `start`
    pub ahead_shift : (syllable : ℕ) (values : List X) → ahead_on lookup sets test gs start syllable values
        ≡ raised_by start (ahead_on lookup sets test (drop start gs) 0 syllable values)
    unfolding ahead_on
    ahead_shift syllable values =
        let m = context_matcher_of lookup in
        let part = drop start gs in
        let v : X → ℕ → Verdict = judge m sets test syllable gs in
        let w : X → ℕ → Verdict = judge m sets test syllable part in
        let e : start + 0 ≡ start = omega arith in
        ap₂ (λ (n p : ℕ). takes (ahead n) v anywhere p values) (whole h) (sym e)
        ∙ takes_shift v anywhere start (length part) 0 values
        ∙ ap (raised_by start)
        (takes_same (ahead (length part)) (λ x k. v x (start + k)) w anywhere anywhere (λ x k. judge_shift m sets test syllable x k)
        (λ k. refl) 0 values)
