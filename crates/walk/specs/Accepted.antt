-- When the two calls are refused, and what they answer when they aren't.
use Rattle.std.specs.Prelude.{ℕ, ◌+◌, ◌≤◌, ◌≡◌, refl, List, ◌↔◌, Bool, true, false, cond, ◌||◌, ltb, length, Result, Ok, Err}
use Rattle.std.proofs.Common.{ap, ltb-false}
use Rattle.glyph.specs.declared.IllShaped.{IllShaped}
use Rattle.glyph.specs.Glyph.{glyphs_of, ill_shaped}
use Rattle.glyph.specs.Sets.{odd_sets}
use mathlib.Core.Logic.Iff
use Rattle.bits.proofs.Laws.{neither_left, neither_right}
use Rattle.verdict.specs.declared.Matcher.{Matcher}
use Rattle.verdict.specs.Verdict.{Asked, judge_at}
use Rattle.walk.specs.declared.Walked.{Walked}
use Rattle.walk.specs.Walk.{walk_from, walk_back}
use Rattle.walk.specs.Calls.{bad_walk, forward_of, backward_of}
use Rattle.walk.specs.Means.{Means, MeansBack}
use Rattle.walk.specs.Laws.{walk_means}
use Rattle.walk.specs.Backward.{back_means}

-- what a walk that isn't refused may count on
pub good_walk : (row : List ℕ) (len place : ℕ) (sets : List ℕ) → bad_walk row len place sets ≡ false
    → (place ≤ len) × (len ≤ length (glyphs_of row))
unfolding bad_walk
good_walk row len place sets e =
    let shape = ill_shaped row in
    let past = ltb (length (glyphs_of row)) len in
    let e₃ = neither_left ((shape || past) || ltb len place) (odd_sets sets) e in
    let e₂ = neither_left (shape || past) (ltb len place) e₃ in
    (ltb-false len place (neither_right (shape || past) (ltb len place) e₃), ltb-false (length (glyphs_of row)) len (neither_right shape past e₂))

-- what a test chooses between
abbrev answer : Bool → Walked → Result Walked IllShaped
answer b w = cond b (Err (record {})) (Ok w)

-- refused exactly when the test says so
chosen : (b : Bool) (w : Walked) → (answer b w ≡ Err (record {})) ↔ (b ≡ true)
chosen true w = (λ e. refl, λ e. refl)
chosen false w = (λ e. cc, λ e. ap (λ (b : Bool). answer b w) e)

within : (x y : Walked) → (answer false x ≡ answer false y) ↔ (x ≡ y)
within x y = (λ e. cc, λ e. ap (answer false) e)

module _ (row : List ℕ) (m : Matcher) (asked : Asked) (syllable : ℕ) (sets : List ℕ) where
  module _ (len place : ℕ) where
    pub forward_refused : (forward_of row len place m asked syllable sets ≡ Err (record {})) ↔ (bad_walk row len place sets ≡ true)
    unfolding forward_of
    forward_refused =
        let v = judge_at m asked syllable sets (glyphs_of row) in
        chosen (bad_walk row len place sets) (walk_from v len (place + 1))

    pub forward_accepted : bad_walk row len place sets ≡ false
        → forward_of row len place m asked syllable sets ≡ Ok (walk_from (judge_at m asked syllable sets (glyphs_of row)) len (place + 1))
    unfolding forward_of
    forward_accepted e = rw e

    pub forward_means : (r : Walked) → bad_walk row len place sets ≡ false
        → (forward_of row len place m asked syllable sets ≡ Ok r) ↔ Means (judge_at m asked syllable sets (glyphs_of row)) len (place + 1) r
    forward_means r e =
        let v = judge_at m asked syllable sets (glyphs_of row) in
        rw (forward_accepted e) (Iff.trans (within (walk_from v len (place + 1)) r) (walk_means v len (place + 1) r))

  module _ (place : ℕ) where
    pub backward_refused : (backward_of row place m asked syllable sets ≡ Err (record {})) ↔ (bad_walk row (length (glyphs_of row)) place sets ≡ true)
    unfolding backward_of
    backward_refused =
        let v = judge_at m asked syllable sets (glyphs_of row) in
        chosen (bad_walk row (length (glyphs_of row)) place sets) (walk_back v place)

    pub backward_accepted : bad_walk row (length (glyphs_of row)) place sets ≡ false
        → backward_of row place m asked syllable sets ≡ Ok (walk_back (judge_at m asked syllable sets (glyphs_of row)) place)
    unfolding backward_of
    backward_accepted e = rw e

    pub backward_means : (r : Walked) → bad_walk row (length (glyphs_of row)) place sets ≡ false
        → (backward_of row place m asked syllable sets ≡ Ok r) ↔ MeansBack (judge_at m asked syllable sets (glyphs_of row)) place r
    backward_means r e =
        let v = judge_at m asked syllable sets (glyphs_of row) in
        rw (backward_accepted e) (Iff.trans (within (walk_back v place) r) (back_means v place r))
