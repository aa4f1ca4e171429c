-- A walker that goes on: a step that finds a place leads on along the row, and from there neither step is refused. So several steps in a row are
-- refused exactly where the first is, and they find the places that the walk finds one after another.
use Prim.Native.Nat.{ℕ, zero, suc, ◌+◌, ◌≤◌, ◌<◌}
use Rattle.std.specs.Prelude.{◌≡◌, List, ◌↔◌, Bool, true, false, ◌||◌, ltb, length, Result, Ok, Err}
use Rattle.std.proofs.Math.Path.{refl, ap}
use Rattle.std.proofs.Common.{sym, ◌∙◌, arith, le-ltb}
use Rattle.std.proofs.Math.Bool.{true≢false}
use Rattle.bits.proofs.Laws.{neither_left, neither_right}
use Rattle.glyph.specs.declared.IllShaped.{IllShaped}
use Rattle.glyph.specs.Glyph.{glyphs_of, ill_shaped}
use Rattle.glyph.specs.Sets.{odd_sets}
use Rattle.verdict.specs.declared.Matcher.{Matcher}
use Rattle.verdict.specs.declared.Verdict.{Verdict}
use Rattle.verdict.specs.Verdict.{Asked, judge_at}
use Rattle.walk.specs.declared.Walked.{Walked}
use Rattle.walk.specs.declared.Walked.TheVariants.{Found, Stopped, RanOut}
use Rattle.walk.specs.Calls.{bad_walk, forward_of, backward_of}
use Rattle.walk.specs.Means.{Finds, FindsBack}
use Rattle.walk.specs.Accepted.{good_walk, forward_refused, forward_means, backward_refused, backward_means}
use Rattle.walker.specs.Walker.{onward, nth_of}

-- q is the match after n others: each is the next one from the place of the one before
abbrev pub FoundAfter : (ℕ → Verdict) → ℕ → ℕ → ℕ → ℕ → Type 0
FoundAfter v len zero place q = Finds v len (place + 1) q
FoundAfter v len (suc n) place q = (r : ℕ) × (Finds v len (place + 1) r × FoundAfter v len n r q)

-- a walk with the same row and mark sets, from a place that isn't past the glyphs that count, isn't refused either
open_still : (row : List ℕ) (len place len' place' : ℕ) (sets : List ℕ) → bad_walk row len place sets ≡ false
    → place' ≤ len' → len' ≤ length (glyphs_of row) → bad_walk row len' place' sets ≡ false
unfolding bad_walk
open_still row len place len' place' sets e h k =
    let shape = ill_shaped row in
    let past = ltb (length (glyphs_of row)) len in
    let e₃ = neither_left ((shape || past) || ltb len place) (odd_sets sets) e in
    let e₂ = neither_left (shape || past) (ltb len place) e₃ in
    rw (
      neither_left shape past e₂,
      le-ltb (length (glyphs_of row)) len' k,
      le-ltb len' place' h,
      neither_right ((shape || past) || ltb len place) (odd_sets sets) e,
    ) refl

module _ (row : List ℕ) (m : Matcher) (asked : Asked) (syllable : ℕ) (sets : List ℕ) where
  abbrev judge : ℕ → Verdict
  judge = judge_at m asked syllable sets (glyphs_of row)

  module _ (len place q : ℕ) (e : forward_of row len place m asked syllable sets ≡ Ok (Found q)) where
    forward_open : (b : Bool) → bad_walk row len place sets ≡ b → bad_walk row len place sets ≡ false
    forward_open true t = let r = (forward_refused row m asked syllable sets len place).1 t in absurd cc
    forward_open false t = t

    pub forward_finds : Finds judge len (place + 1) q
    forward_finds = (forward_means row m asked syllable sets len place (Found q) (forward_open (bad_walk row len place sets) refl)).0 e

    pub forward_further : (place < q) × (q < len)
    forward_further = let f = forward_finds.later in (omega arith, forward_finds.inside)

    -- from there the step forward isn't refused, nor is the one back
    pub forward_on : bad_walk row len q sets ≡ false
    forward_on =
        let o = forward_open (bad_walk row len place sets) refl in
        let i = forward_finds.inside in
        open_still row len place len q sets o (omega arith) (good_walk row len place sets o).1

    pub forward_back : bad_walk row (length (glyphs_of row)) q sets ≡ false
    forward_back =
        let o = forward_open (bad_walk row len place sets) refl in
        let i = forward_finds.inside in
        let g = (good_walk row len place sets o).1 in
        open_still row len place (length (glyphs_of row)) q sets o (omega arith) (omega arith)

  module _ (place q : ℕ) (e : backward_of row place m asked syllable sets ≡ Ok (Found q)) where
    backward_open : (b : Bool) → bad_walk row (length (glyphs_of row)) place sets ≡ b → bad_walk row (length (glyphs_of row)) place sets ≡ false
    backward_open true t = let r = (backward_refused row m asked syllable sets place).1 t in absurd cc
    backward_open false t = t

    pub backward_finds : FindsBack judge place q
    backward_finds = (backward_means row m asked syllable sets place (Found q)
        (backward_open (bad_walk row (length (glyphs_of row)) place sets) refl)).0 e

    pub backward_further : q < place
    backward_further = backward_finds.earlier

    -- from there the step back isn't refused, nor is the one forward in the same glyphs
    pub backward_on : (len : ℕ) → place ≤ len → len ≤ length (glyphs_of row) → bad_walk row len q sets ≡ false
    backward_on len h k =
        let o = backward_open (bad_walk row (length (glyphs_of row)) place sets) refl in
        let i = backward_finds.earlier in
        open_still row (length (glyphs_of row)) place len q sets o (omega arith) k

  module _ (len : ℕ) where
    abbrev answer : ℕ → Result Walked IllShaped
    answer place = forward_of row len place m asked syllable sets

    abbrev nth : ℕ → ℕ → Result Walked IllShaped
    nth place n = nth_of row len place n m asked syllable sets

    -- of several steps, those after a place found, `rest`, decide whether they are refused, and what they find
    first_refused : (place : ℕ) (rest : ℕ → Result Walked IllShaped) (r : Result Walked IllShaped) → answer place ≡ r
        → ((q : ℕ) → answer place ≡ Ok (Found q) → rest q ≡ Err (record {}) → ⊥) → onward r rest ≡ Err (record {})
        → bad_walk row len place sets ≡ true
    first_refused place rest (Ok (Found q)) e h k = absurd (h q e k)
    first_refused place rest (Ok (Stopped extent)) e h k = absurd cc
    first_refused place rest (Ok (RanOut extent)) e h k = absurd cc
    first_refused place rest (Err x) e h k = (forward_refused row m asked syllable sets len place).0 e

    first_found : (place q : ℕ) (rest : ℕ → Result Walked IllShaped) (r : Result Walked IllShaped) → answer place ≡ r → onward r rest ≡ Ok (Found q)
        → (s : ℕ) × ((answer place ≡ Ok (Found s)) × (rest s ≡ Ok (Found q)))
    first_found place q rest (Ok (Found s)) e k = (s, (e, k))
    first_found place q rest (Ok (Stopped extent)) e k = absurd cc
    first_found place q rest (Ok (RanOut extent)) e k = absurd cc
    first_found place q rest (Err x) e k = absurd cc

    pub nth_refused : (place n : ℕ) → (nth place n ≡ Err (record {})) ↔ (bad_walk row len place sets ≡ true)
    unfolding nth_of
    nth_refused place zero = forward_refused row m asked syllable sets len place
    nth_refused place (suc n) =
        let rest : ℕ → Result Walked IllShaped = λ q. nth q n in (
          first_refused place rest (answer place) refl
              (λ q e k. true≢false (sym ((nth_refused q n).0 k) ∙ forward_on len place q e)),
          λ t. ap (λ (r : Result Walked IllShaped). onward r rest) ((forward_refused row m asked syllable sets len place).1 t),
        )

    pub nth_found : (place n q : ℕ) → bad_walk row len place sets ≡ false → (nth place n ≡ Ok (Found q)) ↔ FoundAfter judge len n place q
    unfolding nth_of
    nth_found place zero q o = forward_means row m asked syllable sets len place (Found q) o
    nth_found place (suc n) q o =
        let rest : ℕ → Result Walked IllShaped = λ r. nth r n in (
          λ k.
              let f = first_found place q rest (answer place) refl k in
              (f.0, (forward_finds len place f.0 f.1.0, (nth_found f.0 n q (forward_on len place f.0 f.1.0)).0 f.1.1)),
          λ g.
              let e = (forward_means row m asked syllable sets len place (Found g.0) o).1 g.1.0 in
              ap (λ (r : Result Walked IllShaped). onward r rest) e ∙ (nth_found g.0 n q (forward_on len place g.0 e)).1 g.1.1,
        )
