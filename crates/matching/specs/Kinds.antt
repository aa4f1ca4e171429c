-- Values that stand for values of another kind: matching asks only what each asks of a glyph.
use Rattle.std.specs.Prelude.{ℕ, ◌≡◌, Bool}
use Rattle.std.proofs.Math.Path.{refl}
use mathlib.Core.List.{List, [], ◌∷◌, map}
use Rattle.glyph.specs.declared.Glyph.{Glyph}
use Rattle.verdict.specs.declared.Verdict.{Verdict}
use Rattle.verdict.specs.Verdict.{Asked}
use Rattle.matching.specs.declared.Terms.{Terms}
use Rattle.matching.specs.Take.{Way, walk_by, past, on_walked, takes}
use Rattle.matching.specs.Matchers.{input_by, input_on, ahead_on, back_on}

module _ {X Y : Type 0} (f : X → Y) (way : Way) (v : Y → ℕ → Verdict) (ok : ℕ → Bool) where
  pub takes-map : (p : ℕ) (xs : List X) → takes way (λ x. v (f x)) ok p xs ≡ takes way v ok p (map f xs)
  unfolding takes
  takes-map p [] = refl
  takes-map p (x ∷ xs) = λ j. on_walked ok (walk_by way (v (f x)) p) (λ q. takes-map (past way q) xs j)

module _ {X Y : Type 0} (f : X → Y) (lookup : Terms) (sets : List ℕ) (test : Y → Asked) where
  pub input-map : (done coming : List Glyph) (idx : ℕ) (values : List X)
      → input_on lookup sets (λ x. test (f x)) done coming idx values ≡ input_on lookup sets test done coming idx (map f values)
  unfolding input_on input_by
  input-map done coming idx values = takes-map f _ _ _ _ values

  pub ahead-map : (coming : List Glyph) (start syllable : ℕ) (values : List X)
      → ahead_on lookup sets (λ x. test (f x)) coming start syllable values ≡ ahead_on lookup sets test coming start syllable (map f values)
  unfolding ahead_on
  ahead-map coming start syllable values = takes-map f _ _ _ _ values

  pub back_map : (row : List Glyph) (syllable : ℕ) (values : List X)
      → back_on lookup sets (λ x. test (f x)) row syllable values ≡ back_on lookup sets test row syllable (map f values)
  unfolding back_on
  back_map row syllable values = takes-map f _ _ _ _ values
