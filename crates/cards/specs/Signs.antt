-- The words of the cards' glyphs, as the glyph crate lays them out. A card lists no words; that they are the ones that 01 gives is said once, by
-- `sign-words` (01, "A glyph in four words").
use Rattle.std.specs.Prelude.{◌≡◌, List, [], ◌∷◌, ℕ, ◌+◌, ◌*◌}
use Rattle.std.proofs.Common.{ap, arith}
use Rattle.glyph.specs.Glyph.{words_of}
use Rattle.glyph.specs.Signs.{glyph}

-- the words of one in no ligature
abbrev pub sign : ℕ → ℕ → ℕ → List ℕ
sign id flags props = words_of (glyph id flags props 0 0 1)

pub sign_words : (id flags props : ℕ) → sign id flags props ≡ id ∷ 1 ∷ (flags * 16777216 + props) ∷ 257 ∷ []
unfolding words_of
sign_words id flags props =
    let e : flags * 16777216 + 0 * 65536 + props ≡ flags * 16777216 + props = omega arith in
    ap (λ (w : ℕ). id ∷ 1 ∷ w ∷ 257 ∷ []) e

abbrev pub letter : ℕ → List ℕ
letter id = sign id 0 0
