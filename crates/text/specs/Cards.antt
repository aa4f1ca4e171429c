-- Examples: what K11 and K13 of 01 do to texts: lists of glyphs, and no offset.
use Rattle.std.specs.Prelude.{◌≡◌, refl, [], ◌∷◌, ℕ}
use Rattle.glyph.specs.declared.Glyph.{Glyph}
use Rattle.glyph.specs.Signs.{glyph}
use Rattle.glyph.specs.Write.{with_id}
use Rattle.text.specs.Text.{Text, moved_to, replaced}

abbrev sign : ℕ → Glyph
sign id = glyph id 0 0 0 0 1

abbrev given : Text
given = record { glyphs = sign 1 ∷ sign 2 ∷ sign 3 ∷ []; cursor = 0 }

pub k11_moves : moved_to 4 (replaced (2 ∷ 2 ∷ []) (moved_to 1 given)) ≡ record { glyphs = sign 1 ∷ sign 2 ∷ sign 2 ∷ sign 3 ∷ []; cursor = 4 }
unfolding with_id
k11_moves = refl

pub k13_moves : moved_to 2 (replaced [] (moved_to 1 given)) ≡ record { glyphs = sign 1 ∷ sign 3 ∷ []; cursor = 2 }
k13_moves = refl
