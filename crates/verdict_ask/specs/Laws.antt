-- What a question that isn't refused may count on.
use Rattle.std.specs.Prelude.{ℕ, ◌<◌, List, ◌≡◌, false, leb, length}
use Rattle.std.proofs.Common.{leb-false}
use Rattle.glyph.specs.Glyph.{glyphs_of, ill_shaped}
use Rattle.bits.proofs.Laws.{neither_right}
use Rattle.verdict_ask.specs.Ask.{bad_place}

pub good_place : (row : List ℕ) (place : ℕ) → bad_place row place ≡ false → place < length (glyphs_of row)
unfolding bad_place
good_place row place e =
    leb-false (length (glyphs_of row)) place (neither_right (ill_shaped row) (leb (length (glyphs_of row)) place) e)
