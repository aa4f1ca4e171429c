-- Two rows that hold a text and 0 in every other cell, word for word (01, "Records over a text": when a run ends, cells in neither part hold 0).
use Rattle.std.specs.Prelude.{◌≡◌, List, ◌++◌, ℕ, ◌+◌, ◌-◌, ◌*◌, length, take, drop}
use Rattle.std.proofs.Common.{sym, ap, ◌∙◌}
use Rattle.bits.specs.Bits.{zeros}
use Rattle.glyph.specs.Glyph.{words, limit}
use Rattle.glyph.specs.Lossless.{Small, row_of, row_back, row_append, row_blank}
use Rattle.text.specs.declared.Place.{Place}
use Rattle.text.specs.Text.{Text, Holds, Clear}
use Rattle.text.specs.Decided.{d_is, idx_is, done_is, coming_is}

-- `done` has the words of the text's first d glyphs and then zeros; `coming` has zeros and then the words of the rest, which ends its row
pub record HoldsOnly (done coming : List ℕ) (s : Place) (t : Text) : Type 0 where
  pub d_at_cursor : s.d ≡ t.cursor
  pub rest_ends : s.idx ≡ limit + t.cursor - length t.glyphs
  pub done_words : done ≡ row_of (take s.d t.glyphs) ++ zeros (words * (limit - s.d))
  pub coming_words : coming ≡ zeros (words * s.idx) ++ row_of (drop s.d t.glyphs)

pub holds_only : (done coming : List ℕ) (s : Place) (t : Text) → Small done → Small coming → Holds done coming s t → Clear done coming s
    → HoldsOnly done coming s t
holds_only done coming s t a b h c =
    let d = d_is done coming s t h c in
    let i = idx_is done coming s t h c in
    record {
      d_at_cursor = d;
      rest_ends = i;
      done_words = sym (row_back limit done h.fits.long a) ∙ ap row_of (done_is done coming s t h c) ∙ rw (row_append, row_blank, d);
      coming_words = sym (row_back limit coming h.fits.wide b) ∙ ap row_of (coming_is done coming s t h c) ∙ rw (row_append, row_blank, d, i);
    }
