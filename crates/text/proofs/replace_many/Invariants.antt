use Rattle.std.proofs.Common.{get_or, length, ◌≡◌}
use Rattle.std.proofs.Math.Seq.{paste}
use Rattle.glyph.specs.Glyph.{glyphs_of, blank}
use Rattle.text.specs.Text.{copies}
use Rattle.text.proofs.replace_many.Given as goal

abbrev pub invariant-loop-k : goal.invariant-loop-k
invariant-loop-k l = record {
  kept : length l.done ≡ length l.initial.done;
  made : glyphs_of l.done ≡ paste (glyphs_of l.initial.done) l.d (copies l.ids (get_or (glyphs_of l.coming) l.idx blank)) l.k;
}
