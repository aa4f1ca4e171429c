-- Each part is read where the definition reads it, and a row has as many glyphs as are counted. Assumes nothing.
use Rattle.std.proofs.Common.{ap, get_or, ◌*◌, ◌∙◌, ◌≡◌}
use Rattle.glyph.specs.Glyph.{words}
use Rattle.glyph.specs.Laws.{length_row}
use Rattle.tape_frame.specs.Frame.{settings_of, values_at, value_count, done_count, coming_count, done_at, coming_at, frame_in}
use Rattle.tape_frame.specs.FrameLaws.{length-words}
use Rattle.tape_frame.proofs.head_of.Goals as goal

pub returns : goal.returns
unfolding frame_in
returns c =
    let a = c.args in
    let b = a.b.now in
    let settings : c.settings_of.result ≡ settings_of a.table (get_or b 4 0) =
    c.settings_of.ensures ∙ ap (settings_of a.table) c.byte_at.ensures in
    rw (
      settings,
      c.word_at.ensures,
      c.word_at-2.ensures,
      c.half_at.ensures,
      c.value_count.ensures,
      c.done_count.ensures,
      c.coming_count.ensures,
      length-words (value_count b) values_at b,
      length_row (done_count b) (frame_in a.table b).done (length-words (words * done_count b) (done_at b) b),
      length_row (coming_count b) (frame_in a.table b).coming (length-words (words * coming_count b) (coming_at b) b),
    )
