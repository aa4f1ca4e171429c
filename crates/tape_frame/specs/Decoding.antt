-- The code's side: a frame as the code hands it on: its numbers in a head, its lists beside it.
use Rattle.std.specs.Prelude.{ℕ, ◌≤◌, ◌≡◌, List, [], Option, Some, None, length}
use Rattle.glyph.specs.Glyph.{glyphs_of}
use Rattle.tape_frame.specs.declared.Head.{Head}
use Rattle.tape_frame.specs.declared.Lists.{Lists}
use Rattle.tape_frame.specs.Frame.{Frame, LineRead, a_frame, not_frame, most_values, most_glyphs}
use Rattle.tape_frame.specs.Put.{put}

-- the numbers of a frame; its rows go beside them
abbrev pub head_of : Frame → Head
head_of f = record {
  settings = f.settings;
  mask = f.mask;
  props = f.props;
  cursor = f.cursor;
  values = length f.values;
  done = length (glyphs_of f.done);
  coming = length (glyphs_of f.coming);
}

abbrev pub decoded : LineRead → Option Head
decoded (a_frame f) = Some (head_of f)
decoded not_frame = None

-- a frame's lists; no frame has none
abbrev pub values_of : LineRead → List ℕ
values_of (a_frame f) = f.values
values_of not_frame = []

abbrev pub done_of : LineRead → List ℕ
done_of (a_frame f) = f.done
done_of not_frame = []

abbrev pub coming_of : LineRead → List ℕ
coming_of (a_frame f) = f.coming
coming_of not_frame = []

-- the answer is the reading's, and each of the three lists holds the reading's from its front, what stands past it as it was
pub record Decodes (r : LineRead) (answer : Option Head) (old new : Lists) : Type 0 where
  pub answers : answer ≡ decoded r
  pub values : new.values ≡ put old.values 0 (values_of r)
  pub done : new.done ≡ put old.done 0 (done_of r)
  pub coming : new.coming ≡ put old.coming 0 (coming_of r)

-- the lists of a head keep the limits
pub record Bounded (h : Head) : Type 0 where
  pub values : h.values ≤ most_values
  pub done : h.done ≤ most_glyphs
  pub coming : h.coming ≤ most_glyphs
