-- The code's side: a level in slots. How the code keeps the positions of a level, 64 numbers of which the first `count` are positions and the others
-- 0.
use Rattle.std.specs.Prelude.{◌≡◌, List, ℕ, ◌≤◌, ◌<◌, length, get_or, take}
use Rattle.glyph.specs.Glyph.{limit}
use Rattle.matching.specs.Take.{slots}
use Rattle.matching.specs.Answers.{slotted}
use Rattle.run.specs.Repair.{Level}
use Rattle.run_positions.specs.declared.Slots.{Slots}

-- the level that slots show
abbrev pub level_of : Slots → Level
level_of s = record { live = s.live; positions = take s.count s.at; end = s.end }

-- the slots that show a level
abbrev pub shown : Level → Slots
shown lv = record { live = lv.live; end = lv.end; count = length lv.positions; at = slotted lv.positions }

-- slots that hold nothing but the level
abbrev pub Neat : Slots → Type 0
Neat s = shown (level_of s) ≡ s

-- positions of a text, each at least its own number
pub record Placed (at : List ℕ) (count : ℕ) : Type 0 where
  pub all : length at ≡ slots
  pub few : count ≤ slots
  pub low : (k : ℕ) → k < count → get_or at k 0 ≤ limit
  pub high : (k : ℕ) → k < count → k ≤ get_or at k 0
