-- A level of a run, and how its positions are repaired after a record's lookup changed the text's length
-- (01, "Records over a text": "Positions are then repaired as A does"; A's `apply_lookup`). Positions and end count from the text's first glyph.
use Rattle.std.specs.Prelude.{Bool, false, cond, List, [], ◌∷◌, ◌++◌, map, ℕ, zero, suc, ◌+◌, ◌-◌, ◌≤◌, ◌<◌, min, leb, ltb, length, get_or, take}
use Rattle.std.specs.Prelude.{drop}

-- positions of a level, at most
abbrev pub most_positions : ℕ
most_positions = 64

-- whether its records go on, the positions of its match, and where it ends
pub record Level : Type 0 where
  pub live : Bool
  pub positions : List ℕ
  pub end : ℕ

-- the n places after place p
unfoldable pub following : ℕ → ℕ → List ℕ
following p zero = []
following p (suc n) = (p + 1) ∷ following (p + 1) n

-- a gain of n at position i: n positions follow it, each one more than the one before, and the later ones are raised by n
unfoldable pub with_gain : ℕ → ℕ → List ℕ → List ℕ
with_gain i n ps = take (suc i) ps ++ following (get_or ps i 0) n ++ map (λ p. p + n) (drop (suc i) ps)

-- a loss of n at position i: n positions after it are dropped, and the later ones are lowered by n
unfoldable pub with_loss : ℕ → ℕ → List ℕ → List ℕ
with_loss i n ps = take (suc i) ps ++ map (λ p. p - n) (drop n (drop (suc i) ps))

-- n glyphs more: a level whose positions would pass 64 keeps them and stops; its end moves all the same
unfoldable pub grown_by : ℕ → ℕ → Level → Level
grown_by i n lv =
    cond (leb (length lv.positions + n) most_positions)
    (record { live = lv.live; positions = with_gain i n lv.positions; end = lv.end + n })
    (record { live = false; positions = lv.positions; end = lv.end + n })

-- n glyphs fewer: the end never comes before the record's own position, and the change is raised to what the end came back
abbrev pub raised_to : ℕ → ℕ → Level → ℕ
raised_to i n lv = min n (lv.end - get_or lv.positions i 0)

-- no more positions go than follow the record's own, and the later ones are lowered by as many as went
abbrev pub held_back : ℕ → ℕ → Level → ℕ
held_back i n lv = min (raised_to i n lv) (length lv.positions - suc i)

unfoldable pub shrunk_by : ℕ → ℕ → Level → Level
shrunk_by i n lv = record {
  live = lv.live;
  positions = with_loss i (held_back i n lv) lv.positions;
  end = lv.end - raised_to i n lv;
}

-- the lookup at position i found `old` glyphs in the text and left `new`
unfoldable pub repaired : ℕ → ℕ → ℕ → Level → Level
repaired i old new lv = cond (ltb old new) (grown_by i (new - old) lv) (cond (ltb new old) (shrunk_by i (old - new) lv) lv)

-- ---- any way to repair: the record's place among the positions, the text's glyphs before and after, the level

abbrev pub Repairing : Type 0
Repairing = ℕ → ℕ → ℕ → Level → Level

-- ---- what a level keeps to (Rises.antt shows that repair does)

-- positions from `low` on, each after the one before it, none past the end
pub data Rises : ℕ → ℕ → List ℕ → Type 0 where
  no_position : {low end : ℕ} → Rises low end []
  next : {low end : ℕ} {ps : List ℕ} (p : ℕ) → low ≤ p → p ≤ end → Rises (p + 1) end ps → Rises low end (p ∷ ps)

-- a level of at most 64 positions over a text of so many glyphs: they rise from `low`, none passes the end, and the end is in the text
pub record Sound (low size : ℕ) (lv : Level) : Type 0 where
  pub few : length lv.positions ≤ most_positions
  pub rises : Rises low lv.end lv.positions
  pub begins : low ≤ lv.end
  pub within : lv.end ≤ size

-- what a repair has to keep, after a lookup that left the glyphs before the record's position
abbrev pub Mends : Repairing → Type 0
Mends repair =
    (low old : ℕ) (lv : Level) → Sound low old lv → (i : ℕ) → i < length lv.positions → (new : ℕ) → get_or lv.positions i 0 ≤ new
    → Sound low new (repair i old new lv)
