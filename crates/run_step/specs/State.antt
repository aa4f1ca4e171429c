-- The code's side: a run as the code keeps it: two rows, a state and a level in slots. What each step of the code makes of them, as a run over a
-- text.
use Rattle.std.specs.Prelude.{◌≡◌, Bool, true, false, cond, not, ◌&&◌, List, ℕ, zero, suc, ◌+◌, ◌≤◌, ltb, length, get_or}
use Rattle.text.specs.declared.Place.{Place}
use Rattle.text.specs.Text.{text_of, moved_to, Fits}
use Rattle.book.specs.Book.{Record}
use Rattle.run.specs.declared.Ending.{Ending}
use Rattle.run.specs.declared.Ending.TheVariants.{Finished, Short, Deep}
use Rattle.run.specs.Repair.{Level, Sound}
use Rattle.run.specs.Run.{Tally, Run, Stage, is_over, changed, in_run, when, is_due, arrived, stopped, spending, most_allowance}
use Rattle.run_positions.specs.declared.Slots.{Slots}
use Rattle.run_positions.specs.Slots.{level_of, shown, Neat}
use Rattle.run_step.specs.declared.State.{State}
use Rattle.run_step.specs.declared.Ready.{Ready}

-- how the run stands
abbrev pub tally_of : State → Tally
tally_of s = record { left = s.left; spent = s.spent; ending = s.ending }

-- the run that two rows and a state hold
abbrev pub run_of : List ℕ → List ℕ → State → Run
run_of done coming s = record { text = text_of done coming s.place; tally = tally_of s }

abbrev pub stage_of : List ℕ → List ℕ → State → Slots → Stage
stage_of done coming s lv = record { level = level_of lv; run = run_of done coming s }

-- the rows and the state hold the run x
pub record Ran (done coming : List ℕ) (s : State) (x : Run) : Type 0 where
  pub fits : Fits done coming s.place
  pub is : run_of done coming s ≡ x

-- ---- a record

-- `isDue` of what it looks at
abbrev pub is_due_at : Level → Ending → ℕ → ℕ → Bool
is_due_at lv e size seq =
    lv.live && (not (is_over e) && (ltb seq (length lv.positions) && ltb (get_or lv.positions seq 0) size))

-- states are made by these
abbrev pub begun_at : Place → ℕ → State
begun_at place allowance = record { place = place; left = allowance; spent = 0; ending = Finished }

abbrev pub parted_at : Place → State → State
parted_at place s = record { place = place; left = s.left; spent = s.spent; ending = s.ending }

abbrev pub ended_as : Ending → State → State
ended_as e s = record { place = s.place; left = s.left; spent = s.spent; ending = e }

-- one try more, with so much left
abbrev pub spent_as : ℕ → State → State
spent_as left s = record { place = s.place; left = left; spent = s.spent + 1; ending = s.ending }

abbrev pub stopped_slots : Slots → Slots
stopped_slots lv = record { live = false; end = lv.end; count = lv.count; at = lv.at }

abbrev pub stopped_as : Ending → State → Slots → Ready
stopped_as e s lv = record { go = false; state = ended_as e s; level = stopped_slots lv }

-- a due record that was reached, by the depth and the allowance that are left
unfoldable pub judged_at : ℕ → ℕ → State → Slots → Ready
judged_at depth zero s lv = stopped_as Short s lv
judged_at zero (suc left) s lv = stopped_as Deep s lv
judged_at (suc depth) (suc left) s lv =
    record { go = true; state = spent_as left s; level = lv }

-- the same on a stage: whether the record's lookup is tried, and on what
pub record Judgement : Type 0 where
  pub go : Bool
  pub stage : Stage

unfoldable pub judged : ℕ → ℕ → Stage → Judgement
judged depth zero v = record { go = false; stage = stopped Short v }
judged zero (suc left) v = record { go = false; stage = stopped Deep v }
judged (suc depth) (suc left) v = record { go = true; stage = in_run (spending left) v }

abbrev pub readied : ℕ → Record → Stage → Judgement
readied depth r v = cond (is_due r v) (judged depth v.run.tally.left (arrived r v)) (record { go = false; stage = v })

pub record Prepared (j : Judgement) (done coming : List ℕ) (r : Ready) : Type 0 where
  pub go : r.go ≡ j.go
  pub level : r.level ≡ shown j.stage.level
  pub ran : Ran done coming r.state j.stage.run

-- ---- a level's end

unfoldable pub closed_at : ℕ → Run → Run
closed_at end x = when (not (is_over x.tally.ending)) (changed (moved_to end)) x

-- ---- what a level's steps may count on

-- the record with this sequence index; which lookup it names isn't looked at before it is tried
abbrev pub at : ℕ → Record
at seq = record { seq = seq; lookup = 0 }

-- rows that hold a text, a level that is sound over it, and no more left and spent than an allowance
pub record Able (done coming : List ℕ) (s : State) (lv : Slots) : Type 0 where
  pub fits : Fits done coming s.place
  pub few : s.left + s.spent ≤ most_allowance
  pub neat : Neat lv
  pub sound : Sound 0 (length (text_of done coming s.place).glyphs) (level_of lv)
