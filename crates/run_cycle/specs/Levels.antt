-- The code's side: what a level of the run may count on and leaves, as the code keeps it.
use Rattle.std.specs.Prelude.{◌≡◌, List, ℕ, Some}
use Rattle.book.specs.Book.{Reads, read_book, lookups_of}
use Rattle.book.specs.Places.{index_of}
use Rattle.run.specs.Run.{Stage}
use Rattle.run_positions.specs.Slots.{shown}
use Rattle.run_step.specs.State.{Ran}
use Rattle.run_cycle.specs.declared.Closed.{Closed}

-- ---- the book, read once

-- the book reads, and these are its lookups' starts
pub record Indexed (ws starts : List ℕ) (count : ℕ) : Type 0 where
  pub reads : read_book ws ≡ Reads (lookups_of ws)
  pub is : index_of ws ≡ Some (record { count = count; starts = starts })

-- what a level that is done leaves
pub record Chained (done coming : List ℕ) (r : Closed) (v : Stage) : Type 0 where
  pub ran : Ran done coming r.state v.run
  pub level : r.level ≡ shown v.level
