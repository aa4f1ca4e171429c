-- The run on rows of words: refused by 1, 2, 12, 11 or 7 in this order with no word changed, else what the run on the text says (01, "Records over a
-- text", "When the desk says no").
use Rattle.std.specs.Prelude.{◌≡◌, cond, List, [], ◌∷◌, ℕ, ⊤, Result, Ok, Err, length, take}
use Rattle.std.specs.Result.{IsOkAnd}
use Rattle.std.proofs.Math.Option.{Option, none, some}
use Rattle.glyph.specs.Reply.{Reply, replies}
use Rattle.text.specs.declared.Place.{Place}
use Rattle.text.specs.Text.{text_of, Holds, Clear}
use Rattle.matching.specs.declared.InputMatch.{InputMatch}
use Rattle.matching.specs.Answers.{slotted, match_end}
use Rattle.book.specs.Book.{records_of, read_book, is_read, lookups_of}
use Rattle.run.specs.declared.Given.{Given}
use Rattle.run.specs.Run.{Stage, run_on, moved_level}
use Rattle.run.specs.Deeds.{ruled}
use Rattle.run.specs.Numbers.{ending_number, run_refusal_number}
use Rattle.run.specs.declared.RunRefusal.{RunRefusal}
use Rattle.run.specs.declared.RunRefusal.TheVariants.{Book}
use Rattle.run_refuse.specs.Refuse.{checked_first, checked_match}
use Rattle.run_calls.specs.declared.RunAnswer.{RunAnswer}

-- what is handed to a run: all but the allowance and the depth
pub record Handed : Type 0 where
  pub done : List ℕ
  pub coming : List ℕ
  pub place : Place
  pub sets : List ℕ
  pub book : List ℕ
  pub records : List ℕ
  pub match : InputMatch
  pub given : Given

-- ---- refusals

abbrev pub then : Result ⊤ RunRefusal → Result ⊤ RunRefusal → Result ⊤ RunRefusal
then (Ok ok) next = next
then (Err why) next = Err why

-- 11: the book reads
abbrev pub checked_book : List ℕ → Result ⊤ RunRefusal
checked_book book = cond (is_read (read_book book)) (Ok tt) (Err Book)

-- 1, 2, 12, 11, 7, in this order
unfoldable pub checked_all : Handed → ℕ → ℕ → Result ⊤ RunRefusal
checked_all h allowance depth =
    then (checked_first h.done h.coming h.place h.sets h.records allowance depth)
    (then (checked_book h.book) (checked_match h.place.idx h.match))

-- ---- the answer

-- the refusal alone: where a run is refused there is no answer
abbrev pub refused_by : RunRefusal → Result RunAnswer RunRefusal
refused_by why = Err why

-- what a run leaves: the answer; the text in the rows; and 0 in the cells that are in neither part
pub record RunLeaves (v : Stage) (done coming : List ℕ) (r : RunAnswer) : Type 0 where
  pub ending : r.ending ≡ v.run.tally.ending
  pub spent : r.spent ≡ v.run.tally.spent
  pub count : r.count ≡ length v.level.positions
  pub positions : r.positions ≡ slotted v.level.positions
  pub holds : Holds done coming (record { d = r.d; idx = r.idx }) v.run.text
  pub clear : Clear done coming (record { d = r.d; idx = r.idx })

-- where the rows are parted afterwards; of a refused call, whose text stays, 0 and 0 are our choice
abbrev pub answer_place : Result RunAnswer RunRefusal → Place
answer_place (Ok r) = record { d = r.d; idx = r.idx }
answer_place (Err why) = record { d = 0; idx = 0 }

-- the run on the text that the rows hold, with the match's places counted from the text's first glyph
abbrev pub run_says : Handed → ℕ → ℕ → Stage
run_says h allowance depth =
    let p = h.place in
    let m = h.match in
    let first = moved_level p.idx p.d (take m.count m.positions) (match_end m.answer) in
    run_on (ruled h.given h.sets) (lookups_of h.book) depth (records_of h.records) first.positions first.end allowance
    (text_of h.done h.coming p)

-- refused: the number, and no word changed; accepted: what the run on the text says
abbrev pub SaidBy : Result ⊤ RunRefusal → Stage → List ℕ → List ℕ → List ℕ → List ℕ → Result RunAnswer RunRefusal → Type 0
SaidBy (Err why) v done coming done' coming' r = (r ≡ refused_by why) × (done' ≡ done) × (coming' ≡ coming)
SaidBy (Ok ok) v done coming done' coming' r = IsOkAnd r (RunLeaves v done' coming')

-- what a run says of what it is handed: its answer, and both rows afterwards
abbrev pub Said : Handed → ℕ → ℕ → List ℕ → List ℕ → Result RunAnswer RunRefusal → Type 0
Said h allowance depth done coming r = SaidBy (checked_all h allowance depth) (run_says h allowance depth) h.done h.coming done coming r

-- ---- this paper's number and values of each answer; a run that is Finished has none, 0 is our choice

abbrev pub checked_number : Result ⊤ RunRefusal → Option ℕ
checked_number (Ok ok) = none
checked_number (Err why) = some (run_refusal_number why)

-- spent, d, idx, the count and the positions; of a refusal the number alone
abbrev pub run_reply : Result RunAnswer RunRefusal → Reply
run_reply (Ok r) = replies (ending_number r.ending) (r.spent ∷ r.d ∷ r.idx ∷ r.count ∷ take r.count r.positions)
run_reply (Err why) = replies (run_refusal_number why) []
