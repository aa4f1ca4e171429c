-- What a run of records does to a text (01, "Records over a text"; A's `apply_lookup` and `recurse`).
-- A chain lookup applies records, and a record applies a lookup: the depth that is left falls from a chain to the lookups of its records.
-- What a lookup does at the cursor, and how a level is repaired after it, is asked of `rules`; Deeds.antt has those that 01 gives.
use Rattle.std.specs.Prelude.{Bool, true, false, not, ◌&&◌, List, [], ◌∷◌, map, ℕ, zero, suc, ◌+◌, ◌-◌, ltb, length, get_or}
use Rattle.text.specs.Text.{Text, moved_to}
use Rattle.book.specs.Book.{Record, Lookup, Found, lookup_at}
use Rattle.run.specs.declared.Ending.{Ending}
use Rattle.run.specs.declared.Ending.TheVariants.{Finished, Short, Deep, Full}
use Rattle.run.specs.Repair.{Level, Repairing}

-- ---- a run: the text, and how the run stands. What changes one of them is a helper below

-- the allowance that is left, the lookups tried so far, and how the run would end now
pub record Tally : Type 0 where
  pub left : ℕ
  pub spent : ℕ
  pub ending : Ending

pub record Run : Type 0 where
  pub text : Text
  pub tally : Tally

-- a run that begins: nothing is tried yet
abbrev pub fresh : ℕ → Tally
fresh allowance = record { left = allowance; spent = 0; ending = Finished }

abbrev pub begun : ℕ → Text → Run
begun allowance t = record { text = t; tally = fresh allowance }

-- another text, the same tally
abbrev pub changed : (Text → Text) → Run → Run
changed f x = record { text = f x.text; tally = x.tally }

-- another tally, the same text
abbrev pub tallied : (Tally → Tally) → Run → Run
tallied f x = record { text = x.text; tally = f x.tally }

abbrev pub ended : Ending → Tally → Tally
ended e y = record { left = y.left; spent = y.spent; ending = e }

abbrev pub ending_as : Ending → Run → Run
ending_as e x = tallied (ended e) x

-- one try more, with so much left
abbrev pub spent_one : ℕ → Tally → Tally
spent_one left y = record { left = left; spent = y.spent + 1; ending = y.ending }

abbrev pub spending : ℕ → Run → Run
spending left x = tallied (spent_one left) x

abbrev pub size : Run → ℕ
size x = length x.text.glyphs

-- ---- endings

-- after Deep or Full no record at any level is looked at again
abbrev pub is_over : Ending → Bool
is_over Finished = false
is_over Short = false
is_over Deep = true
is_over Full = true

-- why a lookup ends a run: its result would pass the limit. A further reason is a case here and a line of `endingFor`
pub data Reason : Type 0 where
  PastLimit : Reason

abbrev pub ending_for : Reason → Ending
ending_for PastLimit = Full

-- ---- a level at work: its positions and the run

pub record Stage : Type 0 where
  pub level : Level
  pub run : Run

abbrev pub in_run : (Run → Run) → Stage → Stage
in_run f v = record { level = v.level; run = f v.run }

-- a change that a test lets happen
abbrev pub when : {X : Type 0} → Bool → (X → X) → X → X
when true f x = f x
when false f x = x

-- ---- what a lookup does at the cursor

-- what it makes of a text by itself: another text, which may be the same, or none, and the run ends for a reason
pub data Made : Type 0 where
  Into : Text → Made
  Halts : Reason → Made

abbrev pub made_in : Made → Run → Run
made_in (Into t) x = changed (λ u. t) x
made_in (Halts why) x = ending_as (ending_for why) x

-- a chain's match: its positions and its end, from the text's first glyph on
pub data Match : Type 0 where
  Matched : List ℕ → ℕ → Match
  Unmatched : Match

-- a lookup acts by itself, or is a chain, which applies records where it matches
pub data Deed : Type 0 where
  Acts : (Text → Made) → Deed
  Chains : (Text → Match) → List Record → Deed

-- what a run asks: what a lookup does, and how a level is repaired after it
pub record Rules : Type 0 where
  pub deed : Found → Deed
  pub repair : Found → Repairing

-- a chain that matched opens a level for its records
abbrev pub opened : List ℕ → ℕ → Run → Stage
opened positions end x = record { level = record { live = true; positions = positions; end = end }; run = x }

abbrev pub chained_by : (Stage → Stage) → Match → Run → Run
chained_by records (Matched positions end) x = (records (opened positions end x)).run
chained_by records Unmatched x = x

-- a deed done, where `chain rs` does the records rs of a level
abbrev pub done_by : (List Record → Stage → Stage) → Deed → Run → Run
done_by chain (Acts act) x = made_in (act x.text) x
done_by chain (Chains match records) x = chained_by (chain records) (match x.text) x

-- ---- a record

abbrev pub place_of : Record → Stage → ℕ
place_of r v = get_or v.level.positions r.seq 0

-- a level that goes on in a run that isn't over; a sequence index below the count; a position in the text
abbrev pub is_due : Record → Stage → Bool
is_due r v =
    v.level.live && (not (is_over v.run.tally.ending) && (ltb r.seq (length v.level.positions) && ltb (place_of r v) (size v.run)))

abbrev pub arrived : Record → Stage → Stage
arrived r v = in_run (changed (moved_to (place_of r v))) v

-- the level stops
abbrev pub stopped : Ending → Stage → Stage
stopped e v = record { level = record { live = false; positions = v.level.positions; end = v.level.end }; run = ending_as e v.run }

-- a lookup as a record meets it: what it does to a run, and how the record's level is repaired after it
pub record Effect : Type 0 where
  pub does : Run → Run
  pub repair : Repairing

-- each lookup with its repair
abbrev pub acting : (ℕ → Repairing) → (ℕ → Run → Run) → ℕ → Effect
acting mend lookup k = record { does = lookup k; repair = mend k }

-- the positions after the record's lookup left the run y
abbrev pub followed_by : Repairing → Record → Stage → Run → Stage
followed_by repair r v y = record { level = repair r.seq (size v.run) (size y) v.level; run = y }

-- a due record, by the depth and the allowance that are left: allowance 0, Short; depth 0, Deep; else one is spent and its lookup applied
unfoldable pub tried_by : (ℕ → Effect) → ℕ → ℕ → Record → Stage → Stage
tried_by effects depth zero r v = stopped Short v
tried_by effects zero (suc left) r v = stopped Deep v
tried_by effects (suc depth) (suc left) r v = followed_by (effects r.lookup).repair r v ((effects r.lookup).does (spending left v.run))

abbrev pub due_by : (ℕ → Effect) → ℕ → Record → Stage → Stage
due_by effects depth r v = tried_by effects depth v.run.tally.left r (arrived r v)

abbrev pub step_by : (ℕ → Effect) → ℕ → Record → Stage → Stage
step_by effects depth r v = when (is_due r v) (due_by effects depth r) v

-- ---- a level

unfoldable pub records_by : (ℕ → Effect) → ℕ → List Record → Stage → Stage
records_by effects depth [] v = v
records_by effects depth (r ∷ rs) v = records_by effects depth rs (step_by effects depth r v)

-- a level ends by moving to its end, except in a run that is over
unfoldable pub closed : Stage → Stage
closed v = in_run (when (not (is_over v.run.tally.ending)) (changed (moved_to v.level.end))) v

-- ---- the book's lookups, and the records of a level, by the depth that is left

module _ (rules : Rules) (book : List Lookup) where
  -- the level of a record of lookup k is repaired as the rules say of that lookup
  abbrev pub mending : ℕ → Repairing
  mending k = rules.repair (lookup_at k book)

  abbrev pub deed_at : ℕ → Deed
  deed_at k = rules.deed (lookup_at k book)

  -- at depth 0 no record's lookup is tried
  unfoldable pub chain_run : ℕ → List Record → Stage → Stage
  chain_run zero rs v = closed (records_by (acting mending (λ k x. x)) zero rs v)
  chain_run (suc d) rs v = closed (records_by (acting mending (λ k. done_by (chain_run d) (deed_at k))) (suc d) rs v)

  -- a lookup whose records have the depth d
  abbrev pub lookup_run : ℕ → ℕ → Run → Run
  lookup_run d k = done_by (chain_run d) (deed_at k)

  -- a run handed a match, whose level is the first
  abbrev pub run_on : ℕ → List Record → List ℕ → ℕ → ℕ → Text → Stage
  run_on depth rs positions end allowance t = chain_run depth rs (opened positions end (begun allowance t))

-- ---- the match handed in counts places in the coming row; a run's own positions count from the first glyph of `done`

-- a place of the coming row, from the text's first glyph on: glyph idx of the row is glyph d of the text
abbrev pub from_done : ℕ → ℕ → ℕ → ℕ
from_done idx d p = d + (p - idx)

-- the level of a match whose places count in the coming row
abbrev pub moved_level : ℕ → ℕ → List ℕ → ℕ → Level
moved_level idx d places end = record { live = true; positions = map (from_done idx d) places; end = from_done idx d end }

-- ---- refusal 12: an allowance over this, or a depth over that

abbrev pub most_allowance : ℕ
most_allowance = 2147483647

abbrev pub most_depth : ℕ
most_depth = 64
