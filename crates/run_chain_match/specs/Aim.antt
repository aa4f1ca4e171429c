-- The code's side: a chain at the cursor as the code keeps it: where it matched, its level in slots, and where its records are in the book.
use Rattle.std.specs.Prelude.{true, List, map, ℕ, Option, Some, None}
use Rattle.text.specs.Text.{Text}
use Rattle.verdict.specs.declared.Test.{Test}
use Rattle.verdict.specs.Verdict.{Asked, value_by}
use Rattle.book.specs.declared.Part.{Part}
use Rattle.book.specs.declared.ChainParts.{ChainParts}
use Rattle.book.specs.declared.Entry.{Entry}
use Rattle.book.specs.Book.{Chain, records_of}
use Rattle.book.specs.Places.{part_of, chain_of}
use Rattle.run.specs.declared.Given.{Given}
use Rattle.run.specs.Run.{Match, Matched, Unmatched}
use Rattle.run.specs.Chain.{chain_by}
use Rattle.run.specs.Deeds.{ids_of}
use Rattle.run_positions.specs.Slots.{shown}
use Rattle.run_chain_match.specs.declared.Aim.{Aim}
use Rattle.run_chain_match.specs.declared.Tests.{Tests}

abbrev pub aim_at : Part → Match → Option Aim
aim_at records (Matched positions end) =
    Some (record { level = shown (record { live = true; positions = positions; end = end }); records = records })
aim_at records Unmatched = None

-- a chain as it is handed over, in parts of the book: the values of each by the part's own test, the first glyph's by the input's
abbrev pub handed_chain : Tests → List ℕ → ChainParts → Chain Asked
handed_chain tests ws c = record {
  first = value_by tests.input ws c.first;
  backtrack = map (value_by tests.backtrack ws) (part_of ws c.backtrack);
  input = map (value_by tests.input ws) (part_of ws c.input);
  lookahead = map (value_by tests.lookahead ws) (part_of ws c.lookahead);
  records = records_of (part_of ws c.records);
}

-- kind 3: ids all through
abbrev pub by_id : Tests
by_id = record { backtrack = Test.Equal; input = Test.Equal; lookahead = Test.Equal }

-- the chain of an entry
abbrev pub aimed_at : Given → List ℕ → List ℕ → Option Entry → Text → Option Aim
aimed_at given sets ws (Some (Entry.Chain props parts)) t = aim_at parts.records (chain_by given sets props (ids_of (chain_of ws parts)) t)
aimed_at given sets ws (Some (Entry.One props from to)) t = None
aimed_at given sets ws (Some (Entry.Many props from ids)) t = None
aimed_at given sets ws None t = None
