-- The code's side: what a lookup that acts by itself, found as an entry of the book, makes of a run.
use Rattle.std.specs.Prelude.{List, ℕ, Option, Some, None}
use Rattle.text.specs.Text.{written}
use Rattle.book.specs.declared.Entry.{Entry}
use Rattle.book.specs.Places.{part_of}
use Rattle.run.specs.Run.{Run, made_in}
use Rattle.run.specs.Deeds.{on_id, renamed_by, multiplied_by}

abbrev pub one_on : ℕ → ℕ → Run → Run
one_on from to x = made_in (on_id from (renamed_by written to) x.text) x

abbrev pub many_on : ℕ → List ℕ → Run → Run
many_on from ids x = made_in (on_id from (multiplied_by written ids) x.text) x

-- kinds 1 and 2
abbrev pub acted_by : List ℕ → Option Entry → Run → Run
acted_by ws (Some (Entry.One props from to)) x = one_on from to x
acted_by ws (Some (Entry.Many props from ids)) x = many_on from (part_of ws ids) x
acted_by ws (Some (Entry.Chain props parts)) x = x
acted_by ws None x = x
