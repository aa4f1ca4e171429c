-- What isn't refused by 1, 2 and 12 is a text, a cursor in it and an allowance. Assumes nothing.
use Rattle.std.proofs.Common.{sym}
use Rattle.run_calls.specs.CallLaws.{first_shows}
use Rattle.run_calls.proofs.run.Goals as goal

pub apply-requires : goal.apply-requires
apply-requires c =
    let a = c.args in
    first_shows (record {
      done = a.done.now;
      coming = a.coming.now;
      place = record { d = a.d; idx = a.idx };
      sets = a.sets.now;
      book = a.book.now;
      records = a.records.now;
      match = a.matched;
      given = a.given;
    }) a.allowance a.depth (sym c.in_ok-check.ensures)
