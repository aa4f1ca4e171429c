-- The words that are read are refused or run as the whole list. Assumes nothing.
use Rattle.run_record_structs.specs.Laws.{said_filled}
use Rattle.run_record_structs.proofs.run.Goals as goal

pub returns : goal.returns
returns c =
    let a = c.args in
    let g = c.run in
    said_filled a.done.now a.coming.now (record { d = a.d; idx = a.idx }) a.sets.now a.book.now a.matched a.given a.allowance a.depth
    g.new.done g.new.coming g.result a.records.now c.of-pairs.result c.of-pairs.ensures (rw c.as_words.ensures at g.ensures)
