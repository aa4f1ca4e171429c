-- A call that isn't refused has its cursor in the text and few enough values. Assumes nothing.
use Rattle.std.proofs.Common.{length, sym}
use Rattle.matching_calls.specs.Table.{input_fits}
use Rattle.matching_calls.proofs.Parts.{input_ready}
use Rattle.matching_calls.proofs.match_input.Goals as goal

pub input-requires : goal.input-requires
input-requires c =
    let a = c.args in
    input_ready a.done.now a.d a.coming.now a.len a.idx a.sets.now a.values.now _ c.first-text.ensures
    ((input_fits a.done.now a.d a.coming.now a.len a.idx a.sets.now (length a.values.now)).0 (sym c.in_default.ensures))
