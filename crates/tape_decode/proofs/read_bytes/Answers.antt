-- By the table that the opening chooses. Assumes nothing.
use Rattle.std.proofs.Common.{Option, ap, sym}
use Rattle.verdict.specs.declared.Table.{Table}
use Rattle.tape_frame.specs.Frame.{of_kind, read_bytes}
use Rattle.tape_frame.specs.DecodingLaws.{decodes_none}
use Rattle.tape_decode.proofs.read_bytes.Goals as goal

pub returns-in_err-table : goal.returns-in_err-table
unfolding read_bytes
returns-in_err-table c = let b = c.args.b.now in
    rw c.from_residual.ensures
    (decodes_none (read_bytes b) c.args.lists.now
    (ap (λ (k : Option Table). of_kind k b) (sym c.in_err-table.ensures)))

pub returns : goal.returns
unfolding read_bytes
returns c = rw (← c.in_ok-table.ensures) c.read_whole.ensures
