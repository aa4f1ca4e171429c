-- What was put where there is room for it is what the line ends in. Assumes nothing.
use Rattle.explain_line.specs.Words.{put_ends}
use Rattle.std.proofs.Common.{rules}
use Rattle.explain.proofs.words.Line.put.Goals as goal

pub returns : goal.returns
returns c = put_ends (search rules) c.put-self.ensures
