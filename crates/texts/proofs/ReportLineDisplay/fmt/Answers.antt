-- the text of the line that tells how a run ended is what is put.
use Rattle.std.proofs.Common.{arith}
use Rattle.std.proofs.Output.{has_written_of_eq}
use Rattle.texts.proofs.Joined.{added}
use Rattle.texts.proofs.ReportLineDisplay.fmt.Goals as goal

pub returns-clause-writes : goal.returns-clause-writes
returns-clause-writes g c = λ plain ok. has_written_of_eq _ _ _ _ _ (added c.put-n.ensures.adds (omega arith)) (c.write_line.ensures.writes plain ok)
