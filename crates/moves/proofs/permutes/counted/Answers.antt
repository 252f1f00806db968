use Rattle.std.proofs.Common.{arith}
use Rattle.moves.proofs.ByName.{table-from}
use Rattle.moves.proofs.permutes.counted.Goals as goal

pub returns : goal.returns
returns c = table-from (λ j. j) 32 c.args.n (omega arith)
