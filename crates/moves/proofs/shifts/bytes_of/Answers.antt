use Rattle.moves.proofs.Shifted.{digits-are}
use Rattle.moves.proofs.shifts.bytes_of.Goals as goal

pub returns : goal.returns
returns c = digits-are c.args.x
