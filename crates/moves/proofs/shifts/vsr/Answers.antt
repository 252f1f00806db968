use Rattle.moves.proofs.Shifted.{number-is}
use Rattle.moves.proofs.shifts.vsr.Goals as goal

pub returns : goal.returns
returns c = rw (c.bytes_of.ensures, c.from_be_bytes.ensures, c.bits.ensures.0, number-is c.args.a)
