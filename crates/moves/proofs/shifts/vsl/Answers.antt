use Rattle.std.proofs.Common.{◌*◌, ◌^◌}
use Rattle.moves.specs.Shifted.{number, bits}
use Rattle.moves.proofs.Shifted.{number-is, last-are}
use Rattle.moves.proofs.shifts.vsl.Goals as goal

pub returns : goal.returns
returns c = rw (c.bytes_of.ensures, c.from_be_bytes.ensures, c.bits.ensures.0, number-is c.args.a) (last-are (number 16 c.args.a * 2 ^ bits c.args.b))
