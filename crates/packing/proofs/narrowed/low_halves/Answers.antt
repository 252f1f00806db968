use Rattle.std.proofs.Common.{arith}
use mir.Syntax.{w16}
use Rattle.packing.proofs.Clamped.{mask-fits, mask-is}
use Rattle.packing.proofs.narrowed.low_halves.Goals as goal

pub overflow_cast-result : goal.overflow_cast-result
overflow_cast-result c = mask-fits w16 65535 (omega arith) c.args.v 8

pub returns : goal.returns
returns c = mask-is 16 8 c.args.v c.fits-v.0
