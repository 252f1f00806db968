use Rattle.std.proofs.Common.{arith}
use mir.Syntax.{w8}
use Rattle.packing.proofs.Clamped.{mask-fits, mask-is}
use Rattle.packing.proofs.narrowed.low_bytes.Goals as goal

pub overflow_cast-result : goal.overflow_cast-result
overflow_cast-result c = mask-fits w8 255 (omega arith) c.args.v 16

pub returns : goal.returns
returns c = mask-is 8 16 c.args.v c.fits-v.0
