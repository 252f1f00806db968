use Rattle.lanes.specs.Integer.{modulo}
use Rattle.lanes.specs.Numbers.{number_at}
use Rattle.packing.specs.Resized.{vector_of}
use Rattle.packing.proofs.Resized.{bytes-wider}
use Rattle.packing.proofs.unpacks.vupklsb.Goals as goal

pub returns : goal.returns
unfolding vector_of number_at modulo
returns c = let v = c.bytes-v.ensures in rw (c.signs.ensures, v.lanes) (bytes-wider c.args.b v.bytes 8 8)
