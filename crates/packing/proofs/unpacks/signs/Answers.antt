use Rattle.packing.proofs.Resized.{signs-are}
use Rattle.packing.proofs.unpacks.signs.Goals as goal

pub returns : goal.returns
returns c = signs-are 16 c.args.v c.fits-v.0
