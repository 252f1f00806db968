-- `lanes::of_bytes` meets its contract. Assumes nothing.
use Rattle.lanes.proofs.Recast.{bytes_as_they_are}
use Rattle.lanes.proofs.of_bytes.Goals as goal

pub returns : goal.returns
returns c = bytes_as_they_are c.args.v c.fits-v.0 c.fits-v.1
