-- `vector::vmaxub` by the law of its operation at a lane. Assumes nothing.
use Rattle.lanes.specs.declared.Size.TheVariants.{Byte}
use Rattle.lanes.proofs.Bridge.{on_two}
use Rattle.vector.proofs.Ordered.{max_u}
use Rattle.vector.proofs.vmaxub.Goals as goal

pub returns : goal.returns
returns c = rw (c.of_bytes.ensures, c.bytes-x.ensures.lanes, c.bytes-y.ensures.lanes) (on_two (max_u Byte) c.bytes-x.ensures c.bytes-y.ensures)
