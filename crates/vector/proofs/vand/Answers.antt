-- `vector::vand` by the law of its operation at a lane. Assumes nothing.
use Rattle.lanes.proofs.Bridge.{on_two}
use Rattle.vector.proofs.Bitwise.{and}
use Rattle.vector.proofs.vand.Goals as goal

pub returns : goal.returns
returns c = rw (c.of_bytes.ensures, c.bytes-x.ensures.lanes, c.bytes-y.ensures.lanes) (on_two and c.bytes-x.ensures c.bytes-y.ensures)
