-- `vector::vnor` by the law of its operation at a lane. Assumes nothing.
use Rattle.lanes.proofs.Bridge.{on_two}
use Rattle.vector.proofs.Bitwise.{nor}
use Rattle.vector.proofs.vnor.Goals as goal

pub returns : goal.returns
returns c = rw (c.of_bytes.ensures, c.bytes-x.ensures.lanes, c.bytes-y.ensures.lanes) (on_two nor c.bytes-x.ensures c.bytes-y.ensures)
