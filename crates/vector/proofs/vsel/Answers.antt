-- `vector::vsel` by the law of its operation at a lane. Assumes nothing.
use Rattle.lanes.proofs.Bridge.{on_three}
use Rattle.vector.proofs.Bitwise.{select}
use Rattle.vector.proofs.vsel.Goals as goal

pub returns : goal.returns
returns c = rw (c.of_bytes.ensures, c.bytes-x.ensures.lanes, c.bytes-y.ensures.lanes, c.bytes-z.ensures.lanes) (on_three select c.bytes-x.ensures c.bytes-y.ensures c.bytes-z.ensures)
