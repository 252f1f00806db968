-- `vector::vmladduhm` by the law of its operation at a lane. Assumes nothing.
use Rattle.lanes.proofs.Bridge.{on_three}
use Rattle.vector.proofs.Multiplied.{mul_low_add}
use Rattle.vector.proofs.vmladduhm.Goals as goal

pub returns : goal.returns
returns c = rw (c.of_halves.ensures, c.reduced.ensures, c.halves-x.ensures.lanes, c.halves-y.ensures.lanes, c.halves-z.ensures.lanes) (on_three mul_low_add c.halves-x.ensures c.halves-y.ensures c.halves-z.ensures)
