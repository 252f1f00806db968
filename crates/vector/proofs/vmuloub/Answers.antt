-- `vector::vmuloub` by the law of its operation at a lane. Assumes nothing.
use Rattle.lanes.proofs.Bridge.{on_two}
use Rattle.vector.proofs.Multiplied.{mul_odd_bytes}
use Rattle.vector.proofs.vmuloub.Goals as goal

pub returns : goal.returns
returns c = rw (c.of_halves.ensures, c.halves-x.ensures.lanes, c.halves-y.ensures.lanes) (on_two mul_odd_bytes c.halves-x.ensures c.halves-y.ensures)
