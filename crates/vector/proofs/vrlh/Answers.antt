-- `vector::vrlh` by the law of its operation at a lane. Assumes nothing.
use Rattle.lanes.specs.declared.Size.TheVariants.{Half}
use Rattle.lanes.proofs.Bridge.{on_two}
use Rattle.vector.proofs.Shifts.{rotate_left}
use Rattle.vector.proofs.vrlh.Goals as goal

pub returns : goal.returns
returns c = rw (c.of_halves.ensures, c.halves-x.ensures.lanes, c.halves-y.ensures.lanes) (on_two (rotate_left Half) c.halves-x.ensures c.halves-y.ensures)
