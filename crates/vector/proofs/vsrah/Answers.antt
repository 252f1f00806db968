-- `vector::vsrah` by the law of its operation at a lane. Assumes nothing.
use Rattle.lanes.specs.declared.Size.TheVariants.{Half}
use Rattle.lanes.proofs.Bridge.{on_two}
use Rattle.vector.proofs.Shifts.{shift_right_algebraic}
use Rattle.vector.proofs.vsrah.Goals as goal

pub returns : goal.returns
returns c = rw (c.of_halves.ensures, c.halves-x.ensures.lanes, c.halves-y.ensures.lanes) (on_two (shift_right_algebraic Half) c.halves-x.ensures c.halves-y.ensures)
