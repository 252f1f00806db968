-- `vector::vavgsh` by the law of its operation at a lane. Assumes nothing.
use Rattle.lanes.specs.declared.Size.TheVariants.{Half}
use Rattle.lanes.proofs.Bridge.{on_two}
use Rattle.vector.proofs.Shifts.{avg_s}
use Rattle.vector.proofs.vavgsh.Goals as goal

pub returns : goal.returns
returns c = rw (c.of_halves.ensures, c.halves.ensures.lanes, c.halves-2.ensures.lanes) (on_two (avg_s Half) c.halves.ensures c.halves-2.ensures)
