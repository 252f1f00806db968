-- `vector::vcmpequh` by the law of its operation at a lane. Assumes nothing.
use Rattle.lanes.specs.declared.Size.TheVariants.{Half}
use Rattle.lanes.proofs.Bridge.{on_two}
use Rattle.vector.proofs.Ordered.{equal}
use Rattle.vector.proofs.vcmpequh.Goals as goal

pub returns : goal.returns
returns c = rw (c.of_halves.ensures, c.halves-x.ensures.lanes, c.halves-y.ensures.lanes) (on_two (equal Half) c.halves-x.ensures c.halves-y.ensures)
