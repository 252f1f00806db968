-- `vector::vsubshs` by the law of its operation at a lane. Assumes nothing.
use Rattle.lanes.specs.declared.Size.TheVariants.{Half}
use Rattle.lanes.proofs.Bridge.{marked_on_two}
use Rattle.vector.proofs.Sums.{sub_sat_s}
use Rattle.vector.proofs.vsubshs.Goals as goal

pub returns : goal.returns
returns c = rw (c.with_marks.ensures, c.of_halves.ensures, c.halves-x.ensures.lanes, c.halves-y.ensures.lanes) (marked_on_two (sub_sat_s Half) c.halves-x.ensures c.halves-y.ensures)
