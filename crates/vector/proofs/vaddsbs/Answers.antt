-- `vector::vaddsbs` by the law of its operation at a lane. Assumes nothing.
use Rattle.lanes.specs.declared.Size.TheVariants.{Byte}
use Rattle.lanes.proofs.Bridge.{marked_on_two}
use Rattle.vector.proofs.Sums.{add_sat_s}
use Rattle.vector.proofs.vaddsbs.Goals as goal

pub returns : goal.returns
returns c = rw (c.with_marks.ensures, c.of_bytes.ensures, c.bytes-x.ensures.lanes, c.bytes-y.ensures.lanes) (marked_on_two (add_sat_s Byte) c.bytes-x.ensures c.bytes-y.ensures)
