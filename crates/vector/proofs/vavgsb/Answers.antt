-- `vector::vavgsb` by the law of its operation at a lane. Assumes nothing.
use Rattle.lanes.specs.declared.Size.TheVariants.{Byte}
use Rattle.lanes.proofs.Bridge.{on_two}
use Rattle.vector.proofs.Shifts.{avg_s}
use Rattle.vector.proofs.vavgsb.Goals as goal

pub returns : goal.returns
returns c = rw (c.of_bytes.ensures, c.bytes.ensures.lanes, c.bytes-2.ensures.lanes) (on_two (avg_s Byte) c.bytes.ensures c.bytes-2.ensures)
