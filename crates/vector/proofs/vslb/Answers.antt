-- `vector::vslb` by the law of its operation at a lane. Assumes nothing.
use Rattle.lanes.specs.declared.Size.TheVariants.{Byte}
use Rattle.lanes.proofs.Bridge.{on_two}
use Rattle.vector.proofs.Shifts.{amounts, shift_left}
use Rattle.vector.proofs.vslb.Goals as goal

pub returns : goal.returns
returns c = rw (c.of_bytes.ensures, c.bytes-x.ensures.lanes, c.bytes-y.ensures.lanes) (on_two (shift_left Byte) c.bytes-x.ensures c.bytes-y.ensures)

pub overflow_shl-x : goal.overflow_shl-x
overflow_shl-x c = amounts _ c.bytes-y.result
