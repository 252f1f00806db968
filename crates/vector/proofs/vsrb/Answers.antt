-- `vector::vsrb` by the law of its operation at a lane. Assumes nothing.
use Rattle.lanes.specs.declared.Size.TheVariants.{Byte}
use Rattle.lanes.proofs.Bridge.{on_two}
use Rattle.vector.proofs.Shifts.{amounts, shift_right}
use Rattle.vector.proofs.vsrb.Goals as goal

pub returns : goal.returns
returns c = rw (c.of_bytes.ensures, c.bytes-x.ensures.lanes, c.bytes-y.ensures.lanes) (on_two (shift_right Byte) c.bytes-x.ensures c.bytes-y.ensures)

pub overflow_shr-x : goal.overflow_shr-x
overflow_shr-x c = amounts _ c.bytes-y.result
