-- `vector::vsrab` by the law of its operation at a lane. Assumes nothing.
use Rattle.lanes.specs.declared.Size.TheVariants.{Byte}
use Rattle.lanes.proofs.Bridge.{on_two}
use Rattle.vector.proofs.Shifts.{amounts, shift_right_algebraic}
use Rattle.vector.proofs.vsrab.Goals as goal

pub returns : goal.returns
returns c = rw (c.of_bytes.ensures, c.bytes-x.ensures.lanes, c.bytes-y.ensures.lanes) (on_two (shift_right_algebraic Byte) c.bytes-x.ensures c.bytes-y.ensures)

pub overflow_shr-moved : goal.overflow_shr-moved
overflow_shr-moved c = amounts _ c.bytes-y.result
