-- `vector::vrlb` by the law of its operation at a lane. Assumes nothing.
use Rattle.lanes.specs.declared.Size.TheVariants.{Byte}
use Rattle.lanes.proofs.Bridge.{on_two}
use Rattle.vector.proofs.Shifts.{amounts, rests, rotate_left}
use Rattle.vector.proofs.vrlb.Goals as goal

pub returns : goal.returns
returns c = rw (c.of_bytes.ensures, c.bytes-x.ensures.lanes, c.bytes-y.ensures.lanes) (on_two (rotate_left Byte) c.bytes-x.ensures c.bytes-y.ensures)

pub overflow_shr-right-2 : goal.overflow_shr-right-2
overflow_shr-right-2 c = rests _ c.bytes-y.result

pub overflow_shl-x : goal.overflow_shl-x
overflow_shl-x c = amounts _ c.bytes-y.result
