-- `vector::vmulosb` by the law of its operation at a lane. Assumes nothing.
use Rattle.lanes.proofs.Bridge.{on_two}
use Rattle.vector.proofs.Multiplied.{mul_odd_signed_bytes}
use Rattle.vector.proofs.vmulosb.Goals as goal

pub returns : goal.returns
returns c = rw (c.of_halves.ensures, c.signed_byte_of_half.ensures, c.signed_byte_of_half-2.ensures, c.halves-x.ensures.lanes, c.halves-y.ensures.lanes) (on_two mul_odd_signed_bytes c.halves-x.ensures c.halves-y.ensures)
