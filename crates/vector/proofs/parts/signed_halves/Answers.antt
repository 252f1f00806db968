-- `vector::parts::signed_halves` meets its contract. Assumes nothing.
use Rattle.vector.proofs.Exact.{halves-fit, halves-read}
use Rattle.vector.proofs.parts.signed_halves.Goals as goal

pub overflow_cast-result : goal.overflow_cast-result
overflow_cast-result c = halves-fit c.args.v c.halves-x.ensures.bytes c.halves-x.ensures.lanes

pub returns : goal.returns
returns c = (halves-read c.args.v c.halves-x.ensures.bytes c.halves-x.ensures.lanes, c.halves-x.ensures.bytes)
