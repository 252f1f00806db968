-- `vector::vmulesh` by the law of its operation at a lane. Assumes nothing.
use Rattle.lanes.proofs.Bridge.{on_two}
use Rattle.vector.proofs.Multiplied.{mul_even_signed_halves}
use Rattle.vector.proofs.vmulesh.Goals as goal

pub returns : goal.returns
returns c = rw (c.of_words.ensures, c.signed_half.ensures, c.signed_half-2.ensures, c.words-x.ensures.lanes, c.words-y.ensures.lanes) (on_two mul_even_signed_halves c.words-x.ensures c.words-y.ensures)
