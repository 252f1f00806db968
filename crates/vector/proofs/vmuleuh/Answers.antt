-- `vector::vmuleuh` by the law of its operation at a lane. Assumes nothing.
use Rattle.lanes.proofs.Bridge.{on_two}
use Rattle.vector.proofs.Multiplied.{mul_even_halves}
use Rattle.vector.proofs.vmuleuh.Goals as goal

pub returns : goal.returns
returns c = rw (c.of_words.ensures, c.words-x.ensures.lanes, c.words-y.ensures.lanes) (on_two mul_even_halves c.words-x.ensures c.words-y.ensures)
