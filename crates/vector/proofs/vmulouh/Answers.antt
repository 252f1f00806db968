-- `vector::vmulouh` by the law of its operation at a lane. Assumes nothing.
use Rattle.lanes.proofs.Bridge.{on_two}
use Rattle.vector.proofs.Multiplied.{mul_odd_halves}
use Rattle.vector.proofs.vmulouh.Goals as goal

pub returns : goal.returns
returns c = rw (c.of_words.ensures, c.words-x.ensures.lanes, c.words-y.ensures.lanes) (on_two mul_odd_halves c.words-x.ensures c.words-y.ensures)
