-- `vector::vaddcuw` by the law of its operation at a lane. Assumes nothing.
use Rattle.lanes.proofs.Bridge.{on_two}
use Rattle.vector.proofs.Sums.{add_carry}
use Rattle.vector.proofs.vaddcuw.Goals as goal

pub returns : goal.returns
returns c = rw (c.of_words.ensures, c.words-x.ensures.lanes, c.words-y.ensures.lanes) (on_two add_carry c.words-x.ensures c.words-y.ensures)
