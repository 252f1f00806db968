-- `vector::vaddsws` by the law of its operation at a lane. Assumes nothing.
use Rattle.lanes.proofs.Bridge.{placed_two}
use Rattle.vector.proofs.Sums.{add_words}
use Rattle.vector.proofs.vaddsws.Goals as goal

pub returns : goal.returns
returns c = rw (c.sum_of_words.ensures, c.words.ensures.lanes, c.words-2.ensures.lanes) (placed_two add_words c.words.ensures c.words-2.ensures)
