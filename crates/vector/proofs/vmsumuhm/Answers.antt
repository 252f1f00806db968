-- `vector::vmsumuhm` by the law of its operation at a lane. Assumes nothing.
use Rattle.lanes.proofs.Bridge.{on_three}
use Rattle.vector.proofs.Multiplied.{mul_sum_halves_u}
use Rattle.vector.proofs.vmsumuhm.Goals as goal

pub returns : goal.returns
returns c = rw (c.of_words.ensures, c.reduced.ensures, c.words-x.ensures.lanes, c.words-y.ensures.lanes, c.words-z.ensures.lanes) (on_three mul_sum_halves_u c.words-x.ensures c.words-y.ensures c.words-z.ensures)
