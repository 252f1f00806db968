-- `vector::vmsumshm` by the law of its operation at a lane. Assumes nothing.
use Rattle.lanes.proofs.Bridge.{on_three}
use Rattle.vector.proofs.Multiplied.{mul_sum_halves_s}
use Rattle.vector.proofs.vmsumshm.Goals as goal

pub returns : goal.returns
returns c = rw (c.of_words.ensures, c.reduced.ensures, c.signed_half.ensures, c.signed_half-2.ensures, c.signed_half-3.ensures, c.signed_half-4.ensures, c.words-x.ensures.lanes, c.words-y.ensures.lanes, c.words-z.ensures.lanes) (on_three mul_sum_halves_s c.words-x.ensures c.words-y.ensures c.words-z.ensures)
