-- `vector::vmsummbm` by the law of its operation at a lane. Assumes nothing.
use Rattle.lanes.proofs.Bridge.{on_three}
use Rattle.vector.proofs.Multiplied.{mul_sum_bytes_mixed}
use Rattle.vector.proofs.vmsummbm.Goals as goal

pub returns : goal.returns
returns c = rw (c.of_words.ensures, c.reduced.ensures, c.signed_byte.ensures, c.signed_byte-2.ensures, c.signed_byte-3.ensures, c.signed_byte-4.ensures, c.words-x.ensures.lanes, c.words-y.ensures.lanes, c.words-z.ensures.lanes) (on_three mul_sum_bytes_mixed c.words-x.ensures c.words-y.ensures c.words-z.ensures)
