-- `vector::vmsumuhs` by the law of its operation at a lane. Assumes nothing.
use Rattle.lanes.proofs.Bridge.{marked_on_three}
use Rattle.vector.proofs.Multiplied.{mul_sum_halves_sat_u}
use Rattle.vector.proofs.vmsumuhs.Goals as goal

pub returns : goal.returns
returns c = rw (c.with_marks.ensures, c.of_words.ensures, c.words-x.ensures.lanes, c.words-y.ensures.lanes, c.words-z.ensures.lanes) (marked_on_three mul_sum_halves_sat_u c.words-x.ensures c.words-y.ensures c.words-z.ensures)
