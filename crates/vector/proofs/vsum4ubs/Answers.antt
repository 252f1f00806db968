-- `vector::vsum4ubs` by the law of its operation at a lane. Assumes nothing.
use Rattle.lanes.proofs.Bridge.{marked_on_two}
use Rattle.vector.proofs.Multiplied.{sum_bytes_u}
use Rattle.vector.proofs.vsum4ubs.Goals as goal

pub returns : goal.returns
returns c = rw (c.with_marks.ensures, c.of_words.ensures, c.words-x.ensures.lanes, c.words-y.ensures.lanes) (marked_on_two sum_bytes_u c.words-x.ensures c.words-y.ensures)
