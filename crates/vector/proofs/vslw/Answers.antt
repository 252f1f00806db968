-- `vector::vslw` by the law of its operation at a lane. Assumes nothing.
use Rattle.lanes.specs.declared.Size.TheVariants.{Word}
use Rattle.lanes.proofs.Bridge.{on_two}
use Rattle.vector.proofs.Shifts.{shift_left}
use Rattle.vector.proofs.vslw.Goals as goal

pub returns : goal.returns
returns c = rw (c.of_words.ensures, c.words-x.ensures.lanes, c.words-y.ensures.lanes) (on_two (shift_left Word) c.words-x.ensures c.words-y.ensures)
