-- `vector::vadduws` by the law of its operation at a lane. Assumes nothing.
use Rattle.lanes.specs.declared.Size.TheVariants.{Word}
use Rattle.lanes.proofs.Bridge.{marked_on_two}
use Rattle.vector.proofs.Sums.{add_sat_u}
use Rattle.vector.proofs.vadduws.Goals as goal

pub returns : goal.returns
returns c = rw (c.with_marks.ensures, c.of_words.ensures, c.words-x.ensures.lanes, c.words-y.ensures.lanes) (marked_on_two (add_sat_u Word) c.words-x.ensures c.words-y.ensures)
