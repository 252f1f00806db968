-- `vector::vminuw` by the law of its operation at a lane. Assumes nothing.
use Rattle.lanes.specs.declared.Size.TheVariants.{Word}
use Rattle.lanes.proofs.Bridge.{on_two}
use Rattle.vector.proofs.Ordered.{min_u}
use Rattle.vector.proofs.vminuw.Goals as goal

pub returns : goal.returns
returns c = rw (c.of_words.ensures, c.words-x.ensures.lanes, c.words-y.ensures.lanes) (on_two (min_u Word) c.words-x.ensures c.words-y.ensures)
