-- `vector::vavgsw` by the law of its operation at a lane. Assumes nothing.
use Rattle.lanes.specs.declared.Size.TheVariants.{Word}
use Rattle.lanes.proofs.Bridge.{on_two}
use Rattle.vector.proofs.Shifts.{avg_s}
use Rattle.vector.proofs.vavgsw.Goals as goal

pub returns : goal.returns
returns c = rw (c.of_words.ensures, c.words.ensures.lanes, c.words-2.ensures.lanes) (on_two (avg_s Word) c.words.ensures c.words-2.ensures)
