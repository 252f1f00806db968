-- `vector::vsum4shs` by the law of its operation at a lane. Assumes nothing.
use Rattle.lanes.proofs.Bridge.{placed_two}
use Rattle.vector.proofs.Multiplied.{sum_halves_s}
use Rattle.vector.proofs.vsum4shs.Goals as goal

pub returns : goal.returns
returns c =
    rw (c.sum_of_words.ensures, c.signed_half.ensures, c.signed_half-2.ensures, c.words-x.ensures.lanes, c.words-y.ensures.lanes) (placed_two sum_halves_s c.words-x.ensures c.words-y.ensures)
