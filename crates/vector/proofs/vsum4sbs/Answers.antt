-- `vector::vsum4sbs` by the law of its operation at a lane. Assumes nothing.
use Rattle.lanes.proofs.Bridge.{placed_two}
use Rattle.vector.proofs.Multiplied.{sum_bytes_s}
use Rattle.vector.proofs.vsum4sbs.Goals as goal

pub returns : goal.returns
returns c =
    rw (c.sum_of_words.ensures, c.signed_byte.ensures, c.signed_byte-2.ensures, c.signed_byte-3.ensures, c.signed_byte-4.ensures, c.words-x.ensures.lanes, c.words-y.ensures.lanes) (placed_two sum_bytes_s c.words-x.ensures c.words-y.ensures)
