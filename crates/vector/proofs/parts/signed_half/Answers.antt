-- `vector::parts::signed_half` meets its contract. Assumes nothing.
use Rattle.vector.proofs.LowParts.{halves_of_words}
use Rattle.vector.proofs.parts.signed_half.Goals as goal

pub returns : goal.returns
returns c = halves_of_words c.args.x c.fits-x.0
