-- `vector::parts::signed_byte` meets its contract. Assumes nothing.
use Rattle.vector.proofs.LowParts.{bytes_of_words}
use Rattle.vector.proofs.parts.signed_byte.Goals as goal

pub returns : goal.returns
returns c = bytes_of_words c.args.x c.fits-x.0
