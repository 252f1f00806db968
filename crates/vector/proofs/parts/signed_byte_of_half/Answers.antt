-- `vector::parts::signed_byte_of_half` meets its contract. Assumes nothing.
use Rattle.vector.proofs.LowParts.{bytes_of_halves}
use Rattle.vector.proofs.parts.signed_byte_of_half.Goals as goal

pub returns : goal.returns
returns c = bytes_of_halves c.args.x c.fits-x.0
