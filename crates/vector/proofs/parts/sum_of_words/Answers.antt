-- `vector::parts::sum_of_words` meets its contract. Assumes nothing.
use Rattle.vector.proofs.LowParts.{sums_of_words}
use Rattle.vector.proofs.parts.sum_of_words.Goals as goal

pub returns : goal.returns
returns c = rw (c.with_marks.ensures, c.of_words.ensures) (sums_of_words c.args.x c.args.y c.fits-x.0 c.fits-y.0 c.fits-x.1 c.fits-y.1)
