-- `lanes::of_words` meets its contract. Assumes nothing.
use Rattle.lanes.proofs.Recast.{of_words as lemma}
use Rattle.lanes.proofs.of_words.Goals as goal

pub returns : goal.returns
returns c = lemma c.args.v c.fits-v.0 c.fits-v.1
