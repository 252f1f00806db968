-- `lanes::all_true` meets its contract. Assumes nothing.
use Rattle.lanes.proofs.Summary.{four_words}
use Rattle.lanes.proofs.all_true.Goals as goal

pub returns : goal.returns
returns c = rw c.words.ensures.lanes (four_words 4294967295 c.args.v)
