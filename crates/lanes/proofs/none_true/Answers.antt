-- `lanes::none_true` meets its contract. Assumes nothing.
use Rattle.lanes.proofs.Summary.{four_words}
use Rattle.lanes.proofs.none_true.Goals as goal

pub returns : goal.returns
returns c = rw c.words.ensures.lanes (four_words 0 c.args.v)
