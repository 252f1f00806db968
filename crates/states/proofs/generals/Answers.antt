-- `generals` meets its contract.
use Rattle.std.proofs.Common.{arith, take, drop}
use lib.ListN.{length-drop}
use lib.Seq.{length-take-le}
use Rattle.lines.specs.Lines.{part}
use Rattle.states.proofs.Whole.{thirty_two}
use Rattle.states.proofs.generals.Goals as goal

pub returns : goal.returns
unfolding part
returns c = thirty_two (take 128 (drop 528 c.args.bytes.now)) _ _ (length-take-le 128 (drop 528 c.args.bytes.now) (simp length-drop (omega arith))) c.words.ensures.fills
