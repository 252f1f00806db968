-- `GeneralLine::put` meets its contract: its five parts, one behind the other, are the line.
use Rattle.std.proofs.Common.{arith, ◌∙◌}
use Rattle.texts.specs.Texts.{general_line}
use Rattle.texts.proofs.Joined.{then}
use Rattle.texts.proofs.Numbers.{word_is}
use Rattle.texts.proofs.GeneralLine.put.Goals as goal

pub returns-clause-adds : goal.returns-clause-adds
unfolding general_line
returns-clause-adds c =
    let x = c.to_be_bytes-bytes.ensures ∙ word_is c.args.self.x (omega arith) in
    then (then (then (then c.add-a.ensures.adds c.add_decimal-b.ensures.0) c.add-c.ensures.adds) (rw x at c.add_hex-d.ensures)) c.add.ensures.adds
