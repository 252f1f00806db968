-- `ReportLine::put` meets its contract: its twelve parts, one behind the other, are the line.
use Rattle.texts.specs.Texts.{report_line}
use Rattle.texts.proofs.Joined.{then}
use Rattle.texts.proofs.ReportLine.put.Goals as goal

pub returns-clause-adds : goal.returns-clause-adds
unfolding report_line
returns-clause-adds c = then (then (then (then (then (then (then (then (then (then (then (then c.add-a.ensures.adds c.add_decimal-b.ensures.0) c.add-c.ensures.adds) c.add_decimal-d.ensures.0) c.add-e.ensures.adds) c.add_decimal-f.ensures.0) c.add-g.ensures.adds) c.add_bit-h.ensures.0) c.add-i.ensures.adds) c.add_bit-j.ensures.0) c.add-k.ensures.adds) c.add_four_bits-l.ensures.0) c.add.ensures.adds
