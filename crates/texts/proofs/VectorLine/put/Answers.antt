-- `VectorLine::put` meets its contract: its five parts, one behind the other, are the line.
use Rattle.std.proofs.Common.{◌≡◌, arith, rules, length}
use Rattle.texts.specs.Texts.{vector_line}
use Rattle.texts.proofs.Joined.{then, hex_long}
use Rattle.texts.proofs.VectorLine.put.Goals as goal

pub add-requires : goal.add-requires
add-requires c =
    let x = c.args.self.x in
    let l : length x ≡ 16 = search rules in
    omega (arith, c.add_hex-d.ensures.end, hex_long x)

pub returns-clause-adds : goal.returns-clause-adds
unfolding vector_line
returns-clause-adds c = then (then (then (then c.add-a.ensures.adds c.add_decimal-b.ensures.0) c.add-c.ensures.adds) c.add_hex-d.ensures) c.add.ensures.adds
