-- `add_hex` meets its contract: a turn adds the two digits of a byte.
use Rattle.std.proofs.Common.{rules, ◌≡◌, refl, ◌∙◌, arith, length, take}
use lib.Seq.{length-take-le}
use Rattle.texts.proofs.Joined.{nothing, then, hex_more, hex_long}
use Rattle.texts.proofs.adding.add_hex.Goals as goal

pub loop-b-init : goal.loop-b-init
loop-b-init c = (refl, nothing c.args.out.now c.args.at)

pub add-end-requires : goal.add-end-requires
add-end-requires c =
    let l = c.loop-b in
    let before = take l.b-index c.args.bytes.now in
    let two : length c.two_digits-two.result ≡ 2 = search rules in
    omega (arith, two, l.invariant.0, l.invariant.1.end, hex_long before, length-take-le l.b-index c.args.bytes.now (omega arith))

pub loop-b-preserved : goal.loop-b-preserved
loop-b-preserved c =
    let l = c.loop-b in
    let t = then l.invariant.1 (rw c.two_digits-two.ensures at c.add-end.ensures.adds) in
    (c.add-end.auto.out ∙ l.invariant.0, rw (hex_more c.args.bytes.now l.b-index (omega arith)) t)
