-- `vector::vmhaddshs` by the law of its operation at a lane. Assumes nothing.
use Rattle.lanes.proofs.Bridge.{applied-is}
use Rattle.lanes.specs.declared.Op.TheVariants.{MulHighAdd}
use Rattle.lanes.specs.declared.Size.TheVariants.{Half}
use Rattle.vector.proofs.Multiplied.{mul_high_add, mul_high_add-at}
use Rattle.vector.proofs.vmhaddshs.Goals as goal

pub returns : goal.returns
returns c =
    let x = c.signed_halves-x.ensures in
    let y = c.signed_halves-y.ensures in
    let z = c.signed_halves-z.ensures in
    rw (c.saturated_halves.ensures, x.0, y.0, z.0) (applied-is MulHighAdd c.args.a c.args.b c.args.c x.1 y.1 z.1 Half mul_high_add-at mul_high_add.agrees)
