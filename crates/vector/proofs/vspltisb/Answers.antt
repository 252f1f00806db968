-- `vector::vspltisb` by the law of its operation at a lane. Assumes nothing.
use Rattle.lanes.specs.declared.Size.TheVariants.{Byte}
use Rattle.lanes.proofs.Bridge.{on_three}
use Rattle.vector.proofs.Multiplied.{splat_immediate}
use Rattle.vector.proofs.vspltisb.Goals as goal

pub returns : goal.returns
returns c =
    let x = c.bytes-x.ensures in
    rw (c.of_bytes.ensures, x.lanes) (on_three (splat_immediate Byte) x x x)
