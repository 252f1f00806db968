-- `vector::vspltish` by the law of its operation at a lane. Assumes nothing.
use Rattle.lanes.specs.declared.Size.TheVariants.{Half}
use Rattle.lanes.proofs.Bridge.{on_three}
use Rattle.vector.proofs.Multiplied.{splat_immediate}
use Rattle.vector.proofs.vspltish.Goals as goal

pub returns : goal.returns
returns c =
    let x = c.halves-x.ensures in
    rw (c.of_halves.ensures, x.lanes) (on_three (splat_immediate Half) x x x)
