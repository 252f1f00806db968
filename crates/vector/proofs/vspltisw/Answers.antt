-- `vector::vspltisw` by the law of its operation at a lane. Assumes nothing.
use Rattle.lanes.specs.declared.Size.TheVariants.{Word}
use Rattle.lanes.proofs.Bridge.{on_three}
use Rattle.vector.proofs.Multiplied.{splat_immediate}
use Rattle.vector.proofs.vspltisw.Goals as goal

pub returns : goal.returns
returns c =
    let x = c.words-x.ensures in
    rw (c.of_words.ensures, x.lanes) (on_three (splat_immediate Word) x x x)
