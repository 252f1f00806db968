use Rattle.lanes.specs.declared.Size.TheVariants.{Half, Word}
use Rattle.packing.proofs.Resized.{modulo_pack}
use Rattle.packing.proofs.packs.vpkuwum.Goals as goal

pub returns : goal.returns
returns c = rw (c.of_halves.ensures, c.low_halves.ensures, c.words_of.ensures.is) (modulo_pack Word Half c.args.a c.args.b)
