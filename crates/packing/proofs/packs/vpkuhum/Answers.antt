use Rattle.lanes.specs.declared.Size.TheVariants.{Byte, Half}
use Rattle.packing.proofs.Resized.{modulo_pack}
use Rattle.packing.proofs.packs.vpkuhum.Goals as goal

pub returns : goal.returns
returns c = rw (c.of_bytes.ensures, c.low_bytes.ensures, c.halves_of.ensures.is) (modulo_pack Half Byte c.args.a c.args.b)
