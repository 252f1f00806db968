use Rattle.std.proofs.Common.{◌∙◌, refl}
use Rattle.lanes.specs.declared.Size.TheVariants.{Byte, Half}
use Rattle.packing.proofs.Resized.{signed_pack}
use Rattle.packing.proofs.packs.vpkshss.Goals as goal

pub returns : goal.returns
returns c = c.packed_halves.ensures.is ∙ signed_pack Half Byte c.args.a c.args.b c.packed_halves.ensures.bytes.0 c.packed_halves.ensures.bytes.1 32640 32895 128 refl
