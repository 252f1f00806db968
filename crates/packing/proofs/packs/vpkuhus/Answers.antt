use Rattle.std.proofs.Common.{◌∙◌}
use Rattle.lanes.specs.declared.Size.TheVariants.{Byte, Half}
use Rattle.packing.proofs.Resized.{unsigned_pack}
use Rattle.packing.proofs.packs.vpkuhus.Goals as goal

pub returns : goal.returns
returns c = c.packed_halves.ensures.is ∙ unsigned_pack Half Byte c.args.a c.args.b c.packed_halves.ensures.bytes.0 c.packed_halves.ensures.bytes.1 0 255
