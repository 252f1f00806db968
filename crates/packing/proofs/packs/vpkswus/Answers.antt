use Rattle.std.proofs.Common.{◌∙◌, refl}
use Rattle.lanes.specs.declared.Size.TheVariants.{Half, Word}
use Rattle.packing.proofs.Resized.{signed_pack}
use Rattle.packing.proofs.packs.vpkswus.Goals as goal

pub returns : goal.returns
returns c = c.packed_words.ensures.is ∙ signed_pack Word Half c.args.a c.args.b c.packed_words.ensures.bytes.0 c.packed_words.ensures.bytes.1 2147483648 2147549183 32768 refl
