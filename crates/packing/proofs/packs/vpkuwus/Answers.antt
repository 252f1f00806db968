use Rattle.std.proofs.Common.{◌∙◌}
use Rattle.lanes.specs.declared.Size.TheVariants.{Half, Word}
use Rattle.packing.proofs.Resized.{unsigned_pack}
use Rattle.packing.proofs.packs.vpkuwus.Goals as goal

pub returns : goal.returns
returns c = c.packed_words.ensures.is ∙ unsigned_pack Word Half c.args.a c.args.b c.packed_words.ensures.bytes.0 c.packed_words.ensures.bytes.1 0 65535
