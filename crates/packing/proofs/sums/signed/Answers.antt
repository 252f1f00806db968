use Rattle.packing.proofs.Summed.{read}
use Rattle.packing.proofs.sums.signed.Goals as goal

pub returns : goal.returns
returns c = read c.args.word c.ranges.word c.cast_signed.ensures
