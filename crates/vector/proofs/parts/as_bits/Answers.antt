-- `vector::parts::as_bits` meets its contract. Assumes nothing.
use Rattle.std.proofs.Common.{map, of_z, ◌∙◌}
use lib.ListN.{length-map}
use mir.Syntax.{w32}
use Rattle.lanes.proofs.Recast.{bits_again}
use Rattle.vector.proofs.Exact.{bits-fit}
use Rattle.vector.proofs.parts.as_bits.Goals as goal

pub returns : goal.returns
returns c = bits_again (map (of_z w32) c.args.v) (length-map c.args.v (of_z w32) ∙ c.requires.0) (bits-fit c.args.v c.requires.1)
