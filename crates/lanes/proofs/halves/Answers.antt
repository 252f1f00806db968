-- `lanes::halves` meets its contract. Assumes nothing.
use Rattle.lanes.proofs.Recast.{as_halves, in_array}
use Rattle.lanes.proofs.halves.Goals as goal

pub returns : goal.returns
returns c =
    let v = c.args.v in
    let e = c.well_formed.0.1.0.1 in
    let b = in_array v c.well_formed.0.0 c.well_formed.0.1.1 in
    record { lanes = as_halves v e b; bytes = b }
