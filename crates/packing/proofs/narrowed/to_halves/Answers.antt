use Rattle.std.proofs.Common.{◌∙◌, ap, arith}
use mir.Syntax.{w32}
use Rattle.lanes.specs.declared.Size.TheVariants.{Half}
use Rattle.lanes.specs.Placed.{laid}
use Rattle.lanes.specs.declared.Marked.{Marked}
use Rattle.lanes.proofs.Bridge.{same_marked}
use Rattle.packing.proofs.Clamped.{narrowed-is}
use Rattle.packing.proofs.narrowed.to_halves.Goals as goal

pub returns : goal.returns
returns c =
    same_marked (ap (λ (r : Marked). r.bytes) c.with_marks.ensures ∙ c.of_halves.ensures ∙ ap (laid Half) c.low_halves.ensures) (ap (λ (r : Marked). r.marks) c.with_marks.ensures)
    ∙ narrowed-is w32 16 c.args.lo c.args.hi c.requires Half 8 c.args.v (omega arith) c.fits-v.0
