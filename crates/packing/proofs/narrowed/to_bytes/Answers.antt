use Rattle.std.proofs.Common.{◌∙◌, ap, arith}
use mir.Syntax.{w16}
use Rattle.lanes.specs.declared.Size.TheVariants.{Byte}
use Rattle.lanes.specs.Placed.{laid}
use Rattle.lanes.specs.declared.Marked.{Marked}
use Rattle.lanes.proofs.Bridge.{same_marked}
use Rattle.packing.proofs.Clamped.{narrowed-is}
use Rattle.packing.proofs.narrowed.to_bytes.Goals as goal

pub returns : goal.returns
returns c =
    same_marked (ap (λ (r : Marked). r.bytes) c.with_marks.ensures ∙ c.of_bytes.ensures ∙ ap (laid Byte) c.low_bytes.ensures) (ap (λ (r : Marked). r.marks) c.with_marks.ensures)
    ∙ narrowed-is w16 8 c.args.lo c.args.hi c.requires Byte 16 c.args.v (omega arith) c.fits-v.0
