use Rattle.std.proofs.Common.{ap, ◌∙◌, not, eqb, of_z, to_z}
use mir.Syntax.{w32, w64}
use mir.ValLaws.{to_z-of_z, of_z_fits}
use Rattle.packing.proofs.Summed.{near, taken}
use Rattle.packing.proofs.sums.saturated.Goals as goal

pub returns : goal.returns
returns c =
    let z = c.args.z in
    let s = taken z c.ranges.z in
    let e = c.clamp-near.ensures.value ∙ ap near (to_z-of_z w64 z c.ranges.z) in
    let v = c.cast_unsigned.ensures ∙ ap (λ t. of_z w32 (to_z w32 (of_z w32 t))) (to_z-of_z w64 c.clamp-near.result (record { sfits = c.clamp-near.type_inv }) ∙ e) ∙ ap (of_z w32) (to_z-of_z w32 (near z) s.fits) in
    let m = ap (λ t. not (eqb (of_z w64 t) (of_z w64 z))) e in
    ((λ i. record { value = v i; clipped = m i }) ∙ s.is, rw v (of_z_fits w32 (near z) s.fits).fits)
