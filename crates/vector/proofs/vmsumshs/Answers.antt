-- `vector::vmsumshs` by the law of its operation at a lane, where the halves of a vector are the parts of its words. Assumes nothing.
use Rattle.std.proofs.Common.{ap, map, ◌∙◌}
use Rattle.lanes.specs.declared.Op.TheVariants.{MulSumHalvesSatS}
use Rattle.lanes.specs.declared.Size.TheVariants.{Word}
use Rattle.lanes.specs.Integer.{signed}
use Rattle.lanes.proofs.Bridge.{marked-is}
use Rattle.vector.proofs.MulSum.{halves-of-words, mul_sum, mul_sum_halves_sat_s}
use Rattle.vector.proofs.vmsumshs.Goals as goal

pub returns : goal.returns
returns c =
    let x = c.signed_halves.ensures in
    let y = c.signed_halves-2.ensures in
    let z = c.words-z.ensures in
    let a = x.0 ∙ ap (map (signed 65536)) (halves-of-words c.args.a x.1) in
    let b = y.0 ∙ ap (map (signed 65536)) (halves-of-words c.args.b y.1) in
    rw (c.with_marks.ensures, c.of_words.ensures, c.as_bits-q.ensures, a, b, z.lanes) (marked-is MulSumHalvesSatS c.args.a c.args.b c.args.c x.1 y.1 z.bytes Word mul_sum mul_sum_halves_sat_s.agrees)
