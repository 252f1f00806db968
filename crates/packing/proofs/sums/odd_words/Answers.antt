use Rattle.std.proofs.Common.{◌∙◌, ◌^◌, ◌<◌, ℕ, cond, eqb, arith}
use Rattle.lanes.specs.declared.Size.TheVariants.{Word}
use Rattle.lanes.specs.Integer.{plain}
use Rattle.lanes.proofs.Bridge.{same_marked}
use Rattle.packing.proofs.Resized.{vector-of}
use Rattle.packing.proofs.Summed.{choice-lt, odd_marks}
use Rattle.packing.proofs.sums.odd_words.Goals as goal

pub returns : goal.returns
returns c =
    let p = c.args.p in
    let q = c.args.q in
    let zero : 0 < 2 ^ 32 = omega arith in
    same_marked c.of_words-bytes.ensures (odd_marks p.clipped q.clipped)
    ∙ vector-of Word (λ (j : ℕ). cond (eqb j 1) p (cond (eqb j 3) q (plain 0))) (λ j. choice-lt (eqb j 1) p _ c.requires.0 (choice-lt (eqb j 3) q (plain 0) c.requires.1 zero))
