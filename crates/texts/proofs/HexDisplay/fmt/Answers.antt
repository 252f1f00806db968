-- the text of `Hex` is its definition: a turn writes the two digits of a byte.
use Rattle.std.proofs.Common.{rules, refl, sym, arith, ap, ◌∙◌, ◌++◌, List, ℕ, slice_index_or, take}
use Rattle.std.proofs.Output.{has_written_append, has_written_of_eq}
use Rattle.texts.specs.Texts.{hex_of}
use Rattle.texts.proofs.Numbers.{hex_is}
use Rattle.texts.proofs.Joined.{hex_more}
use Rattle.texts.proofs.HexDisplay.fmt.Goals as goal

pub loop-b-preserved : goal.loop-b-preserved
loop-b-preserved g c = λ plain.
    let l = c.args.self.now.0.now in
    let i = c.loop-b.b-index in
    let so_far = c.loop-b.invariant plain in
    let w = rw (c.in_radix.ensures, c.laid_out.ensures) at c.in_ok-write.ensures.writes in
    has_written_of_eq _ _ _ _ _ (ap (λ (t : List ℕ). hex_of (take i l) ++ t) (hex_is (slice_index_or l i 0) (search rules)) ∙ sym (hex_more l i (omega arith)))
    (has_written_append _ _ _ _ _ _ so_far (w so_far.plain refl))
