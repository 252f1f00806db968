-- THE LIST IS RIGHT: each of the thirty-nine breaks the reordering law, in a closed run that is computed.
-- Assumes nothing.
use Prim.Native.Nat.{ℕ, ◌-◌, ◌<◌}
use mathlib.Core.Path.{◌≡◌, refl, sym, ap, ◌∙◌}
use mathlib.Core.Bool.{Bool, true}
use mathlib.Core.List.{List, map}
use native.Mathlib.Omega.{arith}
use lib.ListN.{get_or, replicate, get_or-replicate, get_or-map}
use borrow.Author.Tests.{eqb-false, not-true}
use Rattle.encodings.specs.Encodings.{sections, op_of}
use Rattle.lanes.specs.Integer.{signed, clamp, saturated, modulo}
use Rattle.lanes.specs.Numbers.{number_at}
use Rattle.lanes.specs.Order.{Order}
use Rattle.lanes.specs.Words.{word_from, bytes_of}
use Rattle.lines.specs.Lines.{part, put}
use Rattle.packing.specs.Resized.{vector_of}
use Rattle.moves.specs.Shifted.{number}
use Rattle.compute.specs.Computed.{computed}
use Rattle.control.specs.Addresses.{or_zero, address_of, item_of, well_placed}
use Rattle.std.specs.Prelude.{Some}
use Rattle.control.specs.Orders.{order_of}
use Rattle.flags.specs.Flags.{status_of, from_status, marked_of, recorded_of}
use Rattle.effects.specs.Effects.{computed_of, flags_after}
use Rattle.machine.specs.Runs.{order_at, runs, run_of}
use Rattle.laws.specs.Reorder.{each_line, reordered_lines, reordered_out, Whole}
use Rattle.laws.specs.Seen.{backwards, from, machine, alone, alone_reordered, shown, breaks, thirty_nine, bound_in}
use Rattle.laws.proofs.Bytes.{small, small_bytes}

-- the words are one of each position-bound row
pub listed : map op_of thirty_nine ≡ map Some (bound_in sections)
unfolding op_of
listed = refl

-- each of them breaks the law
pub claim : map breaks thirty_nine ≡ replicate 39 true
unfolding breaks shown number reordered_lines each_line run_of runs well_placed order_at order_of op_of or_zero address_of item_of part put
    computed_of computed flags_after marked_of recorded_of status_of from_status vector_of number_at word_from bytes_of
    signed clamp saturated modulo
claim = refl

breaks_law : (w : ℕ) → breaks w ≡ true → alone_reordered w ≡ reordered_out backwards (alone w) → ⊥
unfolding breaks
breaks_law w h e = eqb-false (shown (alone_reordered w)) (shown (reordered_out backwards (alone w))) (not-true _ h) (ap shown e)

pub seen : (k : ℕ) → k < 39 → alone_reordered (get_or thirty_nine k 0) ≡ reordered_out backwards (alone (get_or thirty_nine k 0)) → ⊥
seen k h =
    breaks_law (get_or thirty_nine k 0)
    (sym (get_or-map breaks thirty_nine k 0) ∙ ap (λ (l : List Bool). get_or l k (breaks 0)) claim ∙ get_or-replicate 39 k true (breaks 0) h)

-- and nothing else is amiss: backwards is a reordering, and the machine and the memory are whole
pub backwards-order : Order backwards
backwards-order = record {
  into = λ j h. omega arith;
  onto = λ k h. (3 - k, omega arith, omega arith);
}

pub machine_whole : Whole machine.v (from 0)
unfolding small bytes_of
machine_whole = record { wide = refl; vectors = small_bytes machine.v refl; memory = small_bytes (from 0) refl }
