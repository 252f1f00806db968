-- THE TWELVE EXAMPLES of document 01 hold: one claim over the list, computed.
-- Assumes nothing.
use mathlib.Core.Path.{◌≡◌, refl}
use mathlib.Core.Bool.{true}
use mathlib.Core.List.{map}
use lib.ListN.{replicate}
use Rattle.encodings.specs.Encodings.{op_of}
use Rattle.lanes.specs.Integer.{signed, clamp, outside, saturated, modulo}
use Rattle.lanes.specs.Numbers.{number_at}
use Rattle.lanes.specs.Operations.{lane_op}
use Rattle.lanes.specs.Words.{push, word_from, bytes_of, joined}
use Rattle.lines.specs.Lines.{part, put}
use Rattle.packing.specs.Resized.{vector_of}
use Rattle.moves.specs.Shifted.{number}
use Rattle.compute.specs.Computed.{computed}
use Rattle.control.specs.Addresses.{or_zero, address_of, item_of, well_placed}
use Rattle.control.specs.Orders.{order_of}
use Rattle.flags.specs.Flags.{marked_of, recorded_of}
use Rattle.effects.specs.Effects.{computed_of, flags_after}
use Rattle.machine.specs.Runs.{order_at, runs, run_of}
use Rattle.laws.specs.Examples.{examples, holds}

pub all_hold : map holds examples ≡ replicate 16 true
unfolding holds number run_of runs well_placed order_at order_of op_of or_zero address_of item_of part put
    computed_of computed flags_after marked_of recorded_of vector_of number_at word_from bytes_of push joined
    lane_op signed clamp outside saturated modulo
all_hold = refl
