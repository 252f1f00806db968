-- What a vector instruction computes of its operands a, b and c, of its A field i and of its byte count n; in the order of document 01, "Encodings".
-- An operation that computes no vector of them leaves the first operand as it is. Assumes nothing.
use Rattle.std.specs.Prelude.{List, ℕ, ◌%◌, Option}
use Rattle.std.specs.Option.{option_map_or}
use Rattle.encodings.specs.declared.ops.Op.{Op}
use Rattle.encodings.specs.declared.ops.Op.TheVariants.{AddMod, AddCarry, AddSat, SubMod, SubCarry, SubSat, Max, Min, Average, Rotate, ShiftLeft, ShiftRight, ShiftAlgebraic, ShiftWholeLeft, ShiftWholeRight, ShiftBytesLeft, ShiftBytesRight, And, AndNot, Or, Xor, Nor, FromStatus, ToStatus, MulOdd, MulEven, SumQuarter, SumHalf, SumAll, MergeHigh, MergeLow, Splat, SplatImmediate, PackMod, PackSat, UnpackHigh, UnpackLow, CompareEqual, CompareGreater, MulHighAdd, MulHighRoundAdd, MulLowAdd, MulSum, MulSumMixed, MulSumSat, Select, Permute, ShiftPair, LoadShiftLeft, LoadShiftRight, LoadElement, LoadLine, StoreElement, StoreLine, AddImmediate}
use Rattle.lanes.specs.declared.Marked.{Marked}
use Rattle.lanes.specs.declared.Op.TheVariants as lane
use Rattle.lanes.specs.declared.Size.TheVariants.{Byte, Half, Word}
use Rattle.lanes.specs.Operations.{applied}
use Rattle.moves.specs.Chosen.{merged_high, merged_low, splat, permuted}
use Rattle.moves.specs.Shifted.{shifted_left, shifted_right}
use Rattle.packing.specs.Summed.{sum_of_two, sum_of_all}
use Rattle.slides.specs.Slid.{slid, octets_left, octets_right}
use Rattle.vector.specs.Copies.{copies}
use Rattle.compute.specs.Families.{by_sign, unclipped, products, quarter_sums, product_sums, packs_modulo, packs_saturated, unpacks_high, unpacks_low}

unfoldable pub computed : Op → List ℕ → List ℕ → List ℕ → ℕ → ℕ → Marked
computed (AddMod w) a b c i n = applied w lane.AddModulo a b b
computed AddCarry a b c i n = applied Word lane.AddCarry a b b
computed (AddSat w s) a b c i n = applied w (by_sign s lane.AddSatU lane.AddSatS) a b b
computed (SubMod w) a b c i n = applied w lane.SubModulo a b b
computed SubCarry a b c i n = applied Word lane.SubCarry a b b
computed (SubSat w s) a b c i n = applied w (by_sign s lane.SubSatU lane.SubSatS) a b b
computed (Max w s) a b c i n = applied w (by_sign s lane.MaxU lane.MaxS) a b b
computed (Min w s) a b c i n = applied w (by_sign s lane.MinU lane.MinS) a b b
computed (Average w s) a b c i n = applied w (by_sign s lane.AvgU lane.AvgS) a b b
computed (Rotate w) a b c i n = applied w lane.RotateLeft a b b
computed (ShiftLeft w) a b c i n = applied w lane.ShiftLeft a b b
computed (ShiftRight w) a b c i n = applied w lane.ShiftRight a b b
computed (ShiftAlgebraic w) a b c i n = applied w lane.ShiftRightAlgebraic a b b
computed ShiftWholeLeft a b c i n = unclipped (shifted_left a b)
computed ShiftWholeRight a b c i n = unclipped (shifted_right a b)
computed ShiftBytesLeft a b c i n = unclipped (octets_left a b)
computed ShiftBytesRight a b c i n = unclipped (octets_right a b)
computed And a b c i n = applied Byte lane.And a b b
computed AndNot a b c i n = applied Byte lane.AndNot a b b
computed Or a b c i n = applied Byte lane.Or a b b
computed Xor a b c i n = applied Byte lane.Xor a b b
computed Nor a b c i n = applied Byte lane.Nor a b b
computed FromStatus a b c i n = unclipped a
computed ToStatus a b c i n = unclipped a
computed (MulOdd w s) a b c i n = products w (by_sign s lane.MulOddU lane.MulOddS) a b
computed (MulEven w s) a b c i n = products w (by_sign s lane.MulEvenU lane.MulEvenS) a b
computed (SumQuarter w s) a b c i n = quarter_sums w s a b
computed SumHalf a b c i n = sum_of_two a b
computed SumAll a b c i n = sum_of_all a b
computed (MergeHigh w) a b c i n = unclipped (merged_high w a b)
computed (MergeLow w) a b c i n = unclipped (merged_low w a b)
computed (Splat w) a b c i n = unclipped (splat w b i)
computed (SplatImmediate w) a b c i n = applied w lane.SplatImmediate (copies i) (copies i) (copies i)
computed (PackMod w) a b c i n = packs_modulo w a b
computed (PackSat w s t) a b c i n = packs_saturated w s t a b
computed (UnpackHigh w) a b c i n = unpacks_high w b
computed (UnpackLow w) a b c i n = unpacks_low w b
computed (CompareEqual w) a b c i n = applied w lane.Equal a b b
computed (CompareGreater w s) a b c i n = applied w (by_sign s lane.GreaterU lane.GreaterS) a b b
computed MulHighAdd a b c i n = applied Half lane.MulHighAdd a b c
computed MulHighRoundAdd a b c i n = applied Half lane.MulHighRoundAdd a b c
computed MulLowAdd a b c i n = applied Half lane.MulLowAdd a b c
computed (MulSum w s) a b c i n = product_sums w s a b c
computed MulSumMixed a b c i n = applied Word lane.MulSumBytesMixed a b c
computed (MulSumSat s) a b c i n = applied Word (by_sign s lane.MulSumHalvesSatU lane.MulSumHalvesSatS) a b c
computed Select a b c i n = applied Byte lane.Select a b c
computed Permute a b c i n = unclipped (permuted a b c)
computed ShiftPair a b c i n = unclipped (slid a b (n % 16))
computed LoadShiftLeft a b c i n = unclipped a
computed LoadShiftRight a b c i n = unclipped a
computed (LoadElement w) a b c i n = unclipped a
computed LoadLine a b c i n = unclipped a
computed (StoreElement w) a b c i n = unclipped a
computed StoreLine a b c i n = unclipped a
computed AddImmediate a b c i n = unclipped a

-- the same of what a word carries: no instruction leaves the first operand as it is
abbrev pub computed_in : Option Op → List ℕ → List ℕ → List ℕ → ℕ → ℕ → Marked
computed_in o a b c i n = option_map_or (λ p. computed p a b c i n) o (unclipped a)
