-- Only the twenty-seven that can clip mark a lane. Document 01, "Lane rules".
-- Assumes nothing.
use Prim.Native.Nat.{ℕ}
use mathlib.Core.Path.{◌≡◌, refl}
use mathlib.Core.Bool.{false, true≢false}
use mathlib.Core.List.{List}
use Rattle.lanes.specs.declared.Size.{Size}
use Rattle.encodings.specs.declared.ops.Sign.{Sign}
use Rattle.encodings.specs.declared.ops.Sign.TheVariants.{Unsigned, Signed}
use Rattle.encodings.specs.declared.ops.Op.{Op}
use Rattle.encodings.specs.declared.ops.Op.TheVariants.{AddMod, AddCarry, AddSat, SubMod, SubCarry, SubSat, Max, Min, Average, Rotate, ShiftLeft, ShiftRight, ShiftAlgebraic, ShiftWholeLeft, ShiftWholeRight, ShiftBytesLeft, ShiftBytesRight, And, AndNot, Or, Xor, Nor, FromStatus, ToStatus, MulOdd, MulEven, SumQuarter, SumHalf, SumAll, MergeHigh, MergeLow, Splat, SplatImmediate, PackMod, PackSat, UnpackHigh, UnpackLow, CompareEqual, CompareGreater, MulHighAdd, MulHighRoundAdd, MulLowAdd, MulSum, MulSumMixed, MulSumSat, Select, Permute, ShiftPair, LoadShiftLeft, LoadShiftRight, LoadElement, LoadLine, StoreElement, StoreLine, AddImmediate}
use Rattle.decode.specs.Traits.{can_clip}
use Rattle.lanes.specs.declared.Op as lane_op
use Rattle.lanes.specs.declared.Op.TheVariants as lane
use Rattle.lanes.specs.declared.Size.TheVariants.{Byte, Half, Word}
use Rattle.lanes.specs.Operations.{clips, applied}
use Rattle.lanes.proofs.Applied.{applied_unmarked}
use Rattle.vector.specs.Copies.{copies}
use Rattle.compute.specs.Families.{by_sign, products, product_sums, packs_modulo, unpacks_high, unpacks_low}
use Rattle.compute.specs.Computed.{computed}

by_sign_lem : (z : Size) (s : Sign) (u t : lane_op.Op) → clips u ≡ false → clips t ≡ false → (a b c : List ℕ) → (applied z (by_sign s u t) a b c).marks ≡ 0
by_sign_lem z Unsigned u t e f a b c = applied_unmarked z u e a b c
by_sign_lem z Signed u t e f a b c = applied_unmarked z t f a b c

product : (w : Size) (s : Sign) (u t : lane_op.Op) → clips u ≡ false → clips t ≡ false → (a b : List ℕ) → (products w (by_sign s u t) a b).marks ≡ 0
product Byte s u t e f a b = by_sign_lem Half s u t e f a b b
product Half s u t e f a b = by_sign_lem Word s u t e f a b b
product Word s u t e f a b = refl

summed : (w : Size) (s : Sign) (a b c : List ℕ) → (product_sums w s a b c).marks ≡ 0
summed Byte Unsigned a b c = applied_unmarked Word lane.MulSumBytesU refl a b c
summed Byte Signed a b c = refl
summed Half Unsigned a b c = applied_unmarked Word lane.MulSumHalvesU refl a b c
summed Half Signed a b c = applied_unmarked Word lane.MulSumHalvesS refl a b c
summed Word s a b c = refl

packed : (w : Size) (a b : List ℕ) → (packs_modulo w a b).marks ≡ 0
packed Byte a b = refl
packed Half a b = refl
packed Word a b = refl

high : (w : Size) (b : List ℕ) → (unpacks_high w b).marks ≡ 0
high Byte b = refl
high Half b = refl
high Word b = refl

low : (w : Size) (b : List ℕ) → (unpacks_low w b).marks ≡ 0
low Byte b = refl
low Half b = refl
low Word b = refl

pub unmarked : (op : Op) (a b c : List ℕ) (i n : ℕ) → can_clip op ≡ false → (computed op a b c i n).marks ≡ 0
unfolding computed
unmarked (AddMod w) a b c i n e = applied_unmarked w lane.AddModulo refl a b b
unmarked AddCarry a b c i n e = applied_unmarked Word lane.AddCarry refl a b b
unmarked (AddSat w s) a b c i n e = absurd (true≢false e)
unmarked (SubMod w) a b c i n e = applied_unmarked w lane.SubModulo refl a b b
unmarked SubCarry a b c i n e = applied_unmarked Word lane.SubCarry refl a b b
unmarked (SubSat w s) a b c i n e = absurd (true≢false e)
unmarked (Max w s) a b c i n e = by_sign_lem w s lane.MaxU lane.MaxS refl refl a b b
unmarked (Min w s) a b c i n e = by_sign_lem w s lane.MinU lane.MinS refl refl a b b
unmarked (Average w s) a b c i n e = by_sign_lem w s lane.AvgU lane.AvgS refl refl a b b
unmarked (Rotate w) a b c i n e = applied_unmarked w lane.RotateLeft refl a b b
unmarked (ShiftLeft w) a b c i n e = applied_unmarked w lane.ShiftLeft refl a b b
unmarked (ShiftRight w) a b c i n e = applied_unmarked w lane.ShiftRight refl a b b
unmarked (ShiftAlgebraic w) a b c i n e = applied_unmarked w lane.ShiftRightAlgebraic refl a b b
unmarked ShiftWholeLeft a b c i n e = refl
unmarked ShiftWholeRight a b c i n e = refl
unmarked ShiftBytesLeft a b c i n e = refl
unmarked ShiftBytesRight a b c i n e = refl
unmarked And a b c i n e = applied_unmarked Byte lane.And refl a b b
unmarked AndNot a b c i n e = applied_unmarked Byte lane.AndNot refl a b b
unmarked Or a b c i n e = applied_unmarked Byte lane.Or refl a b b
unmarked Xor a b c i n e = applied_unmarked Byte lane.Xor refl a b b
unmarked Nor a b c i n e = applied_unmarked Byte lane.Nor refl a b b
unmarked FromStatus a b c i n e = refl
unmarked ToStatus a b c i n e = refl
unmarked (MulOdd w s) a b c i n e = product w s lane.MulOddU lane.MulOddS refl refl a b
unmarked (MulEven w s) a b c i n e = product w s lane.MulEvenU lane.MulEvenS refl refl a b
unmarked (SumQuarter w s) a b c i n e = absurd (true≢false e)
unmarked SumHalf a b c i n e = absurd (true≢false e)
unmarked SumAll a b c i n e = absurd (true≢false e)
unmarked (MergeHigh w) a b c i n e = refl
unmarked (MergeLow w) a b c i n e = refl
unmarked (Splat w) a b c i n e = refl
unmarked (SplatImmediate w) a b c i n e = applied_unmarked w lane.SplatImmediate refl (copies i) (copies i) (copies i)
unmarked (PackMod w) a b c i n e = packed w a b
unmarked (PackSat w s t) a b c i n e = absurd (true≢false e)
unmarked (UnpackHigh w) a b c i n e = high w b
unmarked (UnpackLow w) a b c i n e = low w b
unmarked (CompareEqual w) a b c i n e = applied_unmarked w lane.Equal refl a b b
unmarked (CompareGreater w s) a b c i n e = by_sign_lem w s lane.GreaterU lane.GreaterS refl refl a b b
unmarked MulHighAdd a b c i n e = absurd (true≢false e)
unmarked MulHighRoundAdd a b c i n e = absurd (true≢false e)
unmarked MulLowAdd a b c i n e = applied_unmarked Half lane.MulLowAdd refl a b c
unmarked (MulSum w s) a b c i n e = summed w s a b c
unmarked MulSumMixed a b c i n e = applied_unmarked Word lane.MulSumBytesMixed refl a b c
unmarked (MulSumSat s) a b c i n e = absurd (true≢false e)
unmarked Select a b c i n e = applied_unmarked Byte lane.Select refl a b c
unmarked Permute a b c i n e = refl
unmarked ShiftPair a b c i n e = refl
unmarked LoadShiftLeft a b c i n e = refl
unmarked LoadShiftRight a b c i n e = refl
unmarked (LoadElement w) a b c i n e = refl
unmarked LoadLine a b c i n e = refl
unmarked (StoreElement w) a b c i n e = refl
unmarked StoreLine a b c i n e = refl
unmarked AddImmediate a b c i n e = refl
