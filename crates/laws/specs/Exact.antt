-- EVERY EXACT RESULT IN RANGE: for each instruction, what document 01, "Lane rules", asks before SAT stays as it was. Assumes nothing.
use Rattle.std.specs.Prelude.{ℕ, ◌<◌, ◌^◌, ◌≡◌, false, List, ℤ, ◌+ℤ◌, Some, None}
use Rattle.decode.specs.declared.Decoded.{Decoded}
use Rattle.lanes.specs.declared.Size.{Size}
use Rattle.encodings.specs.declared.ops.Sign.{Sign}
use Rattle.encodings.specs.declared.ops.Sign.TheVariants.{Unsigned, Signed}
use Rattle.encodings.specs.declared.ops.Op.{Op}
use Rattle.encodings.specs.declared.ops.Op.TheVariants.{AddMod, AddCarry, AddSat, SubMod, SubCarry, SubSat, Max, Min, Average, Rotate, ShiftLeft, ShiftRight, ShiftAlgebraic, ShiftWholeLeft, ShiftWholeRight, ShiftBytesLeft, ShiftBytesRight, And, AndNot, Or, Xor, Nor, FromStatus, ToStatus, MulOdd, MulEven, SumQuarter, SumHalf, SumAll, MergeHigh, MergeLow, Splat, SplatImmediate, PackMod, PackSat, UnpackHigh, UnpackLow, CompareEqual, CompareGreater, MulHighAdd, MulHighRoundAdd, MulLowAdd, MulSum, MulSumMixed, MulSumSat, Select, Permute, ShiftPair, LoadShiftLeft, LoadShiftRight, LoadElement, LoadLine, StoreElement, StoreLine, AddImmediate}
use Rattle.lanes.specs.declared.Lane.{Lane}
use Rattle.lanes.specs.declared.Op as lane_op
use Rattle.lanes.specs.declared.Op.TheVariants as lane
use Rattle.lanes.specs.declared.Size.TheVariants.{Byte, Half, Word}
use Rattle.lanes.specs.Integer.{signed, sat_u, sat_s}
use Rattle.lanes.specs.Operations.{lanes_in, width_of}
use Rattle.packing.specs.Resized.{count, lane_of_both, unsigned}
use Rattle.packing.specs.Summed.{signed_word}
use Rattle.compute.specs.Families.{by_sign}
use Rattle.effects.specs.Effects.{register}
use Rattle.machine.specs.declared.Machine.{Machine}
use Rattle.laws.specs.Sat.{bit127, lane_in}

-- an exact sum is in the range of a signed word
abbrev pub Fits : ℤ → Type 0
Fits z = (sat_s (2 ^ 32) z).clipped ≡ false

-- no lane of a word-wise instruction has an exact result that is out of its range
abbrev pub LanesFit : Size → lane_op.Op → List ℕ → List ℕ → List ℕ → Type 0
LanesFit s o a b c = (j r : ℕ) → j < 4 → r < lanes_in s → (lane_in s o a b c j r).clipped ≡ false

-- no lane of size s of a followed by b, read as an exact integer, is out of the range of a lane of size d
abbrev pub LanesFitIn : Size → Size → (ℕ → ℕ → ℤ) → (ℕ → ℤ → Lane) → List ℕ → List ℕ → Type 0
LanesFitIn s d reading taking a b = (j : ℕ) → j < count d → (taking (2 ^ width_of d) (reading (2 ^ width_of s) (lane_of_both s a b j))).clipped ≡ false

-- vsum4ubs, vsum4sbs, vsum4shs
abbrev pub QuarterSumsFit : Size → Sign → List ℕ → List ℕ → Type 0
QuarterSumsFit Byte Unsigned a b = LanesFit Word lane.SumBytesU a b b
QuarterSumsFit Byte Signed a b = LanesFit Word lane.SumBytesS a b b
QuarterSumsFit Half Unsigned a b = Unit {0}
QuarterSumsFit Half Signed a b = LanesFit Word lane.SumHalvesS a b b
QuarterSumsFit Word s a b = Unit {0}

-- the saturating packs
abbrev pub PacksFit : Size → Sign → Sign → List ℕ → List ℕ → Type 0
PacksFit Byte s t a b = Unit {0}
PacksFit Half Unsigned Unsigned a b = LanesFitIn Half Byte unsigned sat_u a b
PacksFit Half Unsigned Signed a b = Unit {0}
PacksFit Half Signed Unsigned a b = LanesFitIn Half Byte signed sat_u a b
PacksFit Half Signed Signed a b = LanesFitIn Half Byte signed sat_s a b
PacksFit Word Unsigned Unsigned a b = LanesFitIn Word Half unsigned sat_u a b
PacksFit Word Unsigned Signed a b = Unit {0}
PacksFit Word Signed Unsigned a b = LanesFitIn Word Half signed sat_u a b
PacksFit Word Signed Signed a b = LanesFitIn Word Half signed sat_s a b

-- of each operation: of the twenty-seven there is something to ask, and of the others nothing
abbrev pub InRange : Op → List ℕ → List ℕ → List ℕ → Type 0
InRange (AddMod w) a b c = Unit {0}
InRange AddCarry a b c = Unit {0}
InRange (AddSat w s) a b c = LanesFit w (by_sign s lane.AddSatU lane.AddSatS) a b b
InRange (SubMod w) a b c = Unit {0}
InRange SubCarry a b c = Unit {0}
InRange (SubSat w s) a b c = LanesFit w (by_sign s lane.SubSatU lane.SubSatS) a b b
InRange (Max w s) a b c = Unit {0}
InRange (Min w s) a b c = Unit {0}
InRange (Average w s) a b c = Unit {0}
InRange (Rotate w) a b c = Unit {0}
InRange (ShiftLeft w) a b c = Unit {0}
InRange (ShiftRight w) a b c = Unit {0}
InRange (ShiftAlgebraic w) a b c = Unit {0}
InRange ShiftWholeLeft a b c = Unit {0}
InRange ShiftWholeRight a b c = Unit {0}
InRange ShiftBytesLeft a b c = Unit {0}
InRange ShiftBytesRight a b c = Unit {0}
InRange And a b c = Unit {0}
InRange AndNot a b c = Unit {0}
InRange Or a b c = Unit {0}
InRange Xor a b c = Unit {0}
InRange Nor a b c = Unit {0}
InRange FromStatus a b c = Unit {0}
InRange ToStatus a b c = Unit {0}
InRange (MulOdd w s) a b c = Unit {0}
InRange (MulEven w s) a b c = Unit {0}
InRange (SumQuarter w s) a b c = QuarterSumsFit w s a b
InRange SumHalf a b c = Fits (signed_word a 0 +ℤ signed_word a 1 +ℤ signed_word b 1) × Fits (signed_word a 2 +ℤ signed_word a 3 +ℤ signed_word b 3)
InRange SumAll a b c = Fits (signed_word a 0 +ℤ signed_word a 1 +ℤ signed_word a 2 +ℤ signed_word a 3 +ℤ signed_word b 3)
InRange (MergeHigh w) a b c = Unit {0}
InRange (MergeLow w) a b c = Unit {0}
InRange (Splat w) a b c = Unit {0}
InRange (SplatImmediate w) a b c = Unit {0}
InRange (PackMod w) a b c = Unit {0}
InRange (PackSat w s t) a b c = PacksFit w s t a b
InRange (UnpackHigh w) a b c = Unit {0}
InRange (UnpackLow w) a b c = Unit {0}
InRange (CompareEqual w) a b c = Unit {0}
InRange (CompareGreater w s) a b c = Unit {0}
InRange MulHighAdd a b c = LanesFit Half lane.MulHighAdd a b c
InRange MulHighRoundAdd a b c = LanesFit Half lane.MulHighRoundAdd a b c
InRange MulLowAdd a b c = Unit {0}
InRange (MulSum w s) a b c = Unit {0}
InRange MulSumMixed a b c = Unit {0}
InRange (MulSumSat s) a b c = LanesFit Word (by_sign s lane.MulSumHalvesSatU lane.MulSumHalvesSatS) a b c
InRange Select a b c = Unit {0}
InRange Permute a b c = Unit {0}
InRange ShiftPair a b c = Unit {0}
InRange LoadShiftLeft a b c = Unit {0}
InRange LoadShiftRight a b c = Unit {0}
InRange (LoadElement w) a b c = Unit {0}
InRange LoadLine a b c = Unit {0}
InRange (StoreElement w) a b c = Unit {0}
InRange StoreLine a b c = Unit {0}
InRange AddImmediate a b c = Unit {0}

-- SAT is off after a completed word: mtvscr wrote a zero; or it was off, and every exact result was in range. (A word that carries no instruction
-- is never completed.)
pub record Off (w : Decoded) (m : Machine) : Type 0 where
  pub written : w.op ≡ Some ToStatus → bit127 (register m.v w.b) ≡ false
  pub none : w.op ≡ None → m.sat ≡ false
  pub other : (op : Op) → w.op ≡ Some op → (op ≡ ToStatus → ⊥) → (m.sat ≡ false) × InRange op (register m.v w.a) (register m.v w.b) (register m.v w.c)
