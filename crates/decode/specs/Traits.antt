-- What holds of each operation. Position-bound are the thirty-nine of document 01, "Position-bound instructions"; those that can clip are the
-- 27 of its "Lane rules"; the reserved bits are those of its "Encodings".
-- Assumes nothing.
use Rattle.std.specs.Prelude.{Bool, true, false, Option}
use Rattle.std.specs.Option.{option_map_or}
use Rattle.decode.specs.declared.traits.Traits.{Traits}
use Rattle.decode.specs.declared.traits.Vectors.{Vectors}
use Rattle.decode.specs.declared.reserved.Run.{Run}
use Rattle.decode.specs.declared.reserved.Run.TheVariants.{Empty, Last, BeforeCount, A, B, AB, DA, BeforeByteLane, BeforeHalfLane, BeforeWordLane}
use Rattle.lanes.specs.declared.Size.{Size}
use Rattle.lanes.specs.declared.Size.TheVariants.{Byte, Half, Word}
use Rattle.encodings.specs.declared.ops.Op.{Op}
use Rattle.encodings.specs.declared.ops.Op.TheVariants.{AddMod, AddCarry, AddSat, SubMod, SubCarry, SubSat, Max, Min, Average, Rotate, ShiftLeft, ShiftRight, ShiftAlgebraic, ShiftWholeLeft, ShiftWholeRight, ShiftBytesLeft, ShiftBytesRight, And, AndNot, Or, Xor, Nor, FromStatus, ToStatus, MulOdd, MulEven, SumQuarter, SumHalf, SumAll, MergeHigh, MergeLow, Splat, SplatImmediate, PackMod, PackSat, UnpackHigh, UnpackLow, CompareEqual, CompareGreater, MulHighAdd, MulHighRoundAdd, MulLowAdd, MulSum, MulSumMixed, MulSumSat, Select, Permute, ShiftPair, LoadShiftLeft, LoadShiftRight, LoadElement, LoadLine, StoreElement, StoreLine, AddImmediate}

-- Vectors: whether A, B, C and D are read, and whether D is written.

-- no vector
abbrev pub none : Vectors
none = (false, false, false, false, false)

-- A and B give D
abbrev pub two : Vectors
two = (true, true, false, false, true)

-- A, B and C give D
abbrev pub three : Vectors
three = (true, true, true, false, true)

-- B gives D
abbrev pub one : Vectors
one = (false, true, false, false, true)

-- D from no vector
abbrev pub target : Vectors
target = (false, false, false, false, true)

-- B alone
abbrev pub source : Vectors
source = (false, true, false, false, false)

-- D alone, read
abbrev pub stored : Vectors
stored = (false, false, false, true, false)

-- it can set SAT by clipping
abbrev pub clips : Bool
clips = true

-- it cannot
abbrev pub exact : Bool
exact = false

-- it is position-bound
abbrev pub bound : Bool
bound = true

-- it is not
abbrev pub free : Bool
free = false

-- the bits of A before a splat's lane number
abbrev pub before_lane : Size → Run
before_lane Byte = BeforeByteLane
before_lane Half = BeforeHalfLane
before_lane Word = BeforeWordLane

-- the vectors, whether it can clip, whether it is position-bound, its reserved bits
abbrev pub traits_of : Op → Traits
traits_of (AddMod w) = (two, exact, free, Empty)
traits_of AddCarry = (two, exact, free, Empty)
traits_of (AddSat w s) = (two, clips, free, Empty)
traits_of (SubMod w) = (two, exact, free, Empty)
traits_of SubCarry = (two, exact, free, Empty)
traits_of (SubSat w s) = (two, clips, free, Empty)
traits_of (Max w s) = (two, exact, free, Empty)
traits_of (Min w s) = (two, exact, free, Empty)
traits_of (Average w s) = (two, exact, free, Empty)
traits_of (Rotate w) = (two, exact, free, Empty)
traits_of (ShiftLeft w) = (two, exact, free, Empty)
traits_of (ShiftRight w) = (two, exact, free, Empty)
traits_of (ShiftAlgebraic w) = (two, exact, free, Empty)
traits_of ShiftWholeLeft = (two, exact, bound, Empty)
traits_of ShiftWholeRight = (two, exact, bound, Empty)
traits_of ShiftBytesLeft = (two, exact, bound, Empty)
traits_of ShiftBytesRight = (two, exact, bound, Empty)
traits_of And = (two, exact, free, Empty)
traits_of AndNot = (two, exact, free, Empty)
traits_of Or = (two, exact, free, Empty)
traits_of Xor = (two, exact, free, Empty)
traits_of Nor = (two, exact, free, Empty)
traits_of FromStatus = (target, exact, bound, AB)
traits_of ToStatus = (source, exact, bound, DA)
traits_of (MulOdd w s) = (two, exact, free, Empty)
traits_of (MulEven w s) = (two, exact, free, Empty)
traits_of (SumQuarter w s) = (two, clips, free, Empty)
traits_of SumHalf = (two, clips, bound, Empty)
traits_of SumAll = (two, clips, bound, Empty)
traits_of (MergeHigh w) = (two, exact, bound, Empty)
traits_of (MergeLow w) = (two, exact, bound, Empty)
traits_of (Splat w) = (one, exact, bound, before_lane w)
traits_of (SplatImmediate w) = (target, exact, free, B)
traits_of (PackMod w) = (two, exact, bound, Empty)
traits_of (PackSat w s t) = (two, clips, bound, Empty)
traits_of (UnpackHigh w) = (one, exact, bound, A)
traits_of (UnpackLow w) = (one, exact, bound, A)
traits_of (CompareEqual w) = (two, exact, free, Empty)
traits_of (CompareGreater w s) = (two, exact, free, Empty)
traits_of MulHighAdd = (three, clips, free, Empty)
traits_of MulHighRoundAdd = (three, clips, free, Empty)
traits_of MulLowAdd = (three, exact, free, Empty)
traits_of (MulSum w s) = (three, exact, free, Empty)
traits_of MulSumMixed = (three, exact, free, Empty)
traits_of (MulSumSat s) = (three, clips, free, Empty)
traits_of Select = (three, exact, free, Empty)
traits_of Permute = (three, exact, bound, Empty)
traits_of ShiftPair = (two, exact, bound, BeforeCount)
traits_of LoadShiftLeft = (target, exact, bound, Last)
traits_of LoadShiftRight = (target, exact, bound, Last)
traits_of (LoadElement w) = (target, exact, bound, Last)
traits_of LoadLine = (target, exact, free, Last)
traits_of (StoreElement w) = (stored, exact, bound, Last)
traits_of StoreLine = (stored, exact, free, Last)
traits_of AddImmediate = (none, exact, free, Empty)

-- the row of what a word carries: no instruction has no vector, does not clip, is not position-bound and has no reserved bit
abbrev pub row_of : Option Op → Traits
row_of o = option_map_or traits_of o (none, exact, free, Empty)

abbrev pub reads_a : Op → Bool
reads_a o = (traits_of o).0.0

abbrev pub reads_b : Op → Bool
reads_b o = (traits_of o).0.1

abbrev pub reads_c : Op → Bool
reads_c o = (traits_of o).0.2

abbrev pub reads_d : Op → Bool
reads_d o = (traits_of o).0.3

abbrev pub writes_d : Op → Bool
writes_d o = (traits_of o).0.4

abbrev pub can_clip : Op → Bool
can_clip o = (traits_of o).1

abbrev pub position_bound : Op → Bool
position_bound o = (traits_of o).2

abbrev pub reserved_of : Op → Run
reserved_of o = (traits_of o).3
