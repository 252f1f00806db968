-- How control treats each operation.
-- Assumes nothing.
use Rattle.encodings.specs.declared.ops.Op.{Op}
use Rattle.encodings.specs.declared.ops.Op.TheVariants.{AddMod, AddCarry, AddSat, SubMod, SubCarry, SubSat, Max, Min, Average, Rotate, ShiftLeft, ShiftRight, ShiftAlgebraic, ShiftWholeLeft, ShiftWholeRight, ShiftBytesLeft, ShiftBytesRight, And, AndNot, Or, Xor, Nor, FromStatus, ToStatus, MulOdd, MulEven, SumQuarter, SumHalf, SumAll, MergeHigh, MergeLow, Splat, SplatImmediate, PackMod, PackSat, UnpackHigh, UnpackLow, CompareEqual, CompareGreater, MulHighAdd, MulHighRoundAdd, MulLowAdd, MulSum, MulSumMixed, MulSumSat, Select, Permute, ShiftPair, LoadShiftLeft, LoadShiftRight, LoadElement, LoadLine, StoreElement, StoreLine, AddImmediate}
use Rattle.control.specs.declared.kinds.Kind.{Kind}
use Rattle.control.specs.declared.kinds.Kind.TheVariants.{Vector, GetStatus, PutStatus, LeftPattern, RightPattern, GetElement, GetLine, PutElement, PutLine, AddScalar}

abbrev pub kind_of : Op → Kind
kind_of (AddMod w) = Vector
kind_of AddCarry = Vector
kind_of (AddSat w s) = Vector
kind_of (SubMod w) = Vector
kind_of SubCarry = Vector
kind_of (SubSat w s) = Vector
kind_of (Max w s) = Vector
kind_of (Min w s) = Vector
kind_of (Average w s) = Vector
kind_of (Rotate w) = Vector
kind_of (ShiftLeft w) = Vector
kind_of (ShiftRight w) = Vector
kind_of (ShiftAlgebraic w) = Vector
kind_of ShiftWholeLeft = Vector
kind_of ShiftWholeRight = Vector
kind_of ShiftBytesLeft = Vector
kind_of ShiftBytesRight = Vector
kind_of And = Vector
kind_of AndNot = Vector
kind_of Or = Vector
kind_of Xor = Vector
kind_of Nor = Vector
kind_of FromStatus = GetStatus
kind_of ToStatus = PutStatus
kind_of (MulOdd w s) = Vector
kind_of (MulEven w s) = Vector
kind_of (SumQuarter w s) = Vector
kind_of SumHalf = Vector
kind_of SumAll = Vector
kind_of (MergeHigh w) = Vector
kind_of (MergeLow w) = Vector
kind_of (Splat w) = Vector
kind_of (SplatImmediate w) = Vector
kind_of (PackMod w) = Vector
kind_of (PackSat w s t) = Vector
kind_of (UnpackHigh w) = Vector
kind_of (UnpackLow w) = Vector
kind_of (CompareEqual w) = Vector
kind_of (CompareGreater w s) = Vector
kind_of MulHighAdd = Vector
kind_of MulHighRoundAdd = Vector
kind_of MulLowAdd = Vector
kind_of (MulSum w s) = Vector
kind_of MulSumMixed = Vector
kind_of (MulSumSat s) = Vector
kind_of Select = Vector
kind_of Permute = Vector
kind_of ShiftPair = Vector
kind_of LoadShiftLeft = LeftPattern
kind_of LoadShiftRight = RightPattern
kind_of (LoadElement w) = GetElement w
kind_of LoadLine = GetLine
kind_of (StoreElement w) = PutElement w
kind_of StoreLine = PutLine
kind_of AddImmediate = AddScalar
