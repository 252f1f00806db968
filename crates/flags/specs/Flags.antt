-- NJ, SAT and CR6. Document 01, "Lane rules": the instructions that can set SAT, the compares with Rc, mfvscr and mtvscr. Assumes nothing.
use Rattle.std.specs.Prelude.{ℕ, ◌%◌, Bool, true, false, cond, ◌||◌, List, [], ◌∷◌, get_or, eqb, ltb}
use Rattle.encodings.specs.declared.ops.Op.{Op}
use Rattle.encodings.specs.declared.ops.Op.TheVariants.{AddMod, AddCarry, AddSat, SubMod, SubCarry, SubSat, Max, Min, Average, Rotate, ShiftLeft, ShiftRight, ShiftAlgebraic, ShiftWholeLeft, ShiftWholeRight, ShiftBytesLeft, ShiftBytesRight, And, AndNot, Or, Xor, Nor, FromStatus, ToStatus, MulOdd, MulEven, SumQuarter, SumHalf, SumAll, MergeHigh, MergeLow, Splat, SplatImmediate, PackMod, PackSat, UnpackHigh, UnpackLow, CompareEqual, CompareGreater, MulHighAdd, MulHighRoundAdd, MulLowAdd, MulSum, MulSumMixed, MulSumSat, Select, Permute, ShiftPair, LoadShiftLeft, LoadShiftRight, LoadElement, LoadLine, StoreElement, StoreLine, AddImmediate}
use Rattle.lanes.specs.Summary.{all_true, none_true}
use Rattle.flags.specs.declared.Flags.{Flags}

-- mfvscr: twelve zero bytes and the status word, NJ in its bit 15, SAT in bit 31
unfoldable pub status_of : Flags → List ℕ
status_of f = 0 ∷ 0 ∷ 0 ∷ 0 ∷ 0 ∷ 0 ∷ 0 ∷ 0 ∷ 0 ∷ 0 ∷ 0 ∷ 0 ∷ 0 ∷ cond f.nj 1 0 ∷ 0 ∷ cond f.sat 1 0 ∷ []

-- mtvscr: bit 111 is the last of byte 13, and bit 127 the last of byte 15; the rest is ignored
unfoldable pub from_status : List ℕ → Flags → Flags
from_status x f = record { nj = eqb (get_or x 13 0 % 2) 1; sat = eqb (get_or x 15 0 % 2) 1; cr6 = f.cr6 }

-- SAT stays on, and goes on where a lane was clipped
unfoldable pub marked_of : Flags → ℕ → Flags
marked_of f marks = record { nj = f.nj; sat = f.sat || ltb 0 marks; cr6 = f.cr6 }

-- CR6 of a compare: all true, 0, none true, 0
unfoldable pub summary_of : List ℕ → ℕ
summary_of x = cond (all_true x) 8 (cond (none_true x) 2 0)

-- a compare with Rc sets CR6, and nothing else does
unfoldable pub recorded_of : Flags → Bool → List ℕ → Flags
recorded_of f records x = record { nj = f.nj; sat = f.sat; cr6 = cond records (summary_of x) f.cr6 }

-- the compares
abbrev pub compares : Op → Bool
compares (AddMod w) = false
compares AddCarry = false
compares (AddSat w s) = false
compares (SubMod w) = false
compares SubCarry = false
compares (SubSat w s) = false
compares (Max w s) = false
compares (Min w s) = false
compares (Average w s) = false
compares (Rotate w) = false
compares (ShiftLeft w) = false
compares (ShiftRight w) = false
compares (ShiftAlgebraic w) = false
compares ShiftWholeLeft = false
compares ShiftWholeRight = false
compares ShiftBytesLeft = false
compares ShiftBytesRight = false
compares And = false
compares AndNot = false
compares Or = false
compares Xor = false
compares Nor = false
compares FromStatus = false
compares ToStatus = false
compares (MulOdd w s) = false
compares (MulEven w s) = false
compares (SumQuarter w s) = false
compares SumHalf = false
compares SumAll = false
compares (MergeHigh w) = false
compares (MergeLow w) = false
compares (Splat w) = false
compares (SplatImmediate w) = false
compares (PackMod w) = false
compares (PackSat w s t) = false
compares (UnpackHigh w) = false
compares (UnpackLow w) = false
compares (CompareEqual w) = true
compares (CompareGreater w s) = true
compares MulHighAdd = false
compares MulHighRoundAdd = false
compares MulLowAdd = false
compares (MulSum w s) = false
compares MulSumMixed = false
compares (MulSumSat s) = false
compares Select = false
compares Permute = false
compares ShiftPair = false
compares LoadShiftLeft = false
compares LoadShiftRight = false
compares (LoadElement w) = false
compares LoadLine = false
compares (StoreElement w) = false
compares StoreLine = false
compares AddImmediate = false
