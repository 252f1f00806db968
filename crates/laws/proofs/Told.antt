-- What the kind of an operation tells of it: one alone is mtvscr, and only a vector instruction clips.
-- Assumes nothing.
use mathlib.Core.Path.{◌≡◌, refl}
use mathlib.Core.Bool.{Bool, true, false, false≢true}
use Rattle.encodings.specs.declared.ops.Op.{Op}
use Rattle.encodings.specs.declared.ops.Op.TheVariants.{AddMod, AddCarry, AddSat, SubMod, SubCarry, SubSat, Max, Min, Average, Rotate, ShiftLeft, ShiftRight, ShiftAlgebraic, ShiftWholeLeft, ShiftWholeRight, ShiftBytesLeft, ShiftBytesRight, And, AndNot, Or, Xor, Nor, FromStatus, ToStatus, MulOdd, MulEven, SumQuarter, SumHalf, SumAll, MergeHigh, MergeLow, Splat, SplatImmediate, PackMod, PackSat, UnpackHigh, UnpackLow, CompareEqual, CompareGreater, MulHighAdd, MulHighRoundAdd, MulLowAdd, MulSum, MulSumMixed, MulSumSat, Select, Permute, ShiftPair, LoadShiftLeft, LoadShiftRight, LoadElement, LoadLine, StoreElement, StoreLine, AddImmediate}
use Rattle.decode.specs.Traits.{can_clip}
use Rattle.control.specs.declared.kinds.Kind.{Kind}
use Rattle.control.specs.declared.kinds.Kind.TheVariants.{Vector, GetStatus, PutStatus, LeftPattern, RightPattern, GetElement, GetLine, PutElement, PutLine, AddScalar}
use Rattle.control.specs.Kinds.{kind_of}

abbrev pub Told : Kind → Op → Type 0
Told Vector op = Unit {0}
Told GetStatus op = can_clip op ≡ false
Told PutStatus op = (op ≡ ToStatus) × (can_clip op ≡ false)
Told LeftPattern op = can_clip op ≡ false
Told RightPattern op = can_clip op ≡ false
Told (GetElement w) op = can_clip op ≡ false
Told GetLine op = can_clip op ≡ false
Told (PutElement w) op = can_clip op ≡ false
Told PutLine op = can_clip op ≡ false
Told AddScalar op = can_clip op ≡ false

pub told : (op : Op) → Told (kind_of op) op
told (AddMod w) = tt
told AddCarry = tt
told (AddSat w s) = tt
told (SubMod w) = tt
told SubCarry = tt
told (SubSat w s) = tt
told (Max w s) = tt
told (Min w s) = tt
told (Average w s) = tt
told (Rotate w) = tt
told (ShiftLeft w) = tt
told (ShiftRight w) = tt
told (ShiftAlgebraic w) = tt
told ShiftWholeLeft = tt
told ShiftWholeRight = tt
told ShiftBytesLeft = tt
told ShiftBytesRight = tt
told And = tt
told AndNot = tt
told Or = tt
told Xor = tt
told Nor = tt
told FromStatus = refl
told ToStatus = (refl, refl)
told (MulOdd w s) = tt
told (MulEven w s) = tt
told (SumQuarter w s) = tt
told SumHalf = tt
told SumAll = tt
told (MergeHigh w) = tt
told (MergeLow w) = tt
told (Splat w) = tt
told (SplatImmediate w) = tt
told (PackMod w) = tt
told (PackSat w s t) = tt
told (UnpackHigh w) = tt
told (UnpackLow w) = tt
told (CompareEqual w) = tt
told (CompareGreater w s) = tt
told MulHighAdd = tt
told MulHighRoundAdd = tt
told MulLowAdd = tt
told (MulSum w s) = tt
told MulSumMixed = tt
told (MulSumSat s) = tt
told Select = tt
told Permute = tt
told ShiftPair = tt
told LoadShiftLeft = refl
told LoadShiftRight = refl
told (LoadElement w) = refl
told LoadLine = refl
told (StoreElement w) = refl
told StoreLine = refl
told AddImmediate = refl

-- mtvscr's kind
abbrev pub setting : Kind → Bool
setting Vector = false
setting GetStatus = false
setting PutStatus = true
setting LeftPattern = false
setting RightPattern = false
setting (GetElement w) = false
setting GetLine = false
setting (PutElement w) = false
setting PutLine = false
setting AddScalar = false

pub status_kind : (op : Op) → setting (kind_of op) ≡ true → op ≡ ToStatus
status_kind op = cases (kind_of op) (told op)
  where
    cases : (k : Kind) → Told k op → setting k ≡ true → op ≡ ToStatus
    cases Vector s h = absurd (false≢true h)
    cases GetStatus s h = absurd (false≢true h)
    cases PutStatus s h = s.0
    cases LeftPattern s h = absurd (false≢true h)
    cases RightPattern s h = absurd (false≢true h)
    cases (GetElement w) s h = absurd (false≢true h)
    cases GetLine s h = absurd (false≢true h)
    cases (PutElement w) s h = absurd (false≢true h)
    cases PutLine s h = absurd (false≢true h)
    cases AddScalar s h = absurd (false≢true h)

-- what is not true is false
pub not_set : (b : Bool) → (b ≡ true → ⊥) → b ≡ false
not_set true h = absurd (h refl)
not_set false h = refl
