-- `compute::chosen` meets its contract: where an instruction has no marks, what it left is what `computed` says of its operation. Where it has, and where a register
-- is copied, the check finds that alone.
-- Assumes nothing.
use mathlib.Core.Path.{refl}
use Rattle.lanes.specs.declared.Op.TheVariants as lane
use Rattle.lanes.specs.declared.Size.TheVariants.{Byte, Half, Word}
use Rattle.compute.specs.Computed.{computed}
use Rattle.compute.proofs.Carried.{carried_bytes, carried_bare}
use Rattle.compute.proofs.chosen.Goals as goal

pub returns-in-Byte : goal.returns-in-Byte
unfolding computed
returns-in-Byte c = let e = c.on_two.ensures in rw (c.in-AddMod.is, c.in-Byte.is) (carried_bare Byte lane.AddModulo _ _ _ refl e.1.2 e.2)

pub returns-in-Half : goal.returns-in-Half
unfolding computed
returns-in-Half c = let e = c.on_two-in-Half.ensures in rw (c.in-AddMod.is, c.in-Half.is) (carried_bare Half lane.AddModulo _ _ _ refl e.1.2 e.2)

pub returns-in-Word : goal.returns-in-Word
unfolding computed
returns-in-Word c = let e = c.on_two-in-Word.ensures in rw (c.in-AddMod.is, c.in-Word.is) (carried_bare Word lane.AddModulo _ _ _ refl e.1.2 e.2)

pub returns-in-AddCarry : goal.returns-in-AddCarry
unfolding computed
returns-in-AddCarry c = let e = c.on_two-in-AddCarry.ensures in rw c.in-AddCarry.is (carried_bare Word lane.AddCarry _ _ _ refl e.1.2 e.2)

pub returns-in-Byte-w-2 : goal.returns-in-Byte-w-2
unfolding computed
returns-in-Byte-w-2 c = let e = c.on_two-in-Byte-w-2.ensures in rw (c.in-SubMod.is, c.in-Byte-w-2.is) (carried_bare Byte lane.SubModulo _ _ _ refl e.1.2 e.2)

pub returns-in-Half-w-2 : goal.returns-in-Half-w-2
unfolding computed
returns-in-Half-w-2 c = let e = c.on_two-in-Half-w-2.ensures in rw (c.in-SubMod.is, c.in-Half-w-2.is) (carried_bare Half lane.SubModulo _ _ _ refl e.1.2 e.2)

pub returns-in-Word-w-2 : goal.returns-in-Word-w-2
unfolding computed
returns-in-Word-w-2 c = let e = c.on_two-in-Word-w-2.ensures in rw (c.in-SubMod.is, c.in-Word-w-2.is) (carried_bare Word lane.SubModulo _ _ _ refl e.1.2 e.2)

pub returns-in-SubCarry : goal.returns-in-SubCarry
unfolding computed
returns-in-SubCarry c = let e = c.on_two-in-SubCarry.ensures in rw c.in-SubCarry.is (carried_bare Word lane.SubCarry _ _ _ refl e.1.2 e.2)

pub returns-in-Unsigned-s-6 : goal.returns-in-Unsigned-s-6
unfolding computed
returns-in-Unsigned-s-6 c = let e = c.on_two-in-Unsigned-s-6.ensures in rw (c.in-Max.is, c.in-Byte-w-4.is, c.in-Unsigned-s-6.is) (carried_bare Byte lane.MaxU _ _ _ refl e.1.2 e.2)

pub returns-in-Signed-s-6 : goal.returns-in-Signed-s-6
unfolding computed
returns-in-Signed-s-6 c = let e = c.on_two-in-Signed-s-6.ensures in rw (c.in-Max.is, c.in-Byte-w-4.is, c.in-Signed-s-6.is) (carried_bare Byte lane.MaxS _ _ _ refl e.1.2 e.2)

pub returns-in-Unsigned-s-7 : goal.returns-in-Unsigned-s-7
unfolding computed
returns-in-Unsigned-s-7 c = let e = c.on_two-in-Unsigned-s-7.ensures in rw (c.in-Max.is, c.in-Half-w-4.is, c.in-Unsigned-s-7.is) (carried_bare Half lane.MaxU _ _ _ refl e.1.2 e.2)

pub returns-in-Signed-s-7 : goal.returns-in-Signed-s-7
unfolding computed
returns-in-Signed-s-7 c = let e = c.on_two-in-Signed-s-7.ensures in rw (c.in-Max.is, c.in-Half-w-4.is, c.in-Signed-s-7.is) (carried_bare Half lane.MaxS _ _ _ refl e.1.2 e.2)

pub returns-in-Unsigned-s-8 : goal.returns-in-Unsigned-s-8
unfolding computed
returns-in-Unsigned-s-8 c = let e = c.on_two-in-Unsigned-s-8.ensures in rw (c.in-Max.is, c.in-Word-w-4.is, c.in-Unsigned-s-8.is) (carried_bare Word lane.MaxU _ _ _ refl e.1.2 e.2)

pub returns-in-Signed-s-8 : goal.returns-in-Signed-s-8
unfolding computed
returns-in-Signed-s-8 c = let e = c.on_two-in-Signed-s-8.ensures in rw (c.in-Max.is, c.in-Word-w-4.is, c.in-Signed-s-8.is) (carried_bare Word lane.MaxS _ _ _ refl e.1.2 e.2)

pub returns-in-Unsigned-s-9 : goal.returns-in-Unsigned-s-9
unfolding computed
returns-in-Unsigned-s-9 c = let e = c.on_two-in-Unsigned-s-9.ensures in rw (c.in-Min.is, c.in-Byte-w-5.is, c.in-Unsigned-s-9.is) (carried_bare Byte lane.MinU _ _ _ refl e.1.2 e.2)

pub returns-in-Signed-s-9 : goal.returns-in-Signed-s-9
unfolding computed
returns-in-Signed-s-9 c = let e = c.on_two-in-Signed-s-9.ensures in rw (c.in-Min.is, c.in-Byte-w-5.is, c.in-Signed-s-9.is) (carried_bare Byte lane.MinS _ _ _ refl e.1.2 e.2)

pub returns-in-Unsigned-s-10 : goal.returns-in-Unsigned-s-10
unfolding computed
returns-in-Unsigned-s-10 c = let e = c.on_two-in-Unsigned-s-10.ensures in rw (c.in-Min.is, c.in-Half-w-5.is, c.in-Unsigned-s-10.is) (carried_bare Half lane.MinU _ _ _ refl e.1.2 e.2)

pub returns-in-Signed-s-10 : goal.returns-in-Signed-s-10
unfolding computed
returns-in-Signed-s-10 c = let e = c.on_two-in-Signed-s-10.ensures in rw (c.in-Min.is, c.in-Half-w-5.is, c.in-Signed-s-10.is) (carried_bare Half lane.MinS _ _ _ refl e.1.2 e.2)

pub returns-in-Unsigned-s-11 : goal.returns-in-Unsigned-s-11
unfolding computed
returns-in-Unsigned-s-11 c = let e = c.on_two-in-Unsigned-s-11.ensures in rw (c.in-Min.is, c.in-Word-w-5.is, c.in-Unsigned-s-11.is) (carried_bare Word lane.MinU _ _ _ refl e.1.2 e.2)

pub returns-in-Signed-s-11 : goal.returns-in-Signed-s-11
unfolding computed
returns-in-Signed-s-11 c = let e = c.on_two-in-Signed-s-11.ensures in rw (c.in-Min.is, c.in-Word-w-5.is, c.in-Signed-s-11.is) (carried_bare Word lane.MinS _ _ _ refl e.1.2 e.2)

pub returns-in-Unsigned-s-12 : goal.returns-in-Unsigned-s-12
unfolding computed
returns-in-Unsigned-s-12 c = let e = c.on_two-in-Unsigned-s-12.ensures in rw (c.in-Average.is, c.in-Byte-w-6.is, c.in-Unsigned-s-12.is) (carried_bare Byte lane.AvgU _ _ _ refl e.1.2 e.2)

pub returns-in-Signed-s-12 : goal.returns-in-Signed-s-12
unfolding computed
returns-in-Signed-s-12 c = let e = c.on_two-in-Signed-s-12.ensures in rw (c.in-Average.is, c.in-Byte-w-6.is, c.in-Signed-s-12.is) (carried_bare Byte lane.AvgS _ _ _ refl e.1.2 e.2)

pub returns-in-Unsigned-s-13 : goal.returns-in-Unsigned-s-13
unfolding computed
returns-in-Unsigned-s-13 c = let e = c.on_two-in-Unsigned-s-13.ensures in rw (c.in-Average.is, c.in-Half-w-6.is, c.in-Unsigned-s-13.is) (carried_bare Half lane.AvgU _ _ _ refl e.1.2 e.2)

pub returns-in-Signed-s-13 : goal.returns-in-Signed-s-13
unfolding computed
returns-in-Signed-s-13 c = let e = c.on_two-in-Signed-s-13.ensures in rw (c.in-Average.is, c.in-Half-w-6.is, c.in-Signed-s-13.is) (carried_bare Half lane.AvgS _ _ _ refl e.1.2 e.2)

pub returns-in-Unsigned-s-14 : goal.returns-in-Unsigned-s-14
unfolding computed
returns-in-Unsigned-s-14 c = let e = c.on_two-in-Unsigned-s-14.ensures in rw (c.in-Average.is, c.in-Word-w-6.is, c.in-Unsigned-s-14.is) (carried_bare Word lane.AvgU _ _ _ refl e.1.2 e.2)

pub returns-in-Signed-s-14 : goal.returns-in-Signed-s-14
unfolding computed
returns-in-Signed-s-14 c = let e = c.on_two-in-Signed-s-14.ensures in rw (c.in-Average.is, c.in-Word-w-6.is, c.in-Signed-s-14.is) (carried_bare Word lane.AvgS _ _ _ refl e.1.2 e.2)

pub returns-in-Byte-w-7 : goal.returns-in-Byte-w-7
unfolding computed
returns-in-Byte-w-7 c = let e = c.on_two-in-Byte-w-7.ensures in rw (c.in-Rotate.is, c.in-Byte-w-7.is) (carried_bare Byte lane.RotateLeft _ _ _ refl e.1.2 e.2)

pub returns-in-Half-w-7 : goal.returns-in-Half-w-7
unfolding computed
returns-in-Half-w-7 c = let e = c.on_two-in-Half-w-7.ensures in rw (c.in-Rotate.is, c.in-Half-w-7.is) (carried_bare Half lane.RotateLeft _ _ _ refl e.1.2 e.2)

pub returns-in-Word-w-7 : goal.returns-in-Word-w-7
unfolding computed
returns-in-Word-w-7 c = let e = c.on_two-in-Word-w-7.ensures in rw (c.in-Rotate.is, c.in-Word-w-7.is) (carried_bare Word lane.RotateLeft _ _ _ refl e.1.2 e.2)

pub returns-in-Byte-w-8 : goal.returns-in-Byte-w-8
unfolding computed
returns-in-Byte-w-8 c = let e = c.on_two-in-Byte-w-8.ensures in rw (c.in-ShiftLeft.is, c.in-Byte-w-8.is) (carried_bare Byte lane.ShiftLeft _ _ _ refl e.1.2 e.2)

pub returns-in-Half-w-8 : goal.returns-in-Half-w-8
unfolding computed
returns-in-Half-w-8 c = let e = c.on_two-in-Half-w-8.ensures in rw (c.in-ShiftLeft.is, c.in-Half-w-8.is) (carried_bare Half lane.ShiftLeft _ _ _ refl e.1.2 e.2)

pub returns-in-Word-w-8 : goal.returns-in-Word-w-8
unfolding computed
returns-in-Word-w-8 c = let e = c.on_two-in-Word-w-8.ensures in rw (c.in-ShiftLeft.is, c.in-Word-w-8.is) (carried_bare Word lane.ShiftLeft _ _ _ refl e.1.2 e.2)

pub returns-in-Byte-w-9 : goal.returns-in-Byte-w-9
unfolding computed
returns-in-Byte-w-9 c = let e = c.on_two-in-Byte-w-9.ensures in rw (c.in-ShiftRight.is, c.in-Byte-w-9.is) (carried_bare Byte lane.ShiftRight _ _ _ refl e.1.2 e.2)

pub returns-in-Half-w-9 : goal.returns-in-Half-w-9
unfolding computed
returns-in-Half-w-9 c = let e = c.on_two-in-Half-w-9.ensures in rw (c.in-ShiftRight.is, c.in-Half-w-9.is) (carried_bare Half lane.ShiftRight _ _ _ refl e.1.2 e.2)

pub returns-in-Word-w-9 : goal.returns-in-Word-w-9
unfolding computed
returns-in-Word-w-9 c = let e = c.on_two-in-Word-w-9.ensures in rw (c.in-ShiftRight.is, c.in-Word-w-9.is) (carried_bare Word lane.ShiftRight _ _ _ refl e.1.2 e.2)

pub returns-in-Byte-w-10 : goal.returns-in-Byte-w-10
unfolding computed
returns-in-Byte-w-10 c = let e = c.on_two-in-Byte-w-10.ensures in rw (c.in-ShiftAlgebraic.is, c.in-Byte-w-10.is) (carried_bare Byte lane.ShiftRightAlgebraic _ _ _ refl e.1.2 e.2)

pub returns-in-Half-w-10 : goal.returns-in-Half-w-10
unfolding computed
returns-in-Half-w-10 c = let e = c.on_two-in-Half-w-10.ensures in rw (c.in-ShiftAlgebraic.is, c.in-Half-w-10.is) (carried_bare Half lane.ShiftRightAlgebraic _ _ _ refl e.1.2 e.2)

pub returns-in-Word-w-10 : goal.returns-in-Word-w-10
unfolding computed
returns-in-Word-w-10 c = let e = c.on_two-in-Word-w-10.ensures in rw (c.in-ShiftAlgebraic.is, c.in-Word-w-10.is) (carried_bare Word lane.ShiftRightAlgebraic _ _ _ refl e.1.2 e.2)

pub returns-in-ShiftWholeLeft : goal.returns-in-ShiftWholeLeft
unfolding computed
returns-in-ShiftWholeLeft c = let e = c.on_two-in-ShiftWholeLeft.ensures in rw c.in-ShiftWholeLeft.is (carried_bytes e.1.2 e.2)

pub returns-in-ShiftWholeRight : goal.returns-in-ShiftWholeRight
unfolding computed
returns-in-ShiftWholeRight c = let e = c.on_two-in-ShiftWholeRight.ensures in rw c.in-ShiftWholeRight.is (carried_bytes e.1.2 e.2)

pub returns-in-ShiftBytesLeft : goal.returns-in-ShiftBytesLeft
unfolding computed
returns-in-ShiftBytesLeft c = let e = c.on_two-in-ShiftBytesLeft.ensures in rw c.in-ShiftBytesLeft.is (carried_bytes e.1.2 e.2)

pub returns-in-ShiftBytesRight : goal.returns-in-ShiftBytesRight
unfolding computed
returns-in-ShiftBytesRight c = let e = c.on_two-in-ShiftBytesRight.ensures in rw c.in-ShiftBytesRight.is (carried_bytes e.1.2 e.2)

pub returns-in-And : goal.returns-in-And
unfolding computed
returns-in-And c = let e = c.on_two-in-And.ensures in rw c.in-And.is (carried_bare Byte lane.And _ _ _ refl e.1.2 e.2)

pub returns-in-AndNot : goal.returns-in-AndNot
unfolding computed
returns-in-AndNot c = let e = c.on_two-in-AndNot.ensures in rw c.in-AndNot.is (carried_bare Byte lane.AndNot _ _ _ refl e.1.2 e.2)

pub returns-in-Or : goal.returns-in-Or
unfolding computed
returns-in-Or c = let e = c.on_two-in-Or.ensures in rw c.in-Or.is (carried_bare Byte lane.Or _ _ _ refl e.1.2 e.2)

pub returns-in-Xor : goal.returns-in-Xor
unfolding computed
returns-in-Xor c = let e = c.on_two-in-Xor.ensures in rw c.in-Xor.is (carried_bare Byte lane.Xor _ _ _ refl e.1.2 e.2)

pub returns-in-Nor : goal.returns-in-Nor
unfolding computed
returns-in-Nor c = let e = c.on_two-in-Nor.ensures in rw c.in-Nor.is (carried_bare Byte lane.Nor _ _ _ refl e.1.2 e.2)

pub returns-in-Unsigned-s-15 : goal.returns-in-Unsigned-s-15
unfolding computed
returns-in-Unsigned-s-15 c = let e = c.on_two-in-Unsigned-s-15.ensures in rw (c.in-MulOdd.is, c.in-Byte-w-11.is, c.in-Unsigned-s-15.is) (carried_bare Half lane.MulOddU _ _ _ refl e.1.2 e.2)

pub returns-in-Signed-s-15 : goal.returns-in-Signed-s-15
unfolding computed
returns-in-Signed-s-15 c = let e = c.on_two-in-Signed-s-15.ensures in rw (c.in-MulOdd.is, c.in-Byte-w-11.is, c.in-Signed-s-15.is) (carried_bare Half lane.MulOddS _ _ _ refl e.1.2 e.2)

pub returns-in-Unsigned-s-16 : goal.returns-in-Unsigned-s-16
unfolding computed
returns-in-Unsigned-s-16 c = let e = c.on_two-in-Unsigned-s-16.ensures in rw (c.in-MulOdd.is, c.in-Half-w-11.is, c.in-Unsigned-s-16.is) (carried_bare Word lane.MulOddU _ _ _ refl e.1.2 e.2)

pub returns-in-Signed-s-16 : goal.returns-in-Signed-s-16
unfolding computed
returns-in-Signed-s-16 c = let e = c.on_two-in-Signed-s-16.ensures in rw (c.in-MulOdd.is, c.in-Half-w-11.is, c.in-Signed-s-16.is) (carried_bare Word lane.MulOddS _ _ _ refl e.1.2 e.2)

pub returns-in-Unsigned-s-17 : goal.returns-in-Unsigned-s-17
unfolding computed
returns-in-Unsigned-s-17 c = let e = c.on_two-in-Unsigned-s-17.ensures in rw (c.in-MulEven.is, c.in-Byte-w-12.is, c.in-Unsigned-s-17.is) (carried_bare Half lane.MulEvenU _ _ _ refl e.1.2 e.2)

pub returns-in-Signed-s-17 : goal.returns-in-Signed-s-17
unfolding computed
returns-in-Signed-s-17 c = let e = c.on_two-in-Signed-s-17.ensures in rw (c.in-MulEven.is, c.in-Byte-w-12.is, c.in-Signed-s-17.is) (carried_bare Half lane.MulEvenS _ _ _ refl e.1.2 e.2)

pub returns-in-Unsigned-s-18 : goal.returns-in-Unsigned-s-18
unfolding computed
returns-in-Unsigned-s-18 c = let e = c.on_two-in-Unsigned-s-18.ensures in rw (c.in-MulEven.is, c.in-Half-w-12.is, c.in-Unsigned-s-18.is) (carried_bare Word lane.MulEvenU _ _ _ refl e.1.2 e.2)

pub returns-in-Signed-s-18 : goal.returns-in-Signed-s-18
unfolding computed
returns-in-Signed-s-18 c = let e = c.on_two-in-Signed-s-18.ensures in rw (c.in-MulEven.is, c.in-Half-w-12.is, c.in-Signed-s-18.is) (carried_bare Word lane.MulEvenS _ _ _ refl e.1.2 e.2)

pub returns-in-Byte-w-14 : goal.returns-in-Byte-w-14
unfolding computed
returns-in-Byte-w-14 c = let e = c.on_two-in-Byte-w-14.ensures in rw (c.in-MergeHigh.is, c.in-Byte-w-14.is) (carried_bytes e.1.2 e.2)

pub returns-in-Half-w-14 : goal.returns-in-Half-w-14
unfolding computed
returns-in-Half-w-14 c = let e = c.on_two-in-Half-w-14.ensures in rw (c.in-MergeHigh.is, c.in-Half-w-14.is) (carried_bytes e.1.2 e.2)

pub returns-in-Word-w-14 : goal.returns-in-Word-w-14
unfolding computed
returns-in-Word-w-14 c = let e = c.on_two-in-Word-w-14.ensures in rw (c.in-MergeHigh.is, c.in-Word-w-14.is) (carried_bytes e.1.2 e.2)

pub returns-in-Byte-w-15 : goal.returns-in-Byte-w-15
unfolding computed
returns-in-Byte-w-15 c = let e = c.on_two-in-Byte-w-15.ensures in rw (c.in-MergeLow.is, c.in-Byte-w-15.is) (carried_bytes e.1.2 e.2)

pub returns-in-Half-w-15 : goal.returns-in-Half-w-15
unfolding computed
returns-in-Half-w-15 c = let e = c.on_two-in-Half-w-15.ensures in rw (c.in-MergeLow.is, c.in-Half-w-15.is) (carried_bytes e.1.2 e.2)

pub returns-in-Word-w-15 : goal.returns-in-Word-w-15
unfolding computed
returns-in-Word-w-15 c = let e = c.on_two-in-Word-w-15.ensures in rw (c.in-MergeLow.is, c.in-Word-w-15.is) (carried_bytes e.1.2 e.2)

pub returns-in-Byte-w-16 : goal.returns-in-Byte-w-16
unfolding computed
returns-in-Byte-w-16 c = let e = c.on_one.ensures in rw (c.in-Splat.is, c.in-Byte-w-16.is) (carried_bytes e.1.1 e.2)

pub returns-in-Half-w-16 : goal.returns-in-Half-w-16
unfolding computed
returns-in-Half-w-16 c = let e = c.on_one-in-Half-w-16.ensures in rw (c.in-Splat.is, c.in-Half-w-16.is) (carried_bytes e.1.1 e.2)

pub returns-in-Word-w-16 : goal.returns-in-Word-w-16
unfolding computed
returns-in-Word-w-16 c = let e = c.on_one-in-Word-w-16.ensures in rw (c.in-Splat.is, c.in-Word-w-16.is) (carried_bytes e.1.1 e.2)

pub returns-in-Byte-w-17 : goal.returns-in-Byte-w-17
unfolding computed
returns-in-Byte-w-17 c = rw (c.in-SplatImmediate.is, c.in-Byte-w-17.is) (carried_bare Byte lane.SplatImmediate _ _ _ refl c.vspltisb.ensures c.put.ensures)

pub returns-in-Half-w-17 : goal.returns-in-Half-w-17
unfolding computed
returns-in-Half-w-17 c = rw (c.in-SplatImmediate.is, c.in-Half-w-17.is) (carried_bare Half lane.SplatImmediate _ _ _ refl c.vspltish.ensures c.put-in-Half-w-17.ensures)

pub returns-in-Word-w-17 : goal.returns-in-Word-w-17
unfolding computed
returns-in-Word-w-17 c = rw (c.in-SplatImmediate.is, c.in-Word-w-17.is) (carried_bare Word lane.SplatImmediate _ _ _ refl c.vspltisw.ensures c.put-in-Word-w-17.ensures)

pub returns-in-Half-w-18 : goal.returns-in-Half-w-18
unfolding computed
returns-in-Half-w-18 c = let e = c.on_two-in-Half-w-18.ensures in rw (c.in-PackMod.is, c.in-Half-w-18.is) (carried_bytes e.1.2 e.2)

pub returns-in-Word-w-18 : goal.returns-in-Word-w-18
unfolding computed
returns-in-Word-w-18 c = let e = c.on_two-in-Word-w-18.ensures in rw (c.in-PackMod.is, c.in-Word-w-18.is) (carried_bytes e.1.2 e.2)

pub returns-in-Byte-w-20 : goal.returns-in-Byte-w-20
unfolding computed
returns-in-Byte-w-20 c = let e = c.on_one-in-Byte-w-20.ensures in rw (c.in-UnpackHigh.is, c.in-Byte-w-20.is) (carried_bytes e.1.1 e.2)

pub returns-in-Half-w-20 : goal.returns-in-Half-w-20
unfolding computed
returns-in-Half-w-20 c = let e = c.on_one-in-Half-w-20.ensures in rw (c.in-UnpackHigh.is, c.in-Half-w-20.is) (carried_bytes e.1.1 e.2)

pub returns-in-Byte-w-21 : goal.returns-in-Byte-w-21
unfolding computed
returns-in-Byte-w-21 c = let e = c.on_one-in-Byte-w-21.ensures in rw (c.in-UnpackLow.is, c.in-Byte-w-21.is) (carried_bytes e.1.1 e.2)

pub returns-in-Half-w-21 : goal.returns-in-Half-w-21
unfolding computed
returns-in-Half-w-21 c = let e = c.on_one-in-Half-w-21.ensures in rw (c.in-UnpackLow.is, c.in-Half-w-21.is) (carried_bytes e.1.1 e.2)

pub returns-in-Byte-w-22 : goal.returns-in-Byte-w-22
unfolding computed
returns-in-Byte-w-22 c = let e = c.on_two-in-Byte-w-22.ensures in rw (c.in-CompareEqual.is, c.in-Byte-w-22.is) (carried_bare Byte lane.Equal _ _ _ refl e.1.2 e.2)

pub returns-in-Half-w-22 : goal.returns-in-Half-w-22
unfolding computed
returns-in-Half-w-22 c = let e = c.on_two-in-Half-w-22.ensures in rw (c.in-CompareEqual.is, c.in-Half-w-22.is) (carried_bare Half lane.Equal _ _ _ refl e.1.2 e.2)

pub returns-in-Word-w-22 : goal.returns-in-Word-w-22
unfolding computed
returns-in-Word-w-22 c = let e = c.on_two-in-Word-w-22.ensures in rw (c.in-CompareEqual.is, c.in-Word-w-22.is) (carried_bare Word lane.Equal _ _ _ refl e.1.2 e.2)

pub returns-in-Unsigned-s-23 : goal.returns-in-Unsigned-s-23
unfolding computed
returns-in-Unsigned-s-23 c = let e = c.on_two-in-Unsigned-s-23.ensures in rw (c.in-CompareGreater.is, c.in-Byte-w-23.is, c.in-Unsigned-s-23.is) (carried_bare Byte lane.GreaterU _ _ _ refl e.1.2 e.2)

pub returns-in-Signed-s-23 : goal.returns-in-Signed-s-23
unfolding computed
returns-in-Signed-s-23 c = let e = c.on_two-in-Signed-s-23.ensures in rw (c.in-CompareGreater.is, c.in-Byte-w-23.is, c.in-Signed-s-23.is) (carried_bare Byte lane.GreaterS _ _ _ refl e.1.2 e.2)

pub returns-in-Unsigned-s-24 : goal.returns-in-Unsigned-s-24
unfolding computed
returns-in-Unsigned-s-24 c = let e = c.on_two-in-Unsigned-s-24.ensures in rw (c.in-CompareGreater.is, c.in-Half-w-23.is, c.in-Unsigned-s-24.is) (carried_bare Half lane.GreaterU _ _ _ refl e.1.2 e.2)

pub returns-in-Signed-s-24 : goal.returns-in-Signed-s-24
unfolding computed
returns-in-Signed-s-24 c = let e = c.on_two-in-Signed-s-24.ensures in rw (c.in-CompareGreater.is, c.in-Half-w-23.is, c.in-Signed-s-24.is) (carried_bare Half lane.GreaterS _ _ _ refl e.1.2 e.2)

pub returns-in-Unsigned-s-25 : goal.returns-in-Unsigned-s-25
unfolding computed
returns-in-Unsigned-s-25 c = let e = c.on_two-in-Unsigned-s-25.ensures in rw (c.in-CompareGreater.is, c.in-Word-w-23.is, c.in-Unsigned-s-25.is) (carried_bare Word lane.GreaterU _ _ _ refl e.1.2 e.2)

pub returns-in-Signed-s-25 : goal.returns-in-Signed-s-25
unfolding computed
returns-in-Signed-s-25 c = let e = c.on_two-in-Signed-s-25.ensures in rw (c.in-CompareGreater.is, c.in-Word-w-23.is, c.in-Signed-s-25.is) (carried_bare Word lane.GreaterS _ _ _ refl e.1.2 e.2)

pub returns-in-MulLowAdd : goal.returns-in-MulLowAdd
unfolding computed
returns-in-MulLowAdd c = let e = c.on_three-in-MulLowAdd.ensures in rw c.in-MulLowAdd.is (carried_bare Half lane.MulLowAdd _ _ _ refl e.1.3 e.2)

pub returns-in-Unsigned-s-26 : goal.returns-in-Unsigned-s-26
unfolding computed
returns-in-Unsigned-s-26 c = let e = c.on_three-in-Unsigned-s-26.ensures in rw (c.in-MulSum.is, c.in-Byte-w-24.is, c.in-Unsigned-s-26.is) (carried_bare Word lane.MulSumBytesU _ _ _ refl e.1.3 e.2)

pub returns-in-Unsigned-s-27 : goal.returns-in-Unsigned-s-27
unfolding computed
returns-in-Unsigned-s-27 c = let e = c.on_three-in-Unsigned-s-27.ensures in rw (c.in-MulSum.is, c.in-Half-w-24.is, c.in-Unsigned-s-27.is) (carried_bare Word lane.MulSumHalvesU _ _ _ refl e.1.3 e.2)

pub returns-in-Signed-s-27 : goal.returns-in-Signed-s-27
unfolding computed
returns-in-Signed-s-27 c = let e = c.on_three-in-Signed-s-27.ensures in rw (c.in-MulSum.is, c.in-Half-w-24.is, c.in-Signed-s-27.is) (carried_bare Word lane.MulSumHalvesS _ _ _ refl e.1.3 e.2)

pub returns-in-MulSumMixed : goal.returns-in-MulSumMixed
unfolding computed
returns-in-MulSumMixed c = let e = c.on_three-in-MulSumMixed.ensures in rw c.in-MulSumMixed.is (carried_bare Word lane.MulSumBytesMixed _ _ _ refl e.1.3 e.2)

pub returns-in-Select : goal.returns-in-Select
unfolding computed
returns-in-Select c = let e = c.on_three-in-Select.ensures in rw c.in-Select.is (carried_bare Byte lane.Select _ _ _ refl e.1.3 e.2)

pub returns-in-Permute : goal.returns-in-Permute
unfolding computed
returns-in-Permute c = let e = c.on_three-in-Permute.ensures in rw c.in-Permute.is (carried_bytes e.1.3 e.2)

pub returns-in-ShiftPair : goal.returns-in-ShiftPair
unfolding computed
returns-in-ShiftPair c = let e = c.on_two-in-ShiftPair.ensures in rw c.in-ShiftPair.is (carried_bytes e.1.2 e.2)
