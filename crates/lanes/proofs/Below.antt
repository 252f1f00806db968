-- A lane's result is a lane. Assumes nothing.
use Rattle.std.proofs.Common.{ℕ, ◌+◌, ◌-◌, ◌%◌, ◌^◌, ◌<◌, Bool, true, false, cond, eqb, ltb, ℤ, pos, negsuc, mod-lt, div-le_self, arith}
use lib.Bits.{bit_and, and_le_l, or_lt, xor_lt}
use lib.Signed.{lt_z}
use Rattle.lanes.specs.declared.Op.{Op}
use Rattle.lanes.specs.declared.Op.TheVariants.{AddModulo, AddCarry, AddSatU, AddSatS, SubModulo, SubCarry, SubSatU, SubSatS, MaxU, MaxS, MinU, MinS, AvgU, AvgS, RotateLeft, ShiftLeft, ShiftRight, ShiftRightAlgebraic, And, AndNot, Or, Xor, Nor, MulOddU, MulOddS, MulEvenU, MulEvenS, SumBytesU, SumBytesS, SumHalvesS, SplatImmediate, Equal, GreaterU, GreaterS, MulHighAdd, MulHighRoundAdd, MulLowAdd, MulSumBytesU, MulSumBytesMixed, MulSumHalvesU, MulSumHalvesSatU, MulSumHalvesS, MulSumHalvesSatS, Select}
use Rattle.lanes.specs.declared.Operands.{Operands}
use Rattle.lanes.specs.Integer.{signed, bits_of, clamp, modulo, saturated}
use Rattle.lanes.specs.Operations.{lane_op}
use Rattle.lanes.specs.Width.{InLane, lane_of}

pub bits-lt : {m : ℕ} (z : ℤ) → 0 < m → bits_of m z < m
bits-lt (pos n) h = mod-lt n h
bits-lt {m} (negsuc n) h = omega (arith, mod-lt n h)

modulo-lt : {m : ℕ} (z : ℤ) → 0 < m → (modulo m z).value < m
unfolding modulo
modulo-lt z h = bits-lt z h

sat-lt : {m : ℕ} (lo hi z : ℤ) → 0 < m → (saturated lo hi m z).value < m
unfolding saturated
sat-lt lo hi z h = bits-lt (clamp lo hi z) h

cond-lt : {m : ℕ} (t : Bool) {a b : ℕ} → a < m → b < m → cond t a b < m
cond-lt true h k = h
cond-lt false h k = k

pub below : (op : Op) (w m : ℕ) (o : Operands) → InLane w m o → (lane_of op w m o).value < m
unfolding lane_op
below AddModulo w m o i = modulo-lt _ (omega arith)
below AddCarry w m o i = cond-lt (ltb (o.x + o.y) m) (omega arith) (omega arith)
below AddSatU w m o i = sat-lt _ _ _ (omega arith)
below AddSatS w m o i = sat-lt _ _ _ (omega arith)
below SubModulo w m o i = modulo-lt _ (omega arith)
below SubCarry w m o i = cond-lt (ltb o.x o.y) (omega arith) (omega arith)
below SubSatU w m o i = sat-lt _ _ _ (omega arith)
below SubSatS w m o i = sat-lt _ _ _ (omega arith)
below MaxU w m o i = cond-lt (ltb o.x o.y) i.right i.left
below MaxS w m o i = cond-lt (lt_z (signed m o.x) (signed m o.y)) i.right i.left
below MinU w m o i = cond-lt (ltb o.x o.y) i.left i.right
below MinS w m o i = cond-lt (lt_z (signed m o.x) (signed m o.y)) i.left i.right
below AvgU w m o i = omega (arith, i.left, i.right)
below AvgS w m o i = modulo-lt _ (omega arith)
below RotateLeft w m o i = mod-lt _ (omega arith)
below ShiftLeft w m o i = mod-lt _ (omega arith)
below ShiftRight w m o i = omega (arith, div-le_self o.x (2 ^ (o.y % w)), i.left)
below ShiftRightAlgebraic w m o i = modulo-lt _ (omega arith)
below And w m o i = omega (arith, and_le_l o.x o.y, i.left)
below AndNot w m o i = omega (arith, and_le_l o.x (m - 1 - o.y), i.left)
below Or w m o i =
    let e = i.width.power in
    rw e (or_lt w o.x o.y (rw e at i.left) (rw e at i.right))
below Xor w m o i =
    let e = i.width.power in
    rw e (xor_lt w o.x o.y (rw e at i.left) (rw e at i.right))
below Nor w m o i = omega (arith, i.left)
below MulOddU w m o i = modulo-lt _ (omega arith)
below MulOddS w m o i = modulo-lt _ (omega arith)
below MulEvenU w m o i = modulo-lt _ (omega arith)
below MulEvenS w m o i = modulo-lt _ (omega arith)
below SumBytesU w m o i = sat-lt _ _ _ (omega arith)
below SumBytesS w m o i = sat-lt _ _ _ (omega arith)
below SumHalvesS w m o i = sat-lt _ _ _ (omega arith)
below SplatImmediate w m o i = modulo-lt _ (omega arith)
below Equal w m o i = cond-lt (eqb o.x o.y) (omega arith) (omega arith)
below GreaterU w m o i = cond-lt (ltb o.y o.x) (omega arith) (omega arith)
below GreaterS w m o i = cond-lt (lt_z (signed m o.y) (signed m o.x)) (omega arith) (omega arith)
below MulHighAdd w m o i = sat-lt _ _ _ (omega arith)
below MulHighRoundAdd w m o i = sat-lt _ _ _ (omega arith)
below MulLowAdd w m o i = modulo-lt _ (omega arith)
below MulSumBytesU w m o i = modulo-lt _ (omega arith)
below MulSumBytesMixed w m o i = modulo-lt _ (omega arith)
below MulSumHalvesU w m o i = modulo-lt _ (omega arith)
below MulSumHalvesSatU w m o i = sat-lt _ _ _ (omega arith)
below MulSumHalvesS w m o i = modulo-lt _ (omega arith)
below MulSumHalvesSatS w m o i = sat-lt _ _ _ (omega arith)
below Select w m o i =
    let e = i.width.power in
    let left : o.x < 2 ^ w = rw e at i.left in
    let right : o.y < 2 ^ w = rw e at i.right in
    rw e (or_lt w (bit_and o.x (2 ^ w - 1 - o.z)) (bit_and o.y o.z) (omega (arith, and_le_l o.x (2 ^ w - 1 - o.z))) (omega (arith, and_le_l o.y o.z)))
