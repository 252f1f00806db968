-- What each operation does to a lane of the operands x, y and z: a lane has w bits, and m is 2 ^ w.
-- In the order of document 01, "Encodings"; the rules are those of its "Lane rules". Assumes nothing.
use Rattle.std.specs.Prelude.{ℕ, ◌+◌, ◌-◌, ◌*◌, ◌/◌, ◌%◌, ◌^◌, Bool, true, false, cond, List, ℤ, pos, ◌+ℤ◌, ◌-ℤ◌, ◌*ℤ◌, ◌==◌, bit_and, bit_or, bit_xor, int_lt, nat_lt}
use Rattle.std.specs.Int.Signed.{shr_z}
use Rattle.lanes.specs.declared.Lane.{Lane}
use Rattle.lanes.specs.declared.Marked.{Marked}
use Rattle.lanes.specs.declared.Op.{Op}
use Rattle.lanes.specs.declared.Op.TheVariants.{AddModulo, AddCarry, AddSatU, AddSatS, SubModulo, SubCarry, SubSatU, SubSatS, MaxU, MaxS, MinU, MinS, AvgU, AvgS, RotateLeft, ShiftLeft, ShiftRight, ShiftRightAlgebraic, And, AndNot, Or, Xor, Nor, MulOddU, MulOddS, MulEvenU, MulEvenS, SumBytesU, SumBytesS, SumHalvesS, SplatImmediate, Equal, GreaterU, GreaterS, MulHighAdd, MulHighRoundAdd, MulLowAdd, MulSumBytesU, MulSumBytesMixed, MulSumHalvesU, MulSumHalvesSatU, MulSumHalvesS, MulSumHalvesSatS, Select}
use Rattle.lanes.specs.declared.Size.{Size}
use Rattle.lanes.specs.declared.Size.TheVariants.{Byte, Half, Word}
use Rattle.lanes.specs.Integer.{signed, modulo, sat_u, sat_s, plain, truth}
use Rattle.lanes.specs.Words.{MarkedWord, each, wordwise}

-- the parts of a lane: its left half, which is even, and its right half, which is odd
abbrev pub even : ℕ → ℕ → ℕ
even w x = x / 2 ^ (w / 2)

abbrev pub odd : ℕ → ℕ → ℕ
odd w x = x % 2 ^ (w / 2)

abbrev pub signed_part : ℕ → ℕ → ℤ
signed_part w x = signed (2 ^ (w / 2)) x

-- the sum of f over the bytes and over the halves of two words
abbrev pub over_bytes : (ℕ → ℕ → ℤ) → ℕ → ℕ → ℤ
over_bytes f x y =
    f (x / 2 ^ 24 % 2 ^ 8) (y / 2 ^ 24 % 2 ^ 8) +ℤ f (x / 2 ^ 16 % 2 ^ 8) (y / 2 ^ 16 % 2 ^ 8)
    +ℤ f (x / 2 ^ 8 % 2 ^ 8) (y / 2 ^ 8 % 2 ^ 8) +ℤ f (x % 2 ^ 8) (y % 2 ^ 8)

abbrev pub over_halves : (ℕ → ℕ → ℤ) → ℕ → ℕ → ℤ
over_halves f x y = f (x / 2 ^ 16 % 2 ^ 16) (y / 2 ^ 16 % 2 ^ 16) +ℤ f (x % 2 ^ 16) (y % 2 ^ 16)

-- products of two parts: both unsigned, both signed, the first alone signed
abbrev pub product_u : ℕ → ℕ → ℤ
product_u p q = pos p *ℤ pos q

abbrev pub product_s : ℕ → ℕ → ℤ
product_s p q = signed (2 ^ 16) p *ℤ signed (2 ^ 16) q

abbrev pub product_mixed : ℕ → ℕ → ℤ
product_mixed p q = signed (2 ^ 8) p *ℤ pos q

unfoldable pub lane_op : Op → ℕ → ℕ → ℕ → ℕ → ℕ → Lane
lane_op AddModulo w m x y z = modulo m (pos x +ℤ pos y)
lane_op AddCarry w m x y z = plain (cond (nat_lt (x + y) m) 0 1)
lane_op AddSatU w m x y z = sat_u m (pos x +ℤ pos y)
lane_op AddSatS w m x y z = sat_s m (signed m x +ℤ signed m y)
lane_op SubModulo w m x y z = modulo m (pos x -ℤ pos y)
lane_op SubCarry w m x y z = plain (cond (nat_lt x y) 0 1)
lane_op SubSatU w m x y z = sat_u m (pos x -ℤ pos y)
lane_op SubSatS w m x y z = sat_s m (signed m x -ℤ signed m y)
lane_op MaxU w m x y z = plain (cond (nat_lt x y) y x)
lane_op MaxS w m x y z = plain (cond (int_lt (signed m x) (signed m y)) y x)
lane_op MinU w m x y z = plain (cond (nat_lt x y) x y)
lane_op MinS w m x y z = plain (cond (int_lt (signed m x) (signed m y)) x y)
lane_op AvgU w m x y z = plain ((x + y + 1) / 2)
lane_op AvgS w m x y z = modulo m (shr_z (signed m x +ℤ signed m y +ℤ pos 1) 2)
-- by the low bits of y: 3, 4 or 5 of them, as w is 8, 16 or 32
lane_op RotateLeft w m x y z = plain ((x * 2 ^ (y % w) + x / 2 ^ (w - y % w)) % m)
lane_op ShiftLeft w m x y z = plain (x * 2 ^ (y % w) % m)
lane_op ShiftRight w m x y z = plain (x / 2 ^ (y % w))
lane_op ShiftRightAlgebraic w m x y z = modulo m (shr_z (signed m x) (2 ^ (y % w)))
lane_op And w m x y z = plain (bit_and x y)
lane_op AndNot w m x y z = plain (bit_and x (m - 1 - y))
lane_op Or w m x y z = plain (bit_or x y)
lane_op Xor w m x y z = plain (bit_xor x y)
lane_op Nor w m x y z = plain (m - 1 - bit_or x y)
lane_op MulOddU w m x y z = modulo m (pos (odd w x) *ℤ pos (odd w y))
lane_op MulOddS w m x y z = modulo m (signed_part w (odd w x) *ℤ signed_part w (odd w y))
lane_op MulEvenU w m x y z = modulo m (pos (even w x) *ℤ pos (even w y))
lane_op MulEvenS w m x y z = modulo m (signed_part w (even w x) *ℤ signed_part w (even w y))
lane_op SumBytesU w m x y z = sat_u m (over_bytes (λ p q. pos p) x x +ℤ pos y)
lane_op SumBytesS w m x y z = sat_s m (over_bytes (λ p q. signed (2 ^ 8) p) x x +ℤ signed m y)
lane_op SumHalvesS w m x y z = sat_s m (over_halves (λ p q. signed (2 ^ 16) p) x x +ℤ signed m y)
-- the low five bits of the lane, from -16 to 15
lane_op SplatImmediate w m x y z = modulo m (signed 32 (x % 32))
lane_op Equal w m x y z = truth m (x == y)
lane_op GreaterU w m x y z = truth m (nat_lt y x)
lane_op GreaterS w m x y z = truth m (int_lt (signed m y) (signed m x))
lane_op MulHighAdd w m x y z = sat_s m (shr_z (signed m x *ℤ signed m y) (2 ^ 15) +ℤ signed m z)
lane_op MulHighRoundAdd w m x y z = sat_s m (shr_z (signed m x *ℤ signed m y +ℤ pos (2 ^ 14)) (2 ^ 15) +ℤ signed m z)
lane_op MulLowAdd w m x y z = modulo m (pos x *ℤ pos y +ℤ pos z)
lane_op MulSumBytesU w m x y z = modulo m (over_bytes product_u x y +ℤ pos z)
lane_op MulSumBytesMixed w m x y z = modulo m (over_bytes product_mixed x y +ℤ signed m z)
lane_op MulSumHalvesU w m x y z = modulo m (over_halves product_u x y +ℤ pos z)
lane_op MulSumHalvesSatU w m x y z = sat_u m (over_halves product_u x y +ℤ pos z)
lane_op MulSumHalvesS w m x y z = modulo m (over_halves product_s x y +ℤ signed m z)
lane_op MulSumHalvesSatS w m x y z = sat_s m (over_halves product_s x y +ℤ signed m z)
-- y where z has a one
lane_op Select w m x y z = plain (bit_or (bit_and x (m - 1 - z)) (bit_and y z))

-- the operations whose result can be clipped
abbrev pub clips : Op → Bool
clips AddModulo = false
clips AddCarry = false
clips AddSatU = true
clips AddSatS = true
clips SubModulo = false
clips SubCarry = false
clips SubSatU = true
clips SubSatS = true
clips MaxU = false
clips MaxS = false
clips MinU = false
clips MinS = false
clips AvgU = false
clips AvgS = false
clips RotateLeft = false
clips ShiftLeft = false
clips ShiftRight = false
clips ShiftRightAlgebraic = false
clips And = false
clips AndNot = false
clips Or = false
clips Xor = false
clips Nor = false
clips MulOddU = false
clips MulOddS = false
clips MulEvenU = false
clips MulEvenS = false
clips SumBytesU = true
clips SumBytesS = true
clips SumHalvesS = true
clips SplatImmediate = false
clips Equal = false
clips GreaterU = false
clips GreaterS = false
clips MulHighAdd = true
clips MulHighRoundAdd = true
clips MulLowAdd = false
clips MulSumBytesU = false
clips MulSumBytesMixed = false
clips MulSumHalvesU = false
clips MulSumHalvesSatU = true
clips MulSumHalvesS = false
clips MulSumHalvesSatS = true
clips Select = false

abbrev pub width_of : Size → ℕ
width_of Byte = 8
width_of Half = 16
width_of Word = 32

abbrev pub lanes_in : Size → ℕ
lanes_in Byte = 4
lanes_in Half = 2
lanes_in Word = 1

-- the operation at each lane of three words
abbrev pub word_op : Size → Op → ℕ → ℕ → ℕ → MarkedWord
word_op s o = each (lanes_in s) (2 ^ width_of s) (lane_op o (width_of s) (2 ^ width_of s))

-- the operation at each lane of three vectors
abbrev pub applied : Size → Op → List ℕ → List ℕ → List ℕ → Marked
applied s o a b c = wordwise (lanes_in s) (word_op s o) a b c
