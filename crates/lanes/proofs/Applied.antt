-- The result of an operation on vectors: its words are words, and it has no mark where the operation cannot clip. Assumes nothing.
use Rattle.std.proofs.Common.{◌≡◌, ℕ, zero, suc, ◌/◌, ◌%◌, ◌^◌, ◌<◌, false, List, refl, true≢false, mod-lt, mul-zero, arith, pow_pos}
use Rattle.lanes.specs.declared.Lane.{Lane}
use Rattle.lanes.specs.declared.Op.{Op}
use Rattle.lanes.specs.declared.Op.TheVariants.{AddModulo, AddCarry, AddSatU, AddSatS, SubModulo, SubCarry, SubSatU, SubSatS, MaxU, MaxS, MinU, MinS, AvgU, AvgS, RotateLeft, ShiftLeft, ShiftRight, ShiftRightAlgebraic, And, AndNot, Or, Xor, Nor, MulOddU, MulOddS, MulEvenU, MulEvenS, SumBytesU, SumBytesS, SumHalvesS, SplatImmediate, Equal, GreaterU, GreaterS, MulHighAdd, MulHighRoundAdd, MulLowAdd, MulSumBytesU, MulSumBytesMixed, MulSumHalvesU, MulSumHalvesSatU, MulSumHalvesS, MulSumHalvesSatS, Select}
use Rattle.lanes.specs.declared.Size.{Size}
use Rattle.lanes.specs.declared.Size.TheVariants.{Byte, Half, Word}
use Rattle.lanes.specs.Integer.{modulo}
use Rattle.lanes.specs.Words.{push, each}
use Rattle.lanes.specs.Operations.{lane_op, clips, width_of, lanes_in, word_op, applied}
use Rattle.lanes.specs.Order.{at_place}
use Rattle.lanes.proofs.Below.{below}
use Rattle.lanes.proofs.Sizes.{width_of_lem}
use Rattle.lanes.proofs.Unclipped.{unmarked}

lane-lt : (s : Size) (op : Op) (x y z : ℕ) → (lane_op op (width_of s) (2 ^ width_of s) (x % 2 ^ width_of s) (y % 2 ^ width_of s) (z % 2 ^ width_of s)).value < 2 ^ width_of s
lane-lt s op x y z =
    let some = pow_pos (width_of s) in
    below op (width_of s) (2 ^ width_of s) (record { x = x % 2 ^ width_of s; y = y % 2 ^ width_of s; z = z % 2 ^ width_of s }) (record { width = width_of_lem s; left = mod-lt x some; right = mod-lt y some; third = mod-lt z some })

pub word_small : (s : Size) (op : Op) (x y z : ℕ) → (word_op s op x y z).value < 2 ^ 32
unfolding push
word_small Word op x y z = omega (arith, lane-lt Word op x y z)
word_small Half op x y z = omega (arith, lane-lt Half op (x / 2 ^ 16) (y / 2 ^ 16) (z / 2 ^ 16), lane-lt Half op x y z)
word_small Byte op x y z =
    omega (
      arith,
      lane-lt Byte op (x / 2 ^ 8 / 2 ^ 8 / 2 ^ 8) (y / 2 ^ 8 / 2 ^ 8 / 2 ^ 8) (z / 2 ^ 8 / 2 ^ 8 / 2 ^ 8),
      lane-lt Byte op (x / 2 ^ 8 / 2 ^ 8) (y / 2 ^ 8 / 2 ^ 8) (z / 2 ^ 8 / 2 ^ 8),
      lane-lt Byte op (x / 2 ^ 8) (y / 2 ^ 8) (z / 2 ^ 8),
      lane-lt Byte op x y z,
    )

-- a lane that is not saturated is not marked
lane_unmarked : (op : Op) (w m x y z : ℕ) → clips op ≡ false → (lane_op op w m x y z).clipped ≡ false
unfolding lane_op modulo
lane_unmarked AddModulo w m x y z e = refl
lane_unmarked AddCarry w m x y z e = refl
lane_unmarked AddSatU w m x y z e = absurd (true≢false e)
lane_unmarked AddSatS w m x y z e = absurd (true≢false e)
lane_unmarked SubModulo w m x y z e = refl
lane_unmarked SubCarry w m x y z e = refl
lane_unmarked SubSatU w m x y z e = absurd (true≢false e)
lane_unmarked SubSatS w m x y z e = absurd (true≢false e)
lane_unmarked MaxU w m x y z e = refl
lane_unmarked MaxS w m x y z e = refl
lane_unmarked MinU w m x y z e = refl
lane_unmarked MinS w m x y z e = refl
lane_unmarked AvgU w m x y z e = refl
lane_unmarked AvgS w m x y z e = refl
lane_unmarked RotateLeft w m x y z e = refl
lane_unmarked ShiftLeft w m x y z e = refl
lane_unmarked ShiftRight w m x y z e = refl
lane_unmarked ShiftRightAlgebraic w m x y z e = refl
lane_unmarked And w m x y z e = refl
lane_unmarked AndNot w m x y z e = refl
lane_unmarked Or w m x y z e = refl
lane_unmarked Xor w m x y z e = refl
lane_unmarked Nor w m x y z e = refl
lane_unmarked MulOddU w m x y z e = refl
lane_unmarked MulOddS w m x y z e = refl
lane_unmarked MulEvenU w m x y z e = refl
lane_unmarked MulEvenS w m x y z e = refl
lane_unmarked SumBytesU w m x y z e = absurd (true≢false e)
lane_unmarked SumBytesS w m x y z e = absurd (true≢false e)
lane_unmarked SumHalvesS w m x y z e = absurd (true≢false e)
lane_unmarked SplatImmediate w m x y z e = refl
lane_unmarked Equal w m x y z e = refl
lane_unmarked GreaterU w m x y z e = refl
lane_unmarked GreaterS w m x y z e = refl
lane_unmarked MulHighAdd w m x y z e = absurd (true≢false e)
lane_unmarked MulHighRoundAdd w m x y z e = absurd (true≢false e)
lane_unmarked MulLowAdd w m x y z e = refl
lane_unmarked MulSumBytesU w m x y z e = refl
lane_unmarked MulSumBytesMixed w m x y z e = refl
lane_unmarked MulSumHalvesU w m x y z e = refl
lane_unmarked MulSumHalvesSatU w m x y z e = absurd (true≢false e)
lane_unmarked MulSumHalvesS w m x y z e = refl
lane_unmarked MulSumHalvesSatS w m x y z e = absurd (true≢false e)
lane_unmarked Select w m x y z e = refl

each_unmarked : (n m : ℕ) (f : ℕ → ℕ → ℕ → Lane) → ((x y z : ℕ) → (f x y z).clipped ≡ false) → (x y z : ℕ) → (each n m f x y z).marks ≡ 0
unfolding push
each_unmarked zero m f h x y z = refl
each_unmarked (suc n) m f h x y z = rw (each_unmarked n m f h (x / m) (y / m) (z / m), h (x % m) (y % m) (z % m)) (omega (arith, mul-zero (2 ^ n)))

pub applied_unmarked : (s : Size) (op : Op) → clips op ≡ false → (a b c : List ℕ) → (applied s op a b c).marks ≡ 0
applied_unmarked s op e a b c =
    (unmarked (lanes_in s) (at_place (word_op s op) a b c)).1
    (λ j l. each_unmarked (lanes_in s) (2 ^ width_of s) (lane_op op (width_of s) (2 ^ width_of s)) (λ x y z. lane_unmarked op (width_of s) (2 ^ width_of s) x y z e) _ _ _)
