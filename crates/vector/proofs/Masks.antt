-- Lanes of a mask, and half of a lane's range: at every width. Assumes nothing.
use Rattle.std.proofs.Common.{◌≡◌, ℕ, ◌+◌, ◌-◌, ◌/◌, ◌^◌, ◌<◌, Bool, true, false, not, ◌||◌, cond, leb, bit_xor, bit_or, refl, arith}
use Rattle.lanes.specs.declared.Size.{Size}
use Rattle.lanes.specs.declared.Size.TheVariants.{Byte, Half, Word}
use Rattle.lanes.specs.Operations.{width_of}
use Rattle.lanes.proofs.Bridge.{modulus}

abbrev pub top : Size → ℕ
top s = 2 ^ (width_of s - 1)

-- a truth as a lane of a mask, and what such a lane is read as
abbrev pub mask : Size → Bool → ℕ
mask s b = cond b (modulus s - 1) 0

abbrev pub on : Size → ℕ → Bool
on s n = leb (top s) n

pub on_mask : (s : Size) (b : Bool) → on s (mask s b) ≡ b
on_mask Byte true = refl
on_mask Byte false = refl
on_mask Half true = refl
on_mask Half false = refl
on_mask Word true = refl
on_mask Word false = refl

abbrev pub xor : Bool → Bool → Bool
xor b c = cond b (not c) c

pub on_xor : (s : Size) (b c : Bool) → on s (bit_xor (mask s b) (mask s c)) ≡ xor b c
on_xor Byte true true = refl
on_xor Byte true false = refl
on_xor Byte false true = refl
on_xor Byte false false = refl
on_xor Half true true = refl
on_xor Half true false = refl
on_xor Half false true = refl
on_xor Half false false = refl
on_xor Word true true = refl
on_xor Word true false = refl
on_xor Word false true = refl
on_xor Word false false = refl

pub on_or : (s : Size) (b c : Bool) → on s (bit_or (mask s b) (mask s c)) ≡ (b || c)
on_or Byte true true = refl
on_or Byte true false = refl
on_or Byte false true = refl
on_or Byte false false = refl
on_or Half true true = refl
on_or Half true false = refl
on_or Half false true = refl
on_or Half false false = refl
on_or Word true true = refl
on_or Word true false = refl
on_or Word false true = refl
on_or Word false false = refl

pub record HalfOf (s : Size) : Type 0 where
  pub is : top s ≡ modulus s / 2
  pub even : modulus s ≡ top s + top s
  pub some : 0 < top s

pub half_of : (s : Size) → HalfOf s
half_of Byte = record { is = refl; even = refl; some = omega arith }
half_of Half = record { is = refl; even = refl; some = omega arith }
half_of Word = record { is = refl; even = refl; some = omega arith }
