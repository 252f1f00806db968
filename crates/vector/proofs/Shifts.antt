-- Shifts, rotations and averages of lanes: what the code computes at a lane is the operation, at every width. Assumes nothing.
use Rattle.std.proofs.Common.{◌≡◌, ℕ, zero, suc, ◌+◌, ◌-◌, ◌*◌, ◌/◌, ◌%◌, ◌^◌, ◌<◌, ◌≤◌, Bool, true, false, ltb, List, [], ◌∷◌, pos, ◌+ℤ◌, ◌-ℤ◌, bit_and, bit_or, bit_xor, refl, sym, ap, ◌∙◌, arith, pow_pos, mod-lt, mod-eq_of_lt, div-le_self, ltb-true, ltb-false, not, cond, leb, le-ltb, lt-ltb, leb-true, leb-false}
use lib.Lanes.{Each2, zip2}
use lib.ListN.{replicate}
use lib.Bits.{or_add_and, xor_add_and, or_lt}
use lib.Signed.{shr_z}
use native.Mathlib.Nat.{add-mod_right, mod-add-mod}
use Rattle.std.proofs.Math.Nat.{add-mul, suc-mul, div-add-mod', div-lt_iff_lt-mul, div-div-eq-div-mul}
use Rattle.std.proofs.lemmas.Int.{ints}
use Rattle.std.proofs.lemmas.Nat.{and_le_r, and_mask, div-mul-add, pow-add}
use Rattle.lanes.specs.declared.Op.TheVariants.{AvgU, AvgS, RotateLeft, ShiftLeft, ShiftRight, ShiftRightAlgebraic}
use Rattle.lanes.specs.declared.Size.{Size}
use Rattle.lanes.specs.declared.Size.TheVariants.{Byte, Half, Word}
use Rattle.lanes.specs.Integer.{bits_of, signed, modulo}
use Rattle.lanes.specs.Operations.{lane_op, width_of}
use Rattle.lanes.proofs.Bridge.{modulus, value, Law}
use Rattle.lanes.proofs.Signed.{by_bias, minus_above, minus_below}
use Rattle.vector.proofs.Masks.{top, mask, on, on_mask, half_of}
use Rattle.vector.proofs.Sums.{difference}

-- half of a sum, rounded up
abbrev pub average : Size → ℕ → ℕ → ℕ
average s x y = (bit_or x y + (modulus s - bit_xor x y / 2 ^ 1)) % modulus s

average-is : (s : Size) (x y : ℕ) → x < modulus s → y < modulus s → average s x y ≡ (x + y + 1) / 2
average-is s x y h k =
    let o : bit_or x y < modulus s = or_lt (width_of s) x y h k in
    let a : bit_or x y + (modulus s - bit_xor x y / 2) ≡ (x + y + 1) / 2 + modulus s = omega (arith, or_add_and x y, xor_add_and x y) in
    let b : (x + y + 1) / 2 < modulus s = omega arith in
    ap (λ (n : ℕ). n % modulus s) a ∙ add-mod_right ((x + y + 1) / 2) (modulus s) ∙ mod-eq_of_lt b

pub avg_u : (s : Size) → Law s AvgU (value (λ x y z. average s x y))
unfolding lane_op
avg_u s = record { agrees = λ x y z h k l. rw (average-is s x y h k) refl }

-- a biased number is shifted with its bias
module _ (d k n : ℕ) (some : 0 < d) where
  with-bias : (t : Bool) → ltb (n / d) k ≡ t → shr_z (pos n -ℤ pos (k * d)) d ≡ pos (n / d) -ℤ pos k
  with-bias true e =
      let q = n / d in
      let r : n % d < d = mod-lt n some in
      let l = ltb-true q k e in
      let b : n < k * d = (div-lt_iff_lt-mul some).0 l in
      let f : k ≡ suc q + (k - suc q) = omega arith in
      let g : k * d ≡ suc q * d + (k - suc q) * d = ap (λ (i : ℕ). i * d) f ∙ add-mul (suc q) (k - suc q) d in
      let o : d - suc (n % d) < d = omega arith in
      let v : k * d - suc n ≡ (k - suc q) * d + (d - suc (n % d)) = omega (arith, g, suc-mul q d, div-add-mod' n d) in
      rw (minus_below n (k * d) b, minus_below q k l, v, div-mul-add (k - suc q) d (d - suc (n % d)) o) refl
  with-bias false e =
      let q = n / d in
      let r : n % d < d = mod-lt n some in
      let l = ltb-false q k e in
      let f : q ≡ k + (q - k) = omega arith in
      let g : q * d ≡ k * d + (q - k) * d = ap (λ (i : ℕ). i * d) f ∙ add-mul k (q - k) d in
      let b : k * d ≤ n = omega (arith, g, div-add-mod' n d) in
      let v : n - k * d ≡ (q - k) * d + n % d = omega (arith, g, div-add-mod' n d) in
      rw (minus_above n (k * d) b, minus_above q k l, v, div-mul-add (q - k) d (n % d) r) refl

  pub shifted : shr_z (pos n -ℤ pos (k * d)) d ≡ pos (n / d) -ℤ pos k
  shifted = with-bias (ltb (n / d) k) refl

abbrev pub raised : Size → ℕ → ℕ
raised s x = (x + top s) % modulus s

pub avg_s : (s : Size) → Law s AvgS (value (λ x y z. (average s (raised s x) (raised s y) + (modulus s - top s)) % modulus s))
unfolding lane_op modulo
avg_s s = record {
  agrees =
      λ x y z h k l.
      let t = half_of s in
      let m = modulus s in
      let some : 0 < m = pow_pos (width_of s) in
      let a : raised s x < m = mod-lt (x + top s) some in
      let b : raised s y < m = mod-lt (y + top s) some in
      let e : m ≡ m / 2 + m / 2 = rw (← t.is) t.even in
      let p : pos (raised s x) -ℤ pos (top s) ≡ signed m x = rw t.is (by_bias m x h e) in
      let q : pos (raised s y) -ℤ pos (top s) ≡ signed m y = rw t.is (by_bias m y k e) in
      let f : signed m x +ℤ signed m y +ℤ pos 1 ≡ pos (raised s x + raised s y + 1) -ℤ pos (top s * 2) = (λ i. sym p i +ℤ sym q i +ℤ pos 1) ∙ both (raised s x) (raised s y) (top s) in
      let g : (raised s x + raised s y + 1) / 2 < m = omega arith in
      let o : top s < m = omega (arith, t.even, t.some) in
      rw (average-is s (raised s x) (raised s y) a b, f, shifted 2 (top s) (raised s x + raised s y + 1) (omega arith), difference m ((raised s x + raised s y + 1) / 2) (top s) some g o) refl;
}
  where
    both : (a b h : ℕ) → (pos a -ℤ pos h) +ℤ (pos b -ℤ pos h) +ℤ pos 1 ≡ pos (a + b + 1) -ℤ pos (h * 2)
    both a b h = omega (arith, ints)

-- the low bits of y, as the amount
abbrev pub amount : Size → ℕ → ℕ
amount s y = bit_and y (width_of s - 1)

pub amount-is : (s : Size) (y : ℕ) → amount s y ≡ y % width_of s
amount-is Byte y = and_mask y 3
amount-is Half y = and_mask y 4
amount-is Word y = and_mask y 5

pub shift_left : (s : Size) → Law s ShiftLeft (value (λ x y z. x * 2 ^ amount s y % modulus s))
unfolding lane_op
shift_left s = record { agrees = λ x y z h k l. rw (amount-is s y) refl }

pub shift_right : (s : Size) → Law s ShiftRight (value (λ x y z. x / 2 ^ amount s y))
unfolding lane_op
shift_right s = record { agrees = λ x y z h k l. rw (amount-is s y) refl }

-- the bits that go round, by a place and then by the others
abbrev pub other : Size → ℕ → ℕ
other s y = (width_of s - 1 + (modulus s - amount s y)) % modulus s

other-is : (s : Size) (y : ℕ) → other s y ≡ width_of s - 1 - y % width_of s
other-is Byte y = rw (amount-is Byte y) (omega arith)
other-is Half y = rw (amount-is Half y) (omega arith)
other-is Word y = rw (amount-is Word y) (omega arith)

round : (s : Size) (x y : ℕ) → x / 2 ^ 1 / 2 ^ other s y ≡ x / 2 ^ (width_of s - y % width_of s)
round s x y = rw (other-is s y) (div-div-eq-div-mul x 2 (2 ^ (width_of s - 1 - y % width_of s)) ∙ ap (λ (n : ℕ). x / n) (sym (pow-add 2 1 (width_of s - 1 - y % width_of s))) ∙ ap (λ (n : ℕ). x / 2 ^ n) (one s))
  where
    one : (s : Size) → 1 + (width_of s - 1 - y % width_of s) ≡ width_of s - y % width_of s
    one Byte = omega arith
    one Half = omega arith
    one Word = omega arith

pub rotate_left : (s : Size) → Law s RotateLeft (value (λ x y z. (x * 2 ^ amount s y % modulus s + x / 2 ^ 1 / 2 ^ other s y) % modulus s))
unfolding lane_op
rotate_left s = record {
  agrees =
      λ x y z h k l.
      rw (round s x y, amount-is s y, mod-add-mod (x * 2 ^ (y % width_of s)) (modulus s) (x / 2 ^ (width_of s - y % width_of s))) refl;
}

-- a shift that copies the sign, where u says that x is negative
abbrev turned : ℕ → Bool → ℕ → ℕ
turned m u x = cond u (m - 1 - x) x

with-sign : (m d x : ℕ) → 0 < d → x < m → (u : Bool) → ltb x (m / 2) ≡ not u → turned m u (turned m u x / d) ≡ bits_of m (shr_z (cond (not u) (pos x) (pos x -ℤ pos m)) d)
with-sign m d x some h true e =
    let a : m - suc x ≡ m - 1 - x = omega arith in
    let b : (m - 1 - x) / d < m = omega (arith, div-le_self (m - 1 - x) d) in
    rw (minus_below x m h, a, mod-eq_of_lt b) (omega arith)
with-sign m d x some h false e =
    let b : x / d < m = omega (arith, div-le_self x d) in
    rw (mod-eq_of_lt b) refl

tested : (h x : ℕ) (u : Bool) → leb h x ≡ u → ltb x h ≡ not u
tested h x true e = le-ltb x h (leb-true h x e)
tested h x false e = lt-ltb x h (leb-false h x e)

abbrev pub minus : Size → ℕ → Bool
minus s x = on s (mask s (leb (top s) x))

pub shift_right_algebraic : (s : Size) → Law s ShiftRightAlgebraic (value (λ x y z. cond (minus s x) (modulus s - 1 - cond (minus s x) (modulus s - 1 - x) x / 2 ^ amount s y) (cond (minus s x) (modulus s - 1 - x) x / 2 ^ amount s y)))
unfolding lane_op modulo signed
shift_right_algebraic s = record {
  agrees =
      λ x y z h k l.
      let u = leb (top s) x in
      let e : ltb x (modulus s / 2) ≡ not u = rw (← (half_of s).is) (tested (top s) x u refl) in
      rw (on_mask s u, amount-is s y, e, with-sign (modulus s) (2 ^ (y % width_of s)) x (pow_pos (y % width_of s)) h u e) refl;
}

-- the amounts of bytes are below eight
low : (xs ys : List ℕ) (n : ℕ) → Each2 (λ a b. b < 8) xs (zip2 bit_and ys (replicate n 7))
low [] ys n = tt
low (x ∷ xs) [] n = tt
low (x ∷ xs) (y ∷ ys) zero = tt
low (x ∷ xs) (y ∷ ys) (suc n) = (omega (arith, and_le_r y 7), low xs ys n)

pub amounts : (xs ys : List ℕ) → Each2 (λ a b. b < 8) xs (zip2 bit_and ys (replicate 16 7))
amounts xs ys = low xs ys 16

rest : (xs ys : List ℕ) (n : ℕ) → Each2 (λ a b. b < 8) xs (zip2 (λ a b. (a + (256 - b)) % 256) (replicate n 7) (zip2 bit_and ys (replicate n 7)))
rest [] ys n = tt
rest (x ∷ xs) ys zero = tt
rest (x ∷ xs) [] (suc n) = tt
rest (x ∷ xs) (y ∷ ys) (suc n) = (omega (arith, and_le_r y 7), rest xs ys n)

pub rests : (xs ys : List ℕ) → Each2 (λ a b. b < 8) xs (zip2 (λ a b. (a + (256 - b)) % 256) (replicate 16 7) (zip2 bit_and ys (replicate 16 7)))
rests xs ys = rest xs ys 16
