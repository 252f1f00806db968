-- Products of parts of lanes, and their sums: what the code computes at a lane is the operation. Assumes nothing.
use Rattle.std.proofs.Common.{◌≡◌, ℕ, ◌+◌, ◌-◌, ◌*◌, ◌/◌, ◌%◌, ◌^◌, ◌<◌, ◌≤◌, Bool, true, false, ◌||◌, cond, ltb, eqb, not, ℤ, pos, ◌+ℤ◌, ◌-ℤ◌, ◌*ℤ◌, bit_and, bit_or, of_z, to_z, refl, sym, ap, ◌∙◌, arith, pow_pos, mod-lt, mod-eq_of_lt, mul-le-mul, lt-ltb, le-ltb, ltb-true, ltb-false}
use native.Mathlib.Nat.{mod-add-mod, add-mod}
use lib.Signed.{shr_z}
use mir.Syntax.{w16, w32}
use Rattle.std.proofs.lemmas.Int.{ints}
use Rattle.std.proofs.lemmas.Nat.{and_mask}
use Rattle.lanes.specs.declared.Lane.{Lane}
use Rattle.lanes.specs.declared.Op.TheVariants.{MulOddU, MulOddS, MulEvenU, MulEvenS, SumBytesU, SumBytesS, SumHalvesS, SplatImmediate, MulHighAdd, MulHighRoundAdd, MulLowAdd, MulSumBytesU, MulSumBytesMixed, MulSumHalvesU, MulSumHalvesSatU, MulSumHalvesS}
use Rattle.lanes.specs.declared.Size.{Size}
use Rattle.lanes.specs.declared.Size.TheVariants.{Byte, Half, Word}
use Rattle.lanes.specs.Integer.{signed, modulo, sat_s, sat_u, saturated, clamp, outside, bits_of}
use Rattle.lanes.specs.Operations.{lane_op, width_of}
use Rattle.lanes.proofs.Biased.{bits, sum}
use Rattle.lanes.proofs.Bridge.{modulus, lane, value, Law}
use Rattle.lanes.proofs.Signed.{by_bias}
use Rattle.vector.proofs.Masks.{mask, on, on_or}
use Rattle.vector.proofs.Sums.{difference, summed_u, add_sat_u}
use Rattle.vector.proofs.Wrapped as Wrapped
use Rattle.vector.proofs.Wrapped.{Code}

-- the low part with its sign, as code has it
abbrev pub byte_of_half : ℕ → ℕ
byte_of_half x = of_z w16 (signed (2 ^ 8) (x % 2 ^ 8))

abbrev pub byte : ℕ → ℕ
byte x = of_z w32 (signed (2 ^ 8) (x % 2 ^ 8))

abbrev pub half : ℕ → ℕ
half x = of_z w32 (signed (2 ^ 16) (x % 2 ^ 16))

code_of_half : (x : ℕ) → Code w16 (byte_of_half x) (signed (2 ^ 8) (x % 2 ^ 8)) 129
code_of_half x = Wrapped.lane w16 256 {m = 2 ^ 8} (mod-lt x (omega arith)) (omega arith) tt

code_of_byte : (x : ℕ) → Code w32 (byte x) (signed (2 ^ 8) (x % 2 ^ 8)) 129
code_of_byte x = Wrapped.lane w32 256 {m = 2 ^ 8} (mod-lt x (omega arith)) (omega arith) tt

code_of_word : (x : ℕ) → Code w32 (half x) (signed (2 ^ 16) (x % 2 ^ 16)) 32769
code_of_word x = Wrapped.lane w32 65536 {m = 2 ^ 16} (mod-lt x (omega arith)) (omega arith) tt

-- products of the odd and the even parts
pub mul_odd_bytes : Law Half MulOddU (value (λ x y z. bit_and x 255 * bit_and y 255 % modulus Half))
unfolding lane_op modulo
mul_odd_bytes = record { agrees = λ x y z h k l. rw (and_mask x 8, and_mask y 8) refl }

pub mul_odd_halves : Law Word MulOddU (value (λ x y z. bit_and x 65535 * bit_and y 65535 % modulus Word))
unfolding lane_op modulo
mul_odd_halves = record { agrees = λ x y z h k l. rw (and_mask x 16, and_mask y 16) refl }

pub mul_even_bytes : Law Half MulEvenU (value (λ x y z. x / 2 ^ 8 * (y / 2 ^ 8) % modulus Half))
unfolding lane_op modulo
mul_even_bytes = record { agrees = λ x y z h k l. refl }

pub mul_even_halves : Law Word MulEvenU (value (λ x y z. x / 2 ^ 16 * (y / 2 ^ 16) % modulus Word))
unfolding lane_op modulo
mul_even_halves = record { agrees = λ x y z h k l. refl }

pub mul_odd_signed_bytes : Law Half MulOddS (value (λ x y z. byte_of_half x * byte_of_half y % modulus Half))
unfolding lane_op modulo
mul_odd_signed_bytes = record { agrees = λ x y z h k l. rw (Wrapped.bits-are w16 (Wrapped.times w16 (code_of_half x) (code_of_half y) tt)) refl }

pub mul_odd_signed_halves : Law Word MulOddS (value (λ x y z. half x * half y % modulus Word))
unfolding lane_op modulo
mul_odd_signed_halves = record { agrees = λ x y z h k l. rw (Wrapped.bits-are w32 (Wrapped.times w32 (code_of_word x) (code_of_word y) tt)) refl }

-- the left half of a lane is all that a shift leaves
left_byte : (x : ℕ) → x < 2 ^ 16 → x / 2 ^ 8 ≡ x / 2 ^ 8 % 2 ^ 8
left_byte x h = omega arith

left_half : (x : ℕ) → x < 2 ^ 32 → x / 2 ^ 16 ≡ x / 2 ^ 16 % 2 ^ 16
left_half x h = omega arith

pub mul_even_signed_bytes : Law Half MulEvenS (value (λ x y z. byte_of_half (x / 2 ^ 8) * byte_of_half (y / 2 ^ 8) % modulus Half))
unfolding lane_op modulo
mul_even_signed_bytes = record { agrees = λ x y z h k l. ap (λ (n : ℕ). value (λ x y z. n) x y z) (sym (Wrapped.bits-are w16 (Wrapped.times w16 (code_of_half (x / 2 ^ 8)) (code_of_half (y / 2 ^ 8)) tt))) ∙ (λ i. modulo (2 ^ 16) (signed (2 ^ 8) (sym (left_byte x h) i) *ℤ signed (2 ^ 8) (sym (left_byte y k) i))) }

pub mul_even_signed_halves : Law Word MulEvenS (value (λ x y z. half (x / 2 ^ 16) * half (y / 2 ^ 16) % modulus Word))
unfolding lane_op modulo
mul_even_signed_halves = record { agrees = λ x y z h k l. ap (λ (n : ℕ). value (λ x y z. n) x y z) (sym (Wrapped.bits-are w32 (Wrapped.times w32 (code_of_word (x / 2 ^ 16)) (code_of_word (y / 2 ^ 16)) tt))) ∙ (λ i. modulo (2 ^ 32) (signed (2 ^ 16) (sym (left_half x h) i) *ℤ signed (2 ^ 16) (sym (left_half y k) i))) }

-- the low five bits, with their sign
pub splat_immediate : (s : Size) → Law s SplatImmediate (value (λ x y z. (bit_and ((x + 16) % modulus s) 31 + (modulus s - 16)) % modulus s))
unfolding lane_op modulo
splat_immediate s = record {
  agrees =
      λ x y z h k l.
      let e : pos ((x % 32 + 16) % 32) -ℤ pos 16 ≡ signed 32 (x % 32) = by_bias 32 (x % 32) (mod-lt x (omega arith)) refl in
      rw (low s x, ← e, difference (modulus s) ((x % 32 + 16) % 32) 16 (pow_pos (width_of s)) (five s x) (some s)) refl;
}
  where
    low : (s : Size) (x : ℕ) → bit_and ((x + 16) % modulus s) 31 ≡ (x % 32 + 16) % 32
    low Byte x = and_mask ((x + 16) % modulus Byte) 5 ∙ omega arith
    low Half x = and_mask ((x + 16) % modulus Half) 5 ∙ omega arith
    low Word x = and_mask ((x + 16) % modulus Word) 5 ∙ omega arith

    five : (s : Size) (x : ℕ) → (x % 32 + 16) % 32 < modulus s
    five Byte x = omega arith
    five Half x = omega arith
    five Word x = omega arith

    some : (s : Size) → 16 < modulus s
    some Byte = omega arith
    some Half = omega arith
    some Word = omega arith

-- the multiply lanes that are reduced
pub mul_low_add : Law Half MulLowAdd (value (λ x y z. (x * y % modulus Half + z) % modulus Half))
unfolding lane_op modulo
mul_low_add = record { agrees = λ x y z h k l. rw (mod-add-mod (x * y) (modulus Half) z) refl }

-- exact sums, saturated
abbrev pub sum_of_bytes : ℕ → ℕ
sum_of_bytes x = (((byte (x / 2 ^ 24) + byte (x / 2 ^ 16)) % 2 ^ 32 + byte (x / 2 ^ 8)) % 2 ^ 32 + byte x) % 2 ^ 32

pub sum_bytes_s : Law Word SumBytesS (λ x y z. sat_s (2 ^ 32) (signed (2 ^ 32) (sum_of_bytes x) +ℤ signed (2 ^ 32) y))
unfolding lane_op
sum_bytes_s = record {
  agrees =
      λ x y z h k l.
      let t = Wrapped.plus w32 (Wrapped.plus w32 (Wrapped.plus w32 (code_of_byte (x / 2 ^ 24)) (code_of_byte (x / 2 ^ 16)) tt) (code_of_byte (x / 2 ^ 8)) tt) (code_of_byte x) tt in
      ap (λ (n : ℤ). sat_s (2 ^ 32) (n +ℤ signed (2 ^ 32) y)) (Wrapped.signed-is w32 t refl);
}

abbrev pub sum_of_halves : ℕ → ℕ
sum_of_halves x = (half (x / 2 ^ 16) + half x) % 2 ^ 32

pub sum_halves_s : Law Word SumHalvesS (λ x y z. sat_s (2 ^ 32) (signed (2 ^ 32) (sum_of_halves x) +ℤ signed (2 ^ 32) y))
unfolding lane_op
sum_halves_s = record {
  agrees =
      λ x y z h k l.
      let t = Wrapped.plus w32 (code_of_word (x / 2 ^ 16)) (code_of_word x) tt in
      ap (λ (n : ℤ). sat_s (2 ^ 32) (n +ℤ signed (2 ^ 32) y)) (Wrapped.signed-is w32 t refl);
}

abbrev pub sum_of_parts : ℕ → ℕ
sum_of_parts x = (((x / 2 ^ 24 + bit_and (x / 2 ^ 16) 255) % 2 ^ 32 + bit_and (x / 2 ^ 8) 255) % 2 ^ 32 + bit_and x 255) % 2 ^ 32

sum_of_parts-is : (x : ℕ) → x < 2 ^ 32 → sum_of_parts x ≡ x / 2 ^ 24 % 2 ^ 8 + x / 2 ^ 16 % 2 ^ 8 + x / 2 ^ 8 % 2 ^ 8 + x % 2 ^ 8
sum_of_parts-is x h = rw (and_mask (x / 2 ^ 16) 8, and_mask (x / 2 ^ 8) 8, and_mask x 8) (omega arith)

pub sum_bytes_u : Law Word SumBytesU (lane (λ x y z. summed_u Word (sum_of_parts x) y) (λ x y z. on Word (mask Word (not (eqb (summed_u Word (sum_of_parts x) y) ((sum_of_parts x + y) % 2 ^ 32))))))
unfolding lane_op
sum_bytes_u = record {
  agrees =
      λ x y z h k l.
      let t : sum_of_parts x < 2 ^ 32 = mod-lt _ (omega arith) in
      (add_sat_u Word).agrees (sum_of_parts x) y z t k l ∙ ap (λ (n : ℕ). sat_u (2 ^ 32) (pos n +ℤ pos y)) (sum_of_parts-is x h);
}

-- high halves of products
abbrev pub wide : ℕ → ℕ
wide x = of_z w32 (signed 65536 x)

code_of_wide : (x : ℕ) → x < 65536 → Code w32 (wide x) (signed 65536 x) 32769
code_of_wide x h = Wrapped.lane w32 65536 h (omega arith) tt

abbrev pub high : ℕ → ℕ → ℕ → ℕ
high x y z = (of_z w32 (shr_z (to_z w32 (wide x * wide y % 2 ^ 32)) (2 ^ 15)) + wide z) % 2 ^ 32

abbrev pub mul_high_add-at : ℕ → ℕ → ℕ → Lane
mul_high_add-at x y z = sat_s 65536 (to_z w32 (high x y z))

pub mul_high_add : Law Half MulHighAdd mul_high_add-at
unfolding lane_op
mul_high_add = record {
  agrees =
      λ x y z h k l.
      ap (sat_s 65536) (Wrapped.plus w32 (Wrapped.shifted w32 (Wrapped.times w32 (code_of_wide x h) (code_of_wide y k) tt) tt (2 ^ 15)) (code_of_wide z l) tt).is;
}

abbrev pub high_rounded : ℕ → ℕ → ℕ → ℕ
high_rounded x y z = (of_z w32 (shr_z (to_z w32 ((wide x * wide y % 2 ^ 32 + 16384) % 2 ^ 32)) (2 ^ 15)) + wide z) % 2 ^ 32

abbrev pub mul_high_round_add-at : ℕ → ℕ → ℕ → Lane
mul_high_round_add-at x y z = sat_s 65536 (to_z w32 (high_rounded x y z))

pub mul_high_round_add : Law Half MulHighRoundAdd mul_high_round_add-at
unfolding lane_op
mul_high_round_add = record {
  agrees =
      λ x y z h k l.
      ap (sat_s 65536) (Wrapped.plus w32 (Wrapped.shifted w32 (Wrapped.plus w32 (Wrapped.times w32 (code_of_wide x h) (code_of_wide y k) tt) (Wrapped.const w32 16384 tt) tt) tt (2 ^ 15)) (code_of_wide z l) tt).is;
}

-- sums of products, reduced
two-sums : (m p q z : ℕ) → ((p % m + q % m) % m + z) % m ≡ (p + q + z) % m
two-sums m p q z = rw (← add-mod p q m) (mod-add-mod (p + q) m z)

four-sums : (m p q r t z : ℕ) → ((((p % m + q % m) % m + r % m) % m + t % m) % m + z) % m ≡ (p + q + r + t + z) % m
four-sums m p q r t z = rw (← add-mod p q m, ← add-mod (p + q) r m, ← add-mod (p + q + r) t m) (mod-add-mod (p + q + r + t) m z)

-- the parts of a word that a shift and a mask leave
module _ (x : ℕ) (h : x < 2 ^ 32) where
  first-byte : x / 2 ^ 24 ≡ x / 2 ^ 24 % 2 ^ 8
  first-byte = omega arith

  first-half : x / 2 ^ 16 ≡ x / 2 ^ 16 % 2 ^ 16
  first-half = omega arith

abbrev pub products_u : ℕ → ℕ → ℕ → ℕ
products_u x y z =
    ((((x / 2 ^ 24 * (y / 2 ^ 24) % 2 ^ 32 + bit_and (x / 2 ^ 16) 255 * bit_and (y / 2 ^ 16) 255 % 2 ^ 32) % 2 ^ 32 + bit_and (x / 2 ^ 8) 255 * bit_and (y / 2 ^ 8) 255 % 2 ^ 32) % 2 ^ 32
    + bit_and x 255 * bit_and y 255 % 2 ^ 32) % 2 ^ 32 + z) % 2 ^ 32

pub mul_sum_bytes_u : Law Word MulSumBytesU (value (λ x y z. products_u x y z))
unfolding lane_op modulo
mul_sum_bytes_u = record {
  agrees =
      λ x y z h k l.
      rw (
        and_mask (x / 2 ^ 16) 8,
        and_mask (y / 2 ^ 16) 8,
        and_mask (x / 2 ^ 8) 8,
        and_mask (y / 2 ^ 8) 8,
        and_mask x 8,
        and_mask y 8,
        four-sums (2 ^ 32) (x / 2 ^ 24 * (y / 2 ^ 24)) (x / 2 ^ 16 % 2 ^ 8 * (y / 2 ^ 16 % 2 ^ 8)) (x / 2 ^ 8 % 2 ^ 8 * (y / 2 ^ 8 % 2 ^ 8)) (x % 2 ^ 8 * (y % 2 ^ 8)) z,
        ← first-byte x h,
        ← first-byte y k,
      ) refl;
}

pub mul_sum_halves_u : Law Word MulSumHalvesU (value (λ x y z. ((x / 2 ^ 16 * (y / 2 ^ 16) % 2 ^ 32 + bit_and x 65535 * bit_and y 65535 % 2 ^ 32) % 2 ^ 32 + z) % 2 ^ 32))
unfolding lane_op modulo
mul_sum_halves_u = record {
  agrees =
      λ x y z h k l.
      rw (and_mask x 16, and_mask y 16, two-sums (2 ^ 32) (x / 2 ^ 16 * (y / 2 ^ 16)) (x % 2 ^ 16 * (y % 2 ^ 16)) z, ← first-half x h, ← first-half y k) refl;
}

-- the bits of exact sums of signed words are those of the wrapped sums
module _ (a b c : ℕ) (ha : a < 2 ^ 32) (hb : b < 2 ^ 32) (hc : c < 2 ^ 32) where
  bias : (x : ℕ) → x < 2 ^ 32 → pos ((x + 2 ^ 31) % 2 ^ 32) -ℤ pos (2 ^ 31) ≡ signed (2 ^ 32) x
  bias x h = by_bias (2 ^ 32) x h refl

  two-words : bits_of (2 ^ 32) (signed (2 ^ 32) a +ℤ signed (2 ^ 32) b) ≡ (a + b) % 2 ^ 32
  two-words =
      ap (bits_of (2 ^ 32)) ((λ i. sym (bias a ha) i +ℤ sym (bias b hb) i) ∙ sum ((a + 2 ^ 31) % 2 ^ 32) ((b + 2 ^ 31) % 2 ^ 32) (2 ^ 31))
      ∙ bits (2 ^ 32) (2 ^ 32) 1 (omega arith) refl ((a + 2 ^ 31) % 2 ^ 32 + (b + 2 ^ 31) % 2 ^ 32) ∙ omega arith

  three-words : bits_of (2 ^ 32) (signed (2 ^ 32) a +ℤ signed (2 ^ 32) b +ℤ signed (2 ^ 32) c) ≡ ((a + b) % 2 ^ 32 + c) % 2 ^ 32
  three-words =
      ap (bits_of (2 ^ 32)) ((λ i. sym (bias a ha) i +ℤ sym (bias b hb) i +ℤ sym (bias c hc) i) ∙ all ((a + 2 ^ 31) % 2 ^ 32) ((b + 2 ^ 31) % 2 ^ 32) ((c + 2 ^ 31) % 2 ^ 32))
      ∙ bits (2 ^ 32) (2 ^ 33) 2 (omega arith) refl ((a + 2 ^ 31) % 2 ^ 32 + (b + 2 ^ 31) % 2 ^ 32 + (c + 2 ^ 31) % 2 ^ 32 + 2 ^ 31) ∙ omega arith
    where
      all : (x y z : ℕ) → (pos x -ℤ pos (2 ^ 31)) +ℤ (pos y -ℤ pos (2 ^ 31)) +ℤ (pos z -ℤ pos (2 ^ 31)) ≡ pos (x + y + z + 2 ^ 31) -ℤ pos (2 ^ 33)
      all x y z = omega (arith, ints)

abbrev pub products_mixed : ℕ → ℕ → ℕ → ℕ
products_mixed x y z =
    ((((byte (x / 2 ^ 24) * (y / 2 ^ 24) % 2 ^ 32 + byte (x / 2 ^ 16) * bit_and (y / 2 ^ 16) 255 % 2 ^ 32) % 2 ^ 32 + byte (x / 2 ^ 8) * bit_and (y / 2 ^ 8) 255 % 2 ^ 32) % 2 ^ 32
    + byte x * bit_and y 255 % 2 ^ 32) % 2 ^ 32 + z) % 2 ^ 32

pub mul_sum_bytes_mixed : Law Word MulSumBytesMixed (value (λ x y z. products_mixed x y z))
unfolding lane_op modulo
mul_sum_bytes_mixed = record {
  agrees =
      λ x y z h k l.
      let first = Wrapped.times w32 (code_of_byte (x / 2 ^ 24)) (Wrapped.natural w32 256 {n = y / 2 ^ 24} (omega arith) tt) tt in
      let p = λ (s t : ℕ). Wrapped.times w32 (code_of_byte s) (Wrapped.natural w32 256 {n = t % 2 ^ 8} (mod-lt t (omega arith)) tt) tt in
      let sums = Wrapped.plus w32 (Wrapped.plus w32 (Wrapped.plus w32 first (p (x / 2 ^ 16) (y / 2 ^ 16)) tt) (p (x / 2 ^ 8) (y / 2 ^ 8)) tt) (p x y) tt in
      rw (
        and_mask (y / 2 ^ 16) 8,
        and_mask (y / 2 ^ 8) 8,
        and_mask y 8,
        ← first-byte y k,
        ← Wrapped.signed-is w32 sums refl,
      ) (ap (λ (n : ℕ). value (λ x y z. n) x y z) (sym (two-words _ z z sums.fits l l)));
}

abbrev pub products_s : ℕ → ℕ → ℕ → ℕ
products_s x y z = ((half (x / 2 ^ 16) * half (y / 2 ^ 16) % 2 ^ 32 + half x * half y % 2 ^ 32) % 2 ^ 32 + z) % 2 ^ 32

pub mul_sum_halves_s : Law Word MulSumHalvesS (value (λ x y z. products_s x y z))
unfolding lane_op modulo
mul_sum_halves_s = record {
  agrees =
      λ x y z h k l.
      let p = Wrapped.times w32 (code_of_word (x / 2 ^ 16)) (code_of_word (y / 2 ^ 16)) tt in
      let q = Wrapped.times w32 (code_of_word x) (code_of_word y) tt in
      rw (← Wrapped.signed-is w32 p refl, ← Wrapped.signed-is w32 q refl) (ap (λ (n : ℕ). value (λ x y z. n) x y z) (sym (three-words _ _ z p.fits q.fits l)));
}

-- the sum of two products and a word, which may carry out twice
carries : (p q z : ℕ) → p < 2 ^ 32 → q < 2 ^ 32 → z < 2 ^ 32 → (t u : Bool) → ltb ((p + q) % 2 ^ 32) p ≡ t → ltb (((p + q) % 2 ^ 32 + z) % 2 ^ 32) z ≡ u
    → record { value = cond (t || u) 4294967295 (((p + q) % 2 ^ 32 + z) % 2 ^ 32); clipped = t || u } ≡ sat_u (2 ^ 32) (pos (p + q + z))
unfolding saturated clamp outside
carries p q z h k l true u e f =
    let a = ltb-true ((p + q) % 2 ^ 32) p e in
    rw (le-ltb (p + q + z) 0 (omega arith), lt-ltb (2 ^ 32 - 1) (p + q + z) (omega arith)) refl
carries p q z h k l false true e f =
    let a = ltb-true (((p + q) % 2 ^ 32 + z) % 2 ^ 32) z f in
    rw (le-ltb (p + q + z) 0 (omega arith), lt-ltb (2 ^ 32 - 1) (p + q + z) (omega arith)) refl
carries p q z h k l false false e f =
    let a = ltb-false ((p + q) % 2 ^ 32) p e in
    let b = ltb-false (((p + q) % 2 ^ 32 + z) % 2 ^ 32) z f in
    let c : ((p + q) % 2 ^ 32 + z) % 2 ^ 32 ≡ (p + q + z) % 2 ^ 32 = mod-add-mod (p + q) (2 ^ 32) z in
    rw (c, le-ltb (p + q + z) 0 (omega arith), le-ltb (2 ^ 32 - 1) (p + q + z) (omega arith)) refl

abbrev pub both_u : ℕ → ℕ → ℕ
both_u x y = (x / 2 ^ 16 * (y / 2 ^ 16) % 2 ^ 32 + bit_and x 65535 * bit_and y 65535 % 2 ^ 32) % 2 ^ 32

abbrev pub out_u : ℕ → ℕ → ℕ → ℕ
out_u x y z = bit_or (mask Word (ltb (both_u x y) (x / 2 ^ 16 * (y / 2 ^ 16) % 2 ^ 32))) (mask Word (ltb ((both_u x y + z) % 2 ^ 32) z))

pub mul_sum_halves_sat_u : Law Word MulSumHalvesSatU (lane (λ x y z. cond (on Word (out_u x y z)) 4294967295 ((both_u x y + z) % 2 ^ 32)) (λ x y z. on Word (out_u x y z)))
unfolding lane_op
mul_sum_halves_sat_u = record {
  agrees =
      λ x y z h k l.
      let a = x / 2 ^ 16 * (y / 2 ^ 16) in
      let b = x % 2 ^ 16 * (y % 2 ^ 16) in
      let p : a < 2 ^ 32 = rw (first-half x h, first-half y k) (small (x / 2 ^ 16) (y / 2 ^ 16)) in
      let q : b < 2 ^ 32 = small x y in
      rw (on_or Word (ltb (both_u x y) (x / 2 ^ 16 * (y / 2 ^ 16) % 2 ^ 32)) (ltb ((both_u x y + z) % 2 ^ 32) z), and_mask x 16, and_mask y 16, ← first-half x h, ← first-half y k, mod-eq_of_lt p, mod-eq_of_lt q)
      (carries a b z p q l (ltb ((a + b) % 2 ^ 32) a) (ltb (((a + b) % 2 ^ 32 + z) % 2 ^ 32) z) refl refl);
}
  where
    small : (x y : ℕ) → x % 2 ^ 16 * (y % 2 ^ 16) < 2 ^ 32
    small x y =
        let a : x % 2 ^ 16 ≤ 65535 = omega arith in
        let b : y % 2 ^ 16 ≤ 65535 = omega arith in
        omega (arith, mul-le-mul a b)
