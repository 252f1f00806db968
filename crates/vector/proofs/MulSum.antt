-- The sum of two products of halves and a word, saturated. Assumes nothing.
use Rattle.std.proofs.Common.{◌≡◌, ℕ, ◌+◌, ◌-◌, ◌*◌, ◌/◌, ◌%◌, ◌^◌, ◌<◌, cond, ltb, List, [], ◌∷◌, bit_xor, ◌+ℤ◌, ◌*ℤ◌, refl, sym, ap, ◌∙◌, arith, of_z, to_z, mod-lt}
use native.Mathlib.Nat.{add-mod-mod, mod-add-mod}
use lib.IntN.{+ℤ_comm}
use lib.ListN.{get_or}
use mir.Syntax.{w32}
use mir.ValLaws.{of_z-to_z}
use Rattle.lanes.specs.declared.Lane.{Lane}
use Rattle.lanes.specs.declared.Op.TheVariants.{MulSumHalvesSatS}
use Rattle.lanes.specs.declared.Size.TheVariants.{Half, Word}
use Rattle.lanes.specs.Integer.{signed, sat_s}
use Rattle.lanes.specs.Numbers.{number_at}
use Rattle.lanes.specs.Operations.{lane_op}
use Rattle.lanes.specs.Order.{Bytes}
use Rattle.lanes.specs.Words.{word_from}
use Rattle.lanes.specs.Placed.{lanes_of}
use Rattle.lanes.proofs.Bridge.{modulus, lane, Law}
use Rattle.vector.proofs.Masks.{top, mask, on, on_mask, on_xor}
use Rattle.vector.proofs.Multiplied.{wide}
use Rattle.vector.proofs.AddSigned.{add-given}
use Rattle.lanes.proofs.Biased.{sum}
use Rattle.vector.proofs.Exact.{half-size}
use Rattle.vector.proofs.Products.{product, q-is, q-sign, q-biased}
use Rattle.vector.proofs.Wrapped as Wrapped

-- the halves of a vector are those of its words
abbrev pub parts : List ℕ → List ℕ
parts [] = []
parts (x ∷ xs) = x / 2 ^ 16 % 2 ^ 16 ∷ x % 2 ^ 16 ∷ parts xs

pub halves-of-words : (v : List ℕ) → Bytes v → lanes_of Half v ≡ parts (lanes_of Word v)
unfolding number_at word_from
halves-of-words v h = λ i. left 0 i ∷ right 0 i ∷ left 4 i ∷ right 4 i ∷ left 8 i ∷ right 8 i ∷ left 12 i ∷ right 12 i ∷ []
  where
    left : (k : ℕ) → number_at Half v k ≡ number_at Word v k / 2 ^ 16 % 2 ^ 16
    left k = omega (arith, h k, h (k + 1), h (k + 2), h (k + 3))

    right : (k : ℕ) → number_at Half v (k + 2) ≡ number_at Word v k % 2 ^ 16
    right k =
        let e : get_or v (k + 2 + 1) 0 ≡ get_or v (k + 3) 0 = ap (λ (i : ℕ). get_or v i 0) (omega arith) in
        omega (arith, e, h k, h (k + 1), h (k + 2), h (k + 3))

-- the bits of a product, and of the sum of two
abbrev pub times : ℕ → ℕ → ℕ
times x y = wide x * wide y % 2 ^ 32

abbrev pub both : ℕ → ℕ → ℕ
both x y = of_z w32 (to_z w32 ((times (x / 2 ^ 16 % 2 ^ 16) (y / 2 ^ 16 % 2 ^ 16) + times (x % 2 ^ 16) (y % 2 ^ 16)) % 2 ^ 32))

times-is : (x y : ℕ) (h : x < 65536) (k : y < 65536) → times x y ≡ ((product (signed 65536 x) (signed 65536 y) (half-size x h) (half-size y k)).α + 3221225472) % 2 ^ 32
times-is x y h k =
    let half = λ (t : ℕ) (e : t < 65536). Wrapped.lane w32 65536 e (omega arith) tt in
    let c = Wrapped.times w32 (half x h) (half y k) tt in
    sym (of_z-to_z w32 (times x y) (record { fits = c.fits })) ∙ ap (of_z w32) c.is ∙ (product (signed 65536 x) (signed 65536 y) (half-size x h) (half-size y k)).bits

abbrev pub out : ℕ → ℕ → ℕ
out q z = bit_xor (mask Word (ltb (((z + q) % modulus Word + top Word) % modulus Word) ((z + top Word) % modulus Word))) (mask Word (ltb (top Word) q))

abbrev pub mul_sum : ℕ → ℕ → ℕ → Lane
mul_sum = lane (λ x y z. cond (on Word (out (both x y) z)) (cond (on Word (mask Word (ltb (top Word) (both x y)))) (top Word) (top Word - 1)) ((z + both x y) % modulus Word)) (λ x y z. on Word (out (both x y) z))

mul_sum-is : (x y z : ℕ) → x < 2 ^ 32 → y < 2 ^ 32 → z < 2 ^ 32 → mul_sum x y z ≡ lane_op MulSumHalvesSatS 32 (2 ^ 32) x y z
unfolding lane_op
mul_sum-is x y z h k l =
    let x1 : x / 2 ^ 16 % 2 ^ 16 < 65536 = omega arith in
    let y1 : y / 2 ^ 16 % 2 ^ 16 < 65536 = omega arith in
    let x2 : x % 2 ^ 16 < 65536 = omega arith in
    let y2 : y % 2 ^ 16 < 65536 = omega arith in
    let a = product (signed 65536 (x / 2 ^ 16 % 2 ^ 16)) (signed 65536 (y / 2 ^ 16 % 2 ^ 16)) (half-size _ x1) (half-size _ y1) in
    let b = product (signed 65536 (x % 2 ^ 16)) (signed 65536 (y % 2 ^ 16)) (half-size _ x2) (half-size _ y2) in
    let m : (times (x / 2 ^ 16 % 2 ^ 16) (y / 2 ^ 16 % 2 ^ 16) + times (x % 2 ^ 16) (y % 2 ^ 16)) % 2 ^ 32 < 2 ^ 32 = mod-lt _ (omega arith) in
    let e : both x y ≡ ((a.α + 3221225472) % 2 ^ 32 + (b.α + 3221225472) % 2 ^ 32) % 2 ^ 32 =
    of_z-to_z w32 _ (record { fits = m }) ∙ (λ i. (times-is _ _ x1 y1 i + times-is _ _ x2 y2 i) % 2 ^ 32) in
    let n : both x y < 2 ^ 32 = rw e (mod-lt _ (omega arith)) in
    let s : (z + both x y) % 2 ^ 32 ≡ ((z + 2147483648) % 2 ^ 32 + (a.α + b.α)) % 2 ^ 32 =
    ap (λ (t : ℕ). (z + t) % 2 ^ 32) (q-is a.α b.α (both x y) a.some b.some a.most b.most e) ∙ add-mod-mod z (a.α + b.α + 2147483648) (2 ^ 32) ∙ ap (λ (t : ℕ). t % 2 ^ 32) (omega arith)
    ∙ sym (mod-add-mod (z + 2147483648) (2 ^ 32) (a.α + b.α)) in
    rw (on_xor Word (ltb (((z + both x y) % modulus Word + top Word) % modulus Word) ((z + top Word) % modulus Word)) (ltb (top Word) (both x y)), on_mask Word (ltb (top Word) (both x y)))
    (add-given (modulus Word) (top Word) z (both x y) refl refl (omega arith) l n (ltb (top Word) (both x y))
    (signed 65536 (x / 2 ^ 16 % 2 ^ 16) *ℤ signed 65536 (y / 2 ^ 16 % 2 ^ 16) +ℤ signed 65536 (x % 2 ^ 16) *ℤ signed 65536 (y % 2 ^ 16)) (a.α + b.α)
    (q-sign a.α b.α (both x y) a.some b.some a.most b.most e (ltb (top Word) (both x y)) refl)
    (q-biased a.α b.α (both x y) a.some b.some a.most b.most e (ltb (top Word) (both x y)) refl)
    s
    (sym (sum a.α b.α (2 ^ 30)) ∙ (λ i. a.is i +ℤ b.is i))
    ∙ ap (sat_s (modulus Word)) (+ℤ_comm (signed (modulus Word) z) _))

pub mul_sum_halves_sat_s : Law Word MulSumHalvesSatS mul_sum
mul_sum_halves_sat_s = record { agrees = mul_sum-is }
