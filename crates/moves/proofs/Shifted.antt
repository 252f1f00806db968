-- The whole register as one number of 128 bits: as it is read, and as it is written. Assumes nothing.
use Rattle.std.proofs.Common.{◌≡◌, ℕ, zero, suc, ◌+◌, ◌-◌, ◌*◌, ◌/◌, ◌%◌, ◌^◌, ◌<◌, ◌≤◌, List, ap, ◌∙◌, sym, arith}
use Rattle.std.proofs.Math.Nat.{div-one, one-le-pow, pow-suc, div-div-eq-div-mul, mod-add-div, add-mul-div_left, add-mul-mod_self_left, mul_assoc}
use mathlib.Core.Path.{fun_ext}
use lib.Pow.{pow-add}
use mir.Syntax.{w128}
use Rattle.std.specs.Int.{from_be_bytes}
use Rattle.moves.specs.Chosen.{places}
use Rattle.moves.specs.Shifted.{number, bytes_of}

pub number-is : (v : List ℕ) → from_be_bytes w128 v ≡ number 16 v
unfolding number
number-is v = omega arith

module _ (x : ℕ) where
  -- the digits of a number of 128 bits that is given by its halves, the highest first
  abbrev over : ℕ → ℕ → ℕ
  over zero y = y
  over (suc k) y = over k y / 256

  over-is : (k : ℕ) → over k x ≡ x / 256 ^ k
  over-is zero = sym (div-one x)
  over-is (suc k) = ap (λ (n : ℕ). n / 256) (over-is k) ∙ div-div-eq-div-mul x (256 ^ k) 256 ∙ ap (λ (n : ℕ). x / n) (sym (pow-suc 256 k))

  pub digits-are : places 16 0 (λ i. over (15 - i) (x % 2 ^ 64 + 2 ^ 64 * (x / 2 ^ 64 + 0)) % 256) ≡ bytes_of x
  digits-are =
      let e : x % 2 ^ 64 + 2 ^ 64 * (x / 2 ^ 64 + 0) ≡ x = omega arith in
      ap (λ (y : ℕ). places 16 0 (λ i. over (15 - i) y % 256)) e ∙ ap (places 16 0) (fun_ext (λ (i : ℕ). ap (λ (n : ℕ). n % 256) (over-is (15 - i))))

  -- a byte is the same without what is beyond the last 128 bits
  same_byte : (p r : ℕ) → 0 < p → p * (256 * r) ≡ 2 ^ 128 → x % 2 ^ 128 / p % 256 ≡ x / p % 256
  same_byte p r some e =
      let q : ℕ = x / 2 ^ 128 in
      let f : 2 ^ 128 * q ≡ p * (256 * (r * q)) = ap (λ (n : ℕ). n * q) (sym e) ∙ mul_assoc p (256 * r) q ∙ ap (λ (n : ℕ). p * n) (mul_assoc 256 r q) in
      let d : x ≡ x % 2 ^ 128 + p * (256 * (r * q)) = sym (mod-add-div x (2 ^ 128)) ∙ ap (λ (n : ℕ). x % 2 ^ 128 + n) f in
      sym (ap (λ (n : ℕ). n / p % 256) d ∙ ap (λ (n : ℕ). n % 256) (add-mul-div_left (x % 2 ^ 128) (256 * (r * q)) some) ∙ add-mul-mod_self_left (x % 2 ^ 128 / p) 256 (r * q))

  pub last-are : bytes_of (x % 2 ^ 128) ≡ bytes_of x
  last-are = ap (places 16 0) (fun_ext (λ (i : ℕ). same_byte (256 ^ (15 - i)) (256 ^ (15 - (15 - i))) (one-le-pow (15 - i) 256 (omega arith)) (parts (15 - i) (omega arith))))
    where
      parts : (k : ℕ) → k ≤ 15 → 256 ^ k * (256 * 256 ^ (15 - k)) ≡ 2 ^ 128
      parts k h =
          let e : k + (1 + (15 - k)) ≡ 16 = omega arith in
          ap (λ (n : ℕ). 256 ^ k * n) (sym (pow-add 256 1 (15 - k))) ∙ sym (pow-add 256 k (1 + (15 - k))) ∙ ap (λ (n : ℕ). 256 ^ n) e
