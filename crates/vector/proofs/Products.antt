-- The sum of two products of halves, in 32 bits that wrap: its bits and its biased form, which are as far apart as the bias. Assumes nothing.
use Rattle.std.proofs.Common.{◌≡◌, ℕ, zero, suc, ◌+◌, ◌-◌, ◌*◌, ◌%◌, ◌^◌, ◌<◌, ◌≤◌, Bool, true, false, cond, ltb, ℤ, pos, negsuc, ◌-ℤ◌, ◌*ℤ◌, neg_ℤ, ap, ◌∙◌, arith, of_z, mul-le-mul, ltb-true, ltb-false}
use lib.Signed.{mag}
use mir.Syntax.{w32}
use Rattle.lanes.proofs.Signed.{minus_above, minus_below}
use Rattle.vector.proofs.AddSigned.{Sign}

-- z is between -(2 ^ 30) and 2 ^ 30, with the bias α
pub record Product (z : ℤ) : Type 0 where
  pub α : ℕ
  pub some : 0 < α
  pub most : α ≤ 2 ^ 31
  pub is : pos α -ℤ pos (2 ^ 30) ≡ z
  pub bits : of_z w32 z ≡ (α + 3221225472) % 2 ^ 32

positive : (t : ℕ) → t ≤ 2 ^ 30 → Product (pos t)
positive t h = record {
  α = t + 2 ^ 30;
  some = omega arith;
  most = omega arith;
  is = minus_above (t + 2 ^ 30) (2 ^ 30) (omega arith) ∙ ap pos (omega arith);
  bits = omega arith;
}

negative : (t : ℕ) → t < 2 ^ 30 → Product (neg_ℤ (pos t))
negative zero h = positive 0 (omega arith)
negative (suc t) h = record {
  α = 2 ^ 30 - suc t;
  some = omega arith;
  most = omega arith;
  is = minus_below (2 ^ 30 - suc t) (2 ^ 30) (omega arith) ∙ ap negsuc (omega arith);
  bits = omega arith;
}

pub product : (a b : ℤ) → mag a < 32768 → mag b < 32768 → Product (a *ℤ b)
product (pos a) (pos b) h k = positive (a * b) (omega (arith, mul-le-mul (le a h) (le b k)))
  where
    le : (n : ℕ) → n < 32768 → n ≤ 32767
    le n h = omega arith
product (pos a) (negsuc b) h k = negative (a * suc b) (omega (arith, mul-le-mul (le a h) k))
  where
    le : (n : ℕ) → n < 32768 → n ≤ 32767
    le n h = omega arith
product (negsuc a) (pos b) h k = negative (suc a * b) (omega (arith, mul-le-mul h (le b k)))
  where
    le : (n : ℕ) → n < 32768 → n ≤ 32767
    le n h = omega arith
product (negsuc a) (negsuc b) h k = positive (suc a * suc b) (omega (arith, mul-le-mul h k))

-- the bits q of the sum of two, their biased sum, and the sign
module _ (α β q : ℕ) (ha : 0 < α) (hb : 0 < β) (ka : α ≤ 2 ^ 31) (kb : β ≤ 2 ^ 31) (e : q ≡ ((α + 3221225472) % 2 ^ 32 + (β + 3221225472) % 2 ^ 32) % 2 ^ 32) where
  pub q-is : q ≡ (α + β + 2147483648) % 2 ^ 32
  q-is = omega arith

  pub q-sign : (u : Bool) → ltb 2147483648 q ≡ u → Sign 2147483648 q u
  q-sign true f = let l = ltb-true 2147483648 q f in omega arith
  q-sign false f = ltb-false 2147483648 q f

  pub q-biased : (u : Bool) → ltb 2147483648 q ≡ u → α + β ≡ cond u (q - 2147483648) (q + 2147483648)
  q-biased true f = let l = ltb-true 2147483648 q f in omega (arith, q-is)
  q-biased false f = let l = ltb-false 2147483648 q f in omega (arith, q-is)
