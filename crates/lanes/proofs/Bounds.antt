-- Laws of exact integers for the proofs of signed code: how large a result is, and a number that is moved to the nearer end. Assumes nothing.
use Rattle.std.proofs.Common.{◌≡◌, ℕ, zero, suc, ◌+◌, ◌-◌, ◌*◌, ◌<◌, ◌≤◌, Bool, true, false, cond, ltb, ℤ, pos, negsuc, ◌+ℤ◌, ◌-ℤ◌, ◌*ℤ◌, neg_ℤ, refl, true≢false, le_refl, arith, ltb-false}
use lib.Signed.{lt_z, mag}
use Rattle.lanes.specs.Integer.{clamp}

mag-cond : (t : Bool) (a b : ℕ) → mag (cond t (negsuc (b - suc a)) (pos (a - b))) ≤ a + b
mag-cond true a b = omega arith
mag-cond false a b = omega arith

mag-neg : (z : ℤ) → mag (neg_ℤ z) ≤ suc (mag z)
mag-neg (pos zero) = omega arith
mag-neg (pos (suc n)) = omega arith
mag-neg (negsuc n) = le_refl (suc n)

-- how far from zero a sum, a difference and a product are
pub mag-add : (x y : ℤ) → mag (x +ℤ y) ≤ mag x + mag y + 1
mag-add (pos a) (pos b) = omega arith
mag-add (pos a) (negsuc b) = omega (arith, mag-cond (ltb a (suc b)) a (suc b))
mag-add (negsuc a) (pos b) = omega (arith, mag-cond (ltb b (suc a)) b (suc a))
mag-add (negsuc a) (negsuc b) = omega arith

pub mag-sub : (x y : ℤ) → mag (x -ℤ y) ≤ mag x + mag y + 2
mag-sub x y = omega (arith, mag-add x (neg_ℤ y), mag-neg y)

pub mag-negpos : (n : ℕ) → mag (neg_ℤ (pos n)) ≤ n
mag-negpos zero = omega arith
mag-negpos (suc n) = omega arith

pub mag-mul : (x y : ℤ) → mag (x *ℤ y) ≤ suc (mag x) * suc (mag y)
mag-mul (pos a) (pos b) = omega arith
mag-mul (pos a) (negsuc b) = omega (arith, mag-negpos (a * suc b))
mag-mul (negsuc a) (pos b) = omega (arith, mag-negpos (suc a * b))
mag-mul (negsuc a) (negsuc b) = omega arith

-- what two tests left where it was is no farther from zero than the ends
pub between : {k : ℕ} (lo hi z : ℤ) → mag lo < k → mag hi < k → lt_z z lo ≡ false → lt_z hi z ≡ false → mag z < k
between lo (pos h) (pos n) l u e f = omega (arith, ltb-false h n f)
between lo (negsuc h) (pos n) l u e f = absurd (true≢false f)
between (pos a) hi (negsuc n) l u e f = absurd (true≢false e)
between (negsuc a) hi (negsuc n) l u e f = omega (arith, ltb-false a n e)

-- a number moved to the nearer end of lo .. hi
module _ {k : ℕ} (lo hi z : ℤ) (l : mag lo < k) (h : mag hi < k) where
  by_tests : (t u : Bool) → lt_z z lo ≡ t → lt_z hi z ≡ u → mag (cond t lo (cond u hi z)) < k
  by_tests true u e f = l
  by_tests false true e f = h
  by_tests false false e f = between lo hi z l h e f

  pub clamped : mag (clamp lo hi z) < k
  unfolding clamp
  clamped = by_tests (lt_z z lo) (lt_z hi z) refl refl
