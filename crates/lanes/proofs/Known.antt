-- What signed code computes, as an exact integer with a bound: A is what the code has, a is what it is, and a is below k in size.
-- One law for each operation, for code of every machine width W, so that the proof of an expression is the expression again.
-- Assumes nothing.
use Rattle.std.proofs.Common.{◌≡◌, ℕ, zero, suc, ◌+◌, ◌-◌, ◌*◌, ◌/◌, ◌^◌, ◌<◌, ◌≤◌, Bool, true, false, cond, T, ltb, leb, ℤ, pos, ◌+ℤ◌, ◌-ℤ◌, ◌*ℤ◌, refl, ◌∙◌, lt_of_lt_of_le, not-suc-le-zero, lt_of_le_of_lt, mul-le-mul, arith, leb→le, SFits, to_z, of_z, ltb-false, ltb-true, lt-ltb}
use lib.Signed.{mag, shr_z, mag_shr}
use mir.Val.{hbits}
use mir.Syntax.{Width}
use mir.ValLaws.{to_z-of_z, to_z_pos}
use Rattle.lanes.specs.Integer.{signed}
use Rattle.lanes.proofs.Bounds.{mag-add, mag-sub, mag-mul}

pub record Known (A a : ℤ) (k : ℕ) : Type 0 where
  pub is : A ≡ a
  pub small : mag a < k

module _ (W : Width) where
  -- it fits, and so the next step reads it
  pub fits : {A a : ℤ} {k : ℕ} → Known A a k → T (leb k (2 ^ hbits W)) → SFits W A
  fits {k} e t = rw e.is (record { sfits = lt_of_lt_of_le e.small (leb→le k (2 ^ hbits W) t) })

  pub kept : {A a : ℤ} {k : ℕ} → Known A a k → T (leb k (2 ^ hbits W)) → Known (to_z W (of_z W A)) a k
  kept {A} e t = record { is = to_z-of_z W A (fits e t) ∙ e.is; small = e.small }

  -- an unsigned number
  pub nat : (n k : ℕ) → n < k → T (leb k (2 ^ hbits W)) → Known (to_z W n) (pos n) k
  nat n k h t = record { is = to_z_pos W n (lt_of_lt_of_le h (leb→le k (2 ^ hbits W) t)); small = h }

mag_below : (x m : ℕ) → x < m → mag (pos x -ℤ pos m) ≡ m - suc x
mag_below x zero h = absurd (not-suc-le-zero h)
mag_below x (suc m) h = rw (lt-ltb x (suc m) h)

mag-cond : (t : Bool) (m x : ℕ) → ltb x (m / 2) ≡ t → x < m → mag (cond t (pos x) (pos x -ℤ pos m)) ≤ m / 2
mag-cond true m x e h = omega (arith, ltb-true x (m / 2) e)
mag-cond false m x e h = omega (arith, ltb-false x (m / 2) e, mag_below x m h)

pub size : (m x : ℕ) → x < m → mag (signed m x) ≤ m / 2
unfolding signed
size m x h = mag-cond (ltb x (m / 2)) m x refl h

-- a lane that was read, of at most k values
pub lane : (W : Width) (k : ℕ) {a : ℤ} {m x : ℕ} → a ≡ signed m x → x < m → m ≤ k → T (leb (k / 2 + 1) (2 ^ hbits W)) → Known (to_z W (of_z W a)) (signed m x) (k / 2 + 1)
lane W k {m} {x} e h l t = kept W (record { is = e; small = omega (arith, size m x h) }) t

module _ {A B a b : ℤ} {j k : ℕ} (e : Known A a j) (f : Known B b k) where
  pub plus : Known (A +ℤ B) (a +ℤ b) (j + k)
  plus = record { is = rw (e.is, f.is); small = omega (arith, mag-add a b, e.small, f.small) }

  pub minus : Known (A -ℤ B) (a -ℤ b) (j + k + 1)
  minus = record { is = rw (e.is, f.is); small = omega (arith, mag-sub a b, e.small, f.small) }

  pub times : Known (A *ℤ B) (a *ℤ b) (j * k + 1)
  times = record { is = rw (e.is, f.is); small = omega (arith, mag-mul a b, mul-le-mul e.small f.small) }

pub shifted : {A a : ℤ} {k : ℕ} → Known A a k → (n : ℕ) → Known (shr_z A n) (shr_z a n) k
shifted {a} e n = record { is = rw e.is; small = lt_of_le_of_lt (mag_shr a n) e.small }
