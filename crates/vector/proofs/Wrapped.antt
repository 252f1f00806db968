-- Lanes of a signed width W that code computes with wrapping operations, and the exact integers that they are: one law for each operation, so that
-- the proof of an expression is the expression again. Assumes nothing.
use Rattle.std.proofs.Common.{◌≡◌, ℕ, suc, Bool, true, false, cond, ltb, ◌-ℤ◌, mod-eq_of_lt, ◌-◌, ◌+◌, ◌*◌, ◌/◌, ◌%◌, ◌^◌, ◌<◌, ◌≤◌, T, leb, ℤ, pos, ◌+ℤ◌, ◌*ℤ◌, refl, ◌∙◌, to_z, of_z, mod-lt, pow_pos, arith}
use Rattle.std.proofs.lemmas.Int.{wrapping_add-bits, wrapping_mul-bits, int_wrap_fits}
use lib.Signed.{mag, shr_z}
use mir.Syntax.{Width}
use mir.Val.{bits, hbits}
use mir.ValLaws.{of_z_fits}
use Rattle.lanes.specs.Integer.{signed, bits_of}
use Rattle.lanes.proofs.Signed.{minus_below}
use Rattle.lanes.proofs.Known as Known
use Rattle.lanes.proofs.Known.{Known}

-- the lane a is the exact integer A, which is below k in size
pub record Code (W : Width) (a : ℕ) (A : ℤ) (k : ℕ) : Type 0 where
  pub is : to_z W a ≡ A
  pub small : mag A < k
  pub fits : a < 2 ^ bits W

module _ (W : Width) where
  known : {a : ℕ} {A : ℤ} {k : ℕ} → Code W a A k → Known (to_z W a) A k
  known e = record { is = e.is; small = e.small }

  -- a lane that was read, of at most k values
  pub lane : (k : ℕ) {m x : ℕ} → x < m → m ≤ k → T (leb (k / 2 + 1) (2 ^ hbits W)) → Code W (of_z W (signed m x)) (signed m x) (k / 2 + 1)
  lane k {m} {x} h l t =
      let e = Known.lane W k {m = m} {x = x} refl h l t in
      record { is = e.is; small = e.small; fits = (of_z_fits W (signed m x) (Known.fits W (record { is = refl; small = e.small }) t)).fits }

  module _ {a b : ℕ} {A B : ℤ} {j k : ℕ} (e : Code W a A j) (f : Code W b B k) where
    pub plus : T (leb (j + k) (2 ^ hbits W)) → Code W ((a + b) % 2 ^ bits W) (A +ℤ B) (j + k)
    plus t =
        let s = Known.plus (known e) (known f) in
        record { is = wrapping_add-bits W a b e.fits f.fits ∙ int_wrap_fits W (to_z W a +ℤ to_z W b) (Known.fits W s t) ∙ s.is; small = s.small; fits = mod-lt (a + b) (pow_pos (bits W)) }

    pub times : T (leb (j * k + 1) (2 ^ hbits W)) → Code W ((a * b) % 2 ^ bits W) (A *ℤ B) (j * k + 1)
    times t =
        let s = Known.times (known e) (known f) in
        record { is = wrapping_mul-bits W a b e.fits f.fits ∙ int_wrap_fits W (to_z W a *ℤ to_z W b) (Known.fits W s t) ∙ s.is; small = s.small; fits = mod-lt (a * b) (pow_pos (bits W)) }

  pub shifted : {a : ℕ} {A : ℤ} {k : ℕ} → Code W a A k → T (leb k (2 ^ hbits W)) → (n : ℕ) → Code W (of_z W (shr_z (to_z W a) n)) (shr_z A n) k
  shifted {a} e t n =
      let s = Known.shifted (known e) n in
      let r = Known.kept W s t in
      record { is = r.is; small = r.small; fits = (of_z_fits W (shr_z (to_z W a) n) (Known.fits W s t)).fits }

  -- a number below k, and a constant
  pub natural : (k : ℕ) {n : ℕ} → n < k → T (leb k (2 ^ hbits W)) → Code W n (pos n) k
  natural k {n} l t =
      let e = Known.nat W n k l t in
      record { is = e.is; small = e.small; fits = (of_z_fits W (pos n) (Known.fits W (record { is = refl; small = e.small }) t)).fits }

  pub const : (n : ℕ) → T (leb (suc n) (2 ^ hbits W)) → Code W n (pos n) (suc n)
  const n t =
      let l : n < suc n = omega arith in
      let e = Known.nat W n (suc n) l t in
      record { is = e.is; small = e.small; fits = (of_z_fits W (pos n) (Known.fits W (record { is = refl; small = e.small }) t)).fits }

-- a lane is read as the integer of its bits, which has those bits
module _ (W : Width) where
  by-test : (x : ℕ) → x < 2 ^ bits W → (t : Bool) → ltb x (2 ^ hbits W) ≡ t → (cond t (pos x) (pos x -ℤ pos (2 ^ bits W)) ≡ to_z W x) × (bits_of (2 ^ bits W) (to_z W x) ≡ x)
  by-test x h true e = rw e (refl, mod-eq_of_lt h)
  by-test x h false e =
      let l : 2 ^ bits W - suc x < 2 ^ bits W = omega arith in
      rw (e, minus_below x (2 ^ bits W) h) (refl, rw (mod-eq_of_lt l) (omega arith))

  pub read : (x : ℕ) → x < 2 ^ bits W → 2 ^ bits W / 2 ≡ 2 ^ hbits W → signed (2 ^ bits W) x ≡ to_z W x
  unfolding signed
  read x h e = rw e (by-test x h (ltb x (2 ^ hbits W)) refl).0

  pub bits-are : {a : ℕ} {A : ℤ} {k : ℕ} → Code W a A k → bits_of (2 ^ bits W) A ≡ a
  bits-are {a} e = rw (← e.is) (by-test a e.fits (ltb a (2 ^ hbits W)) refl).1

  pub signed-is : {a : ℕ} {A : ℤ} {k : ℕ} → Code W a A k → 2 ^ bits W / 2 ≡ 2 ^ hbits W → signed (2 ^ bits W) a ≡ A
  signed-is {a} e f = read a e.fits f ∙ e.is
