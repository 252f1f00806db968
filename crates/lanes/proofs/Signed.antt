-- Two's complement without a test: to read, add half of m, take the bits, subtract half of m; to write, add a multiple of m first.
-- Assumes nothing.
use Rattle.std.proofs.Common.{◌≡◌, ℕ, zero, suc, ◌+◌, ◌-◌, ◌*◌, ◌/◌, ◌%◌, ◌<◌, ◌≤◌, Bool, true, false, cond, ltb, ℤ, pos, negsuc, ◌+ℤ◌, ◌-ℤ◌, sym, refl, ap, ◌∙◌, not-suc-le-zero, mod-lt, mod-eq_of_lt, mul_comm, div-lt_iff_lt-mul, mul-suc, mul-add, arith, ltb-false, ltb-true, le-ltb, lt-ltb}
use native.Mathlib.Nat.{mod-eq-sub-mod, add-mul-mod_self_left, div-add-mod}
use lib.Signed.{mag}
use Rattle.lanes.specs.Integer.{signed, bits_of}

pub minus_below : (a b : ℕ) → a < b → pos a -ℤ pos b ≡ negsuc (b - suc a)
minus_below a zero h = absurd (not-suc-le-zero h)
minus_below a (suc b) h = rw (lt-ltb a (suc b) h)

pub minus_above : (a b : ℕ) → b ≤ a → pos a -ℤ pos b ≡ pos (a - b)
minus_above a zero h = ap pos (omega arith)
minus_above a (suc b) h = rw (le-ltb a (suc b) h)

module _ (m x : ℕ) (h : x < m) (even : m ≡ m / 2 + m / 2) where
  by_test : (t : Bool) → ltb x (m / 2) ≡ t → pos ((x + m / 2) % m) -ℤ pos (m / 2) ≡ cond t (pos x) (pos x -ℤ pos m)
  by_test true e =
      let l = ltb-true x (m / 2) e in
      let s : x + m / 2 < m = omega arith in
      rw (mod-eq_of_lt s) (minus_above (x + m / 2) (m / 2) (omega arith) ∙ ap pos (omega arith))
  by_test false e =
      let l = ltb-false x (m / 2) e in
      let s : m ≤ x + m / 2 = omega arith in
      let t : x + m / 2 - m < m = omega arith in
      let u : x + m / 2 - m ≡ x - m / 2 = omega arith in
      rw (mod-eq-sub-mod s, mod-eq_of_lt t, u) (minus_below (x - m / 2) (m / 2) (omega arith) ∙ ap negsuc (omega arith) ∙ sym (minus_below x m h))

  pub by_bias : pos ((x + m / 2) % m) -ℤ pos (m / 2) ≡ signed m x
  unfolding signed
  by_bias = by_test (ltb x (m / 2)) refl

-- z with n added to it, where that is not negative
abbrev pub lifted : ℕ → ℤ → ℕ
lifted k (pos n) = n + k
lifted k (negsuc n) = k - suc n

pub lift : (k : ℕ) (z : ℤ) → mag z < k → z +ℤ pos k ≡ pos (lifted k z)
lift k (pos n) h = refl
lift k (negsuc n) h = rw (le-ltb k (suc n) (omega arith))

pub lifted-lt : (k : ℕ) (z : ℤ) → mag z < k → lifted k z < k + k
lifted-lt k (pos n) h = omega arith
lifted-lt k (negsuc n) h = omega arith

-- its bits are those of z, where a multiple of m was added
module _ (m k q : ℕ) (some : 0 < m) (multiple : k ≡ m * q) where
  pub lifted_bits : (z : ℤ) → mag z < k → lifted k z % m ≡ bits_of m z
  lifted_bits (pos n) h = rw multiple (add-mul-mod_self_left n m q)
  lifted_bits (negsuc n) h =
      let few : n / m < q = (div-lt_iff_lt-mul some).1 (rw (mul_comm q m, ← multiple) h) in
      let d : ℕ = q - suc (n / m) in
      let e : q ≡ suc (n / m) + d = omega arith in
      let f : m * q ≡ m * suc (n / m) + m * d = ap (λ (t : ℕ). m * t) e ∙ mul-add m (suc (n / m)) d in
      let g : m * suc (n / m) ≡ m * (n / m) + m = mul-suc m (n / m) in
      let l : n % m < m = mod-lt n some in
      let t : m - suc (n % m) < m = omega arith in
      let v : k - suc n ≡ (m - suc (n % m)) + m * d = omega (arith, div-add-mod n m) in
      rw (v, add-mul-mod_self_left (m - suc (n % m)) m d, mod-eq_of_lt t)

-- what added to y wraps to x is x - y modulo m
module _ (m : ℕ) {x y r : ℕ} (h : x < m) (k : y < m) (l : r < m) (e : (r + y) % m ≡ x) where
  by_sum : (t : Bool) → ltb (r + y) m ≡ t → r ≡ bits_of m (pos x -ℤ pos y)
  by_sum true f =
      let s : r + y < m = ltb-true (r + y) m f in
      let g : r + y ≡ x = sym (mod-eq_of_lt s) ∙ e in
      let d : x - y < m = omega arith in
      rw (minus_above x y (omega arith), mod-eq_of_lt d) (omega arith)
  by_sum false f =
      let s : m ≤ r + y = ltb-false (r + y) m f in
      let u : r + y - m < m = omega arith in
      let g : r + y - m ≡ x = sym (mod-eq_of_lt u) ∙ sym (mod-eq-sub-mod s) ∙ e in
      let d : y - suc x < m = omega arith in
      rw (minus_below x y (omega arith), mod-eq_of_lt d) (omega arith)

  pub wrapped : r ≡ bits_of m (pos x -ℤ pos y)
  wrapped = by_sum (ltb (r + y) m) refl
