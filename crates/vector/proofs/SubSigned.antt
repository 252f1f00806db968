-- A signed difference that is saturated, by the wrapped difference, two comparisons and a choice: at every width. Assumes nothing.
use Rattle.std.proofs.Common.{◌≡◌, ℕ, ◌+◌, ◌-◌, ◌/◌, ◌%◌, ◌<◌, Bool, true, false, cond, ltb, leb, pos, ◌-ℤ◌, sym, refl, ap, ◌∙◌, arith, mod-lt, mod-eq_of_lt, lt-ltb, le-ltb, leb-true, leb-false, mul-one}
use Rattle.std.proofs.lemmas.Int.{ints}
use native.Mathlib.Nat.{mod-eq-sub-mod, mod-add-mod, add-mod_right}
use Rattle.lanes.specs.declared.Lane.{Lane}
use Rattle.lanes.specs.Integer.{signed, sat_s}
use Rattle.lanes.proofs.Biased.{taken}
use Rattle.lanes.proofs.Signed.{by_bias}
use Rattle.vector.proofs.AddSigned.{biased, biased-in, biased-low, biased-high, bias, low_end, high_end}
use Rattle.vector.proofs.Masks.{xor}

-- d, or an end where o: the high one where u
abbrev chosen : Bool → Bool → ℕ → ℕ → Lane
chosen o u h d = record { value = cond o (cond u (h - 1) h) d; clipped = o }

module _ (m h x y d : ℕ) (even : m ≡ h + h) (some : 0 < h) (hx : x < m) (hy : y < m) where
  core : (u c : Bool) → leb h y ≡ u → leb m (x + (m - y)) ≡ c → d ≡ (x + (m - cond u (y - h) (y + h))) % m
      → chosen (xor (ltb x (cond c (x + (m - y) - m) (x + (m - y)))) u) u h d ≡ biased m h (x + (m - cond u (y - h) (y + h)))
  core true true e f g =
      let a = leb-true h y e in
      let b = leb-true m (x + (m - y)) f in
      rw (le-ltb x (x + (m - y) - m) (omega arith), biased-high m h (x + (m - (y - h))) some (omega arith) (omega arith)) refl
  core true false e f g =
      let a = leb-true h y e in
      let b = leb-false m (x + (m - y)) f in
      rw (lt-ltb x (x + (m - y)) (omega arith), biased-in m h (x + (m - (y - h))) (omega arith) (omega arith), g) refl
  core false true e f g =
      let a = leb-false h y e in
      let b = leb-true m (x + (m - y)) f in
      rw (le-ltb x (x + (m - y) - m) (omega arith), biased-in m h (x + (m - (y + h))) (omega arith) (omega arith), g) refl
  core false false e f g =
      let a = leb-false h y e in
      let b = leb-false m (x + (m - y)) f in
      rw (lt-ltb x (x + (m - y)) (omega arith), biased-low m h (x + (m - (y + h))) (omega arith) (omega arith)) refl

module _ (m h x y : ℕ) (half : h ≡ m / 2) (even : m ≡ h + h) (some : 0 < h) (hx : x < m) (hy : y < m) where
  pos-m : 0 < m
  pos-m = omega arith

  shifted : ((x + (m - y)) % m + h) % m ≡ ((x + h) % m + (m - y)) % m
  shifted = mod-add-mod (x + (m - y)) m h ∙ ap (λ (n : ℕ). n % m) (omega arith) ∙ sym (mod-add-mod (x + h) m (m - y))

  -- the difference of the biased forms
  both : (u : Bool) → leb h y ≡ u → (x + (m - y)) % m ≡ ((x + h) % m + (m - cond u (y - h) (y + h))) % m
  both true e =
      let l = leb-true h y e in
      let k : x + h + (m - (y - h)) ≡ x + (m - y) + m = omega arith in
      sym (mod-add-mod (x + h) m (m - (y - h)) ∙ ap (λ (n : ℕ). n % m) k ∙ add-mod_right (x + (m - y)) m)
  both false e =
      let l = leb-false h y e in
      let k : x + h + (m - (y + h)) ≡ x + (m - y) = omega arith in
      sym (mod-add-mod (x + h) m (m - (y + h)) ∙ ap (λ (n : ℕ). n % m) k)

  wrap : (a : ℕ) → a < m → (c : Bool) → leb m (a + (m - y)) ≡ c → (a + (m - y)) % m ≡ cond c (a + (m - y) - m) (a + (m - y))
  wrap a k true e =
      let l = leb-true m (a + (m - y)) e in
      let n : a + (m - y) - m < m = omega arith in
      mod-eq-sub-mod l ∙ mod-eq_of_lt n
  wrap a k false e = mod-eq_of_lt (leb-false m (a + (m - y)) e)

  by-code : chosen (xor (ltb ((x + h) % m) (((x + (m - y)) % m + h) % m)) (leb h y)) (leb h y) h ((x + (m - y)) % m) ≡ biased m h ((x + h) % m + (m - (y + h) % m))
  by-code =
      let k : (x + h) % m < m = mod-lt (x + h) pos-m in
      let u = bias m h y even some hy (leb h y) refl in
      rw (shifted, wrap ((x + h) % m) k (leb m ((x + h) % m + (m - y))) refl, u)
      (core m h ((x + h) % m) y ((x + (m - y)) % m) even some k hy (leb h y) (leb m ((x + h) % m + (m - y))) refl refl (both (leb h y) refl))

  exact : pos ((x + h) % m + (m - (y + h) % m)) -ℤ pos m ≡ signed m x -ℤ signed m y
  exact =
      let e : m ≡ m / 2 + m / 2 = rw (← half) even in
      let p : pos ((x + h) % m) -ℤ pos h ≡ signed m x = rw half (by_bias m x hx e) in
      let q : pos ((y + h) % m) -ℤ pos h ≡ signed m y = rw half (by_bias m y hy e) in
      let l : (y + h) % m < m = mod-lt (y + h) pos-m in
      at ((x + h) % m) ((y + h) % m) l ∙ (λ i. p i -ℤ q i)
    where
      at : (a b : ℕ) → b < m → pos (a + (m - b)) -ℤ pos m ≡ (pos a -ℤ pos h) -ℤ (pos b -ℤ pos h)
      at a b l = omega (arith, ints)

  pub sub-signed : record {
    value = cond (xor (ltb ((x + h) % m) (((x + (m - y)) % m + h) % m)) (leb h y)) (cond (leb h y) (h - 1) h) ((x + (m - y)) % m);
    clipped = xor (ltb ((x + h) % m) (((x + (m - y)) % m + h) % m)) (leb h y);
  } ≡ sat_s m (signed m x -ℤ signed m y)
  sub-signed =
      rw (by-code, ← half, ← low_end m h x y half even some hx hy, ← high_end m h x y half even some hx hy)
      (taken m m 1 pos-m (sym (mul-one m)) h (m + h - 1) ((x + h) % m + (m - (y + h) % m)) exact)
