-- A signed sum that is saturated, by the wrapped sum, two comparisons and a choice: at every width. Assumes nothing.
use Rattle.std.proofs.Common.{◌≡◌, ℕ, zero, suc, ◌+◌, ◌-◌, ◌/◌, ◌%◌, ◌<◌, ◌≤◌, Bool, true, false, cond, ltb, leb, ◌||◌, ℤ, pos, negsuc, ◌-ℤ◌, ◌+ℤ◌, neg_ℤ, sym, refl, ap, ◌∙◌, arith, mod-lt, mod-eq_of_lt, lt-ltb, le-ltb, leb-true, leb-false, not-suc-le-zero, mul-one}
use native.Mathlib.Nat.{mod-eq-sub-mod, add-mod-mod, mod-add-mod, add-mod_right}
use Rattle.lanes.specs.declared.Lane.{Lane}
use Rattle.lanes.specs.Integer.{signed, sat_s}
use Rattle.lanes.proofs.Signed.{minus_above, minus_below, by_bias}
use Rattle.lanes.proofs.Biased.{taken, sum}
use Rattle.vector.proofs.Masks.{xor}

-- where z is above the range or below, by the biased sum
abbrev pub biased : ℕ → ℕ → ℕ → Lane
biased m h z = record { value = cond (ltb z h) h (cond (ltb (m + h - 1) z) (m + h - 1) z) % m; clipped = ltb z h || ltb (m + h - 1) z }

-- s, or an end where o: the low one where u
abbrev pub chosen : Bool → Bool → ℕ → ℕ → Lane
chosen o u h s = record { value = cond o (cond u h (h - 1)) s; clipped = o }

pub biased-in : (m h z : ℕ) → h ≤ z → z ≤ m + h - 1 → biased m h z ≡ record { value = z % m; clipped = false }
biased-in m h z a b = rw (le-ltb z h a, le-ltb (m + h - 1) z b) refl

pub biased-low : (m h z : ℕ) → h < m → z < h → biased m h z ≡ record { value = h; clipped = true }
biased-low m h z k a = rw (lt-ltb z h a, mod-eq_of_lt k) refl

pub biased-high : (m h z : ℕ) → 0 < h → h < m → m + h - 1 < z → biased m h z ≡ record { value = h - 1; clipped = true }
biased-high m h z some k a =
    let e : m ≤ m + h - 1 = omega arith in
    let l : m + h - 1 - m < m = omega arith in
    let n : m + h - 1 - m ≡ h - 1 = omega arith in
    rw (le-ltb z h (omega arith), lt-ltb (m + h - 1) z a, mod-eq-sub-mod e, mod-eq_of_lt l, n) refl

-- the second operand's sign u: a y of h or more is negative, and one of at most h, as itself, is not
abbrev pub Sign : ℕ → ℕ → Bool → Type 0
Sign h y true = h ≤ y
Sign h y false = y ≤ h

module _ (m h x y s : ℕ) (even : m ≡ h + h) (some : 0 < h) (hx : x < m) (hy : y < m) where
  pub core : (u c : Bool) → Sign h y u → leb m (x + y) ≡ c → s ≡ (x + cond u (y - h) (y + h)) % m
      → chosen (xor (ltb (cond c (x + y - m) (x + y)) x) u) u h s ≡ biased m h (x + cond u (y - h) (y + h))
  core true true e f g =
      let a : h ≤ y = e in
      let b = leb-true m (x + y) f in
      rw (lt-ltb (x + y - m) x (omega arith), biased-in m h (x + (y - h)) (omega arith) (omega arith), g) refl
  core true false e f g =
      let a : h ≤ y = e in
      let b = leb-false m (x + y) f in
      rw (le-ltb (x + y) x (omega arith), biased-low m h (x + (y - h)) (omega arith) (omega arith)) refl
  core false true e f g =
      let a : y ≤ h = e in
      let b = leb-true m (x + y) f in
      rw (lt-ltb (x + y - m) x (omega arith), biased-high m h (x + (y + h)) some (omega arith) (omega arith)) refl
  core false false e f g =
      let a : y ≤ h = e in
      let b = leb-false m (x + y) f in
      rw (le-ltb (x + y) x (omega arith), biased-in m h (x + (y + h)) (omega arith) (omega arith), g) refl

pub sign : (h y : ℕ) (u : Bool) → leb h y ≡ u → Sign h y u
sign h y true e = leb-true h y e
sign h y false e = let l = leb-false h y e in omega arith

-- what a wrapped sum is
pub wraps : (m a b : ℕ) → a < m → b < m → (c : Bool) → leb m (a + b) ≡ c → (a + b) % m ≡ cond c (a + b - m) (a + b)
wraps m a b h k true e =
    let l = leb-true m (a + b) e in
    let n : a + b - m < m = omega arith in
    mod-eq-sub-mod l ∙ mod-eq_of_lt n
wraps m a b h k false e = mod-eq_of_lt (leb-false m (a + b) e)

-- the bias of a lane
pub bias : (m h a : ℕ) → m ≡ h + h → 0 < h → a < m → (u : Bool) → leb h a ≡ u → (a + h) % m ≡ cond u (a - h) (a + h)
bias m h a even some k true e =
    let l = leb-true h a e in
    let n : m ≤ a + h = omega arith in
    let p : a + h - m < m = omega arith in
    mod-eq-sub-mod n ∙ mod-eq_of_lt p ∙ omega arith
bias m h a even some k false e =
    let l = leb-false h a e in
    mod-eq_of_lt (omega arith)

module _ (m h x y : ℕ) (half : h ≡ m / 2) (even : m ≡ h + h) (some : 0 < h) (hx : x < m) (hy : y < m) where
  pos-m : 0 < m
  pos-m = omega arith

  shifted : ((x + y) % m + h) % m ≡ ((x + h) % m + y) % m
  shifted = mod-add-mod (x + y) m h ∙ ap (λ (n : ℕ). n % m) (omega arith) ∙ sym (mod-add-mod (x + h) m y)

  twice : (x + y) % m ≡ ((x + h) % m + (y + h) % m) % m
  twice = sym (add-mod_right (x + y) m) ∙ ap (λ (n : ℕ). n % m) (omega arith) ∙ sym (mod-add-mod (x + h) m (y + h)) ∙ sym (add-mod-mod ((x + h) % m) (y + h) m)

  by-code : chosen (xor (ltb (((x + y) % m + h) % m) ((x + h) % m)) (leb h y)) (leb h y) h ((x + y) % m) ≡ biased m h ((x + h) % m + (y + h) % m)
  by-code =
      let k : (x + h) % m < m = mod-lt (x + h) pos-m in
      let u = bias m h y even some hy (leb h y) refl in
      rw (shifted, wraps m ((x + h) % m) y k hy (leb m ((x + h) % m + y)) refl, u)
      (core m h ((x + h) % m) y ((x + y) % m) even some k hy (leb h y) (leb m ((x + h) % m + y)) (sign h y (leb h y) refl) refl (rw (← u) twice))

  pub low_end : pos h -ℤ pos m ≡ neg_ℤ (pos h)
  low_end = at h some even
    where
      at : (g : ℕ) → 0 < g → m ≡ g + g → pos g -ℤ pos m ≡ neg_ℤ (pos g)
      at zero l e = absurd (not-suc-le-zero l)
      at (suc g) l e = minus_below (suc g) m (omega arith) ∙ ap negsuc (omega arith)

  pub high_end : pos (m + h - 1) -ℤ pos m ≡ pos (h - 1)
  high_end = minus_above (m + h - 1) m (omega arith) ∙ ap pos (omega arith)

  exact : pos ((x + h) % m + (y + h) % m) -ℤ pos m ≡ signed m x +ℤ signed m y
  exact =
      let e : m ≡ m / 2 + m / 2 = rw (← half) even in
      let p : pos ((x + h) % m) -ℤ pos h ≡ signed m x = rw half (by_bias m x hx e) in
      let q : pos ((y + h) % m) -ℤ pos h ≡ signed m y = rw half (by_bias m y hy e) in
      (λ i. pos ((x + h) % m + (y + h) % m) -ℤ pos (even i)) ∙ sym (sum ((x + h) % m) ((y + h) % m) h) ∙ (λ i. p i +ℤ q i)

  pub add-signed : record {
    value = cond (xor (ltb (((x + y) % m + h) % m) ((x + h) % m)) (leb h y)) (cond (leb h y) h (h - 1)) ((x + y) % m);
    clipped = xor (ltb (((x + y) % m + h) % m) ((x + h) % m)) (leb h y);
  } ≡ sat_s m (signed m x +ℤ signed m y)
  add-signed =
      rw (by-code, ← half, ← low_end, ← high_end) (taken m m 1 pos-m (sym (mul-one m)) h (m + h - 1) ((x + h) % m + (y + h) % m) exact)

  -- the same where y is the bits of a number z whose sign u was told by other means
  pub add-given : (u : Bool) (z : ℤ) (k : ℕ) → Sign h y u → k ≡ cond u (y - h) (y + h) → (x + y) % m ≡ ((x + h) % m + k) % m → pos k -ℤ pos h ≡ z → ◌≡◌ {A = Lane} (record {
    value = cond (xor (ltb (((x + y) % m + h) % m) ((x + h) % m)) u) (cond u h (h - 1)) ((x + y) % m);
    clipped = xor (ltb (((x + y) % m + h) % m) ((x + h) % m)) u;
  }) (sat_s m (signed m x +ℤ z))
  add-given u z k i e f g =
      let l : (x + h) % m < m = mod-lt (x + h) pos-m in
      let d : m ≡ m / 2 + m / 2 = rw (← half) even in
      let p : pos ((x + h) % m) -ℤ pos h ≡ signed m x = rw half (by_bias m x hx d) in
      let n : pos ((x + h) % m + k) -ℤ pos m ≡ signed m x +ℤ z = (λ i. pos ((x + h) % m + k) -ℤ pos (even i)) ∙ sym (sum ((x + h) % m) k h) ∙ (λ i. p i +ℤ g i) in
      let b : chosen (xor (ltb (((x + y) % m + h) % m) ((x + h) % m)) u) u h ((x + y) % m) ≡ biased m h ((x + h) % m + k) =
      rw (shifted, wraps m ((x + h) % m) y l hy (leb m ((x + h) % m + y)) refl, e)
      (core m h ((x + h) % m) y ((x + y) % m) even some l hy u (leb m ((x + h) % m + y)) i refl (rw (← e) f)) in
      rw (b, ← half, ← low_end, ← high_end) (taken m m 1 pos-m (sym (mul-one m)) h (m + h - 1) ((x + h) % m + k) n)
