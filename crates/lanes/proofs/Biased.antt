-- Signed numbers with a bias of c, which keeps their order and, where c is a multiple of m, their bits modulo m. Assumes nothing.
use Rattle.std.proofs.Common.{◌≡◌, ℕ, suc, ◌+◌, ◌-◌, ◌*◌, ◌%◌, ◌<◌, Bool, true, false, cond, ltb, ◌||◌, ℤ, pos, negsuc, ◌+ℤ◌, ◌-ℤ◌, neg_ℤ, sym, refl, ap, ◌∙◌, arith, ltb-true, ltb-false, lt-ltb, le-ltb}
use native.Mathlib.Nat.{add-mul-mod_self_left}
use lib.IntN.{+ℤ_assoc, +ℤ_comm, neg_ℤ-+ℤ}
use lib.Signed.{lt_z}
use Rattle.lanes.specs.Integer.{bits_of, clamp, outside, saturated}
use Rattle.lanes.proofs.Signed.{minus_above, minus_below, lifted_bits}

order : (c x y : ℕ) (t u v : Bool) → ltb x c ≡ t → ltb y c ≡ u → ltb x y ≡ v → lt_z (pos x -ℤ pos c) (pos y -ℤ pos c) ≡ v
order c x y true true true e f g =
    let h = ltb-true x y g in
    let k = ltb-true y c f in
    rw (minus_below x c (omega arith), minus_below y c k) (lt-ltb (c - suc y) (c - suc x) (omega arith))
order c x y true true false e f g =
    let h = ltb-false x y g in
    let k = ltb-true x c e in
    rw (minus_below x c k, minus_below y c (omega arith)) (le-ltb (c - suc y) (c - suc x) (omega arith))
order c x y true false true e f g = rw (minus_below x c (ltb-true x c e), minus_above y c (ltb-false y c f))
order c x y true false false e f g = absurd (omega (arith, ltb-true x c e, ltb-false y c f, ltb-false x y g))
order c x y false true true e f g = absurd (omega (arith, ltb-false x c e, ltb-true y c f, ltb-true x y g))
order c x y false true false e f g = rw (minus_above x c (ltb-false x c e), minus_below y c (ltb-true y c f))
order c x y false false true e f g =
    let h = ltb-true x y g in
    let k = ltb-false x c e in
    rw (minus_above x c k, minus_above y c (omega arith)) (lt-ltb (x - c) (y - c) (omega arith))
order c x y false false false e f g =
    let h = ltb-false x y g in
    let k = ltb-false y c f in
    rw (minus_above x c (omega arith), minus_above y c k) (le-ltb (x - c) (y - c) (omega arith))

pub in_order : (c x y : ℕ) → lt_z (pos x -ℤ pos c) (pos y -ℤ pos c) ≡ ltb x y
in_order c x y = order c x y (ltb x c) (ltb y c) (ltb x y) refl refl refl

module _ (m c q : ℕ) (some : 0 < m) (multiple : c ≡ m * q) where
  by-test : (y : ℕ) (t : Bool) → ltb y c ≡ t → bits_of m (pos y -ℤ pos c) ≡ y % m
  by-test y true e =
      let l = ltb-true y c e in
      let z : c - suc (c - suc y) ≡ y = omega arith in
      rw (minus_below y c l) (sym (lifted_bits m c q some multiple (negsuc (c - suc y)) (omega arith)) ∙ ap (λ (n : ℕ). n % m) z)
  by-test y false e =
      let l = ltb-false y c e in
      let z : y ≡ y - c + m * q = rw (← multiple) (omega arith) in
      rw (minus_above y c l) (sym (add-mul-mod_self_left (y - c) m q) ∙ ap (λ (n : ℕ). n % m) (sym z))

  pub bits : (y : ℕ) → bits_of m (pos y -ℤ pos c) ≡ y % m
  bits y = by-test y (ltb y c) refl

  through : (lo hi y : ℕ) (t u : Bool) → bits_of m (cond t (pos lo -ℤ pos c) (cond u (pos hi -ℤ pos c) (pos y -ℤ pos c))) ≡ cond t lo (cond u hi y) % m
  through lo hi y true u = bits lo
  through lo hi y false true = bits hi
  through lo hi y false false = bits y

  -- so saturation may be done with the bias
  pub taken : (lo hi y : ℕ) {z : ℤ} → pos y -ℤ pos c ≡ z → record { value = cond (ltb y lo) lo (cond (ltb hi y) hi y) % m; clipped = ltb y lo || ltb hi y } ≡ saturated (pos lo -ℤ pos c) (pos hi -ℤ pos c) m z
  unfolding saturated clamp outside
  taken lo hi y e = rw (← e, in_order c y lo, in_order c hi y, through lo hi y (ltb y lo) (ltb hi y))

-- the sum of two
pub sum : (a b h : ℕ) → (pos a -ℤ pos h) +ℤ (pos b -ℤ pos h) ≡ pos (a + b) -ℤ pos (h + h)
sum a b h =
    let n = neg_ℤ (pos h) in
    let e : n +ℤ (pos b +ℤ n) ≡ pos b +ℤ (n +ℤ n) = sym (+ℤ_assoc n (pos b) n) ∙ ap (λ (z : ℤ). z +ℤ n) (+ℤ_comm n (pos b)) ∙ +ℤ_assoc (pos b) n n in
    +ℤ_assoc (pos a) n (pos b +ℤ n) ∙ ap (λ (z : ℤ). pos a +ℤ z) e ∙ sym (+ℤ_assoc (pos a) (pos b) (n +ℤ n)) ∙ ap (λ (z : ℤ). pos (a + b) +ℤ z) (sym (neg_ℤ-+ℤ (pos h) (pos h)))
