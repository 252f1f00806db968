-- Sums and differences of lanes, with their carries and ends: what the code computes at a lane is the operation, at every width. Assumes nothing.
use Rattle.std.proofs.Common.{◌≡◌, ℕ, ◌+◌, ◌-◌, ◌%◌, ◌^◌, ◌<◌, Bool, true, false, not, cond, eqb, ltb, leb, bit_xor, pos, ◌+ℤ◌, ◌-ℤ◌, refl, ap, ◌∙◌, arith, pow_pos, ◌+ℤ◌, mod-lt, mod-eq_of_lt, lt-ltb, le-ltb, ltb-true, ltb-false, leb-true, leb-false}
use native.Mathlib.Nat.{mod-eq-sub-mod, mod-add-mod, add-mod_right, mod_self}
use Rattle.lanes.specs.declared.Lane.{Lane}
use Rattle.lanes.specs.declared.Op.TheVariants.{AddModulo, AddCarry, AddSatU, AddSatS, SubModulo, SubCarry, SubSatU, SubSatS}
use Rattle.lanes.specs.declared.Size.{Size}
use Rattle.lanes.specs.declared.Size.TheVariants.{Word}
use Rattle.lanes.specs.Integer.{bits_of, clamp, modulo, outside, sat_s, sat_u, saturated, signed}
use Rattle.lanes.specs.Operations.{lane_op, width_of}
use Rattle.lanes.proofs.Bridge.{modulus, lane, value, Law}
use Rattle.lanes.proofs.Signed.{wrapped, minus_above, minus_below}
use Rattle.vector.proofs.AddSigned.{add-signed}
use Rattle.vector.proofs.AddUnsigned.{add-unsigned}
use Rattle.vector.proofs.SubSigned.{sub-signed}
use Rattle.vector.proofs.Masks.{top, mask, on, on_mask, on_xor, half_of}

pub add_modulo : (s : Size) → Law s AddModulo (value (λ x y z. (x + y) % modulus s))
unfolding lane_op modulo
add_modulo s = record { agrees = λ x y z h k l. refl }

-- a wrapped sum has carried where it is below a part
carried : (m x y : ℕ) → x < m → y < m → (t : Bool) → ltb (x + y) m ≡ t → ◌≡◌ {A = ℕ} (cond (ltb ((x + y) % m) x) 1 0) (cond t 0 1)
carried m x y h k true e =
    let l = ltb-true (x + y) m e in
    rw (mod-eq_of_lt l, le-ltb (x + y) x (omega arith)) refl
carried m x y h k false e =
    let l = ltb-false (x + y) m e in
    let n : x + y - m < m = omega arith in
    rw (mod-eq-sub-mod l, mod-eq_of_lt n, lt-ltb (x + y - m) x (omega arith)) refl

pub add_carry : Law Word AddCarry (value (λ x y z. cond (on Word (mask Word (ltb ((x + y) % modulus Word) x))) 1 0))
unfolding lane_op
add_carry = record { agrees = λ x y z h k l. rw (on_mask Word (ltb ((x + y) % modulus Word) x), carried (modulus Word) x y h k (ltb (x + y) (modulus Word)) refl) refl }

abbrev pub summed_u : Size → ℕ → ℕ → ℕ
summed_u s x y = (x + cond (on s (mask s (ltb y (modulus s - 1 - x)))) y (modulus s - 1 - x)) % modulus s

pub add_sat_u : (s : Size) → Law s AddSatU (lane (λ x y z. summed_u s x y) (λ x y z. on s (mask s (not (eqb (summed_u s x y) ((x + y) % modulus s))))))
unfolding lane_op
add_sat_u s = record {
  agrees =
      λ x y z h k l.
      rw (on_mask s (ltb y (modulus s - 1 - x)), on_mask s (not (eqb ((x + cond (ltb y (modulus s - 1 - x)) y (modulus s - 1 - x)) % modulus s) ((x + y) % modulus s))))
      (add-unsigned (modulus s) x y (pow_pos (width_of s)) h k);
}

-- a signed sum: whether it is out of range, as a lane of a mask
abbrev pub out_sum : Size → ℕ → ℕ → ℕ
out_sum s x y = bit_xor (mask s (ltb (((x + y) % modulus s + top s) % modulus s) ((x + top s) % modulus s))) (mask s (leb (top s) y))

abbrev pub summed_s : Size → ℕ → ℕ → ℕ
summed_s s x y = cond (on s (out_sum s x y)) (cond (on s (mask s (leb (top s) y))) (top s) (top s - 1)) ((x + y) % modulus s)

pub add_sat_s : (s : Size) → Law s AddSatS (lane (λ x y z. summed_s s x y) (λ x y z. on s (out_sum s x y)))
unfolding lane_op
add_sat_s s = record {
  agrees =
      λ x y z h k l.
      let t = half_of s in
      rw (on_xor s (ltb (((x + y) % modulus s + top s) % modulus s) ((x + top s) % modulus s)) (leb (top s) y), on_mask s (leb (top s) y))
      (add-signed (modulus s) (top s) x y t.is t.even t.some h k);
}

-- the sums of words, as `sum_of_words` gives them
abbrev pub exact_sum : ℕ → ℕ → ℕ → Lane
exact_sum x y z = sat_s (2 ^ 32) (signed (2 ^ 32) x +ℤ signed (2 ^ 32) y)

pub add_words : Law Word AddSatS exact_sum
unfolding lane_op
add_words = record { agrees = λ x y z h k l. refl }

-- a wrapped difference
module _ (m x y : ℕ) (some : 0 < m) (h : x < m) (k : y < m) where
  pub difference : (x + (m - y)) % m ≡ bits_of m (pos x -ℤ pos y)
  difference =
      wrapped m h k (mod-lt (x + (m - y)) some)
      (mod-add-mod (x + (m - y)) m y ∙ ap (λ (n : ℕ). n % m) (omega arith) ∙ add-mod_right x m ∙ mod-eq_of_lt h)

pub sub_modulo : (s : Size) → Law s SubModulo (value (λ x y z. (x + (modulus s - y)) % modulus s))
unfolding lane_op modulo
sub_modulo s = record { agrees = λ x y z h k l. rw (difference (modulus s) x y (pow_pos (width_of s)) h k) refl }

whole : (x y : ℕ) (t : Bool) → leb y x ≡ t → ◌≡◌ {A = ℕ} (cond t 1 0) (cond (ltb x y) 0 1)
whole x y true e = rw (le-ltb x y (leb-true y x e)) refl
whole x y false e = rw (lt-ltb x y (leb-false y x e)) refl

pub sub_carry : Law Word SubCarry (value (λ x y z. cond (on Word (mask Word (leb y x))) 1 0))
unfolding lane_op
sub_carry = record { agrees = λ x y z h k l. rw (on_mask Word (leb y x), whole x y (leb y x) refl) refl }

-- a difference without the part of y that x does not have
abbrev pub left_u : Size → ℕ → ℕ → ℕ
left_u s x y = (cond (on s (mask s (ltb x y))) y x + (modulus s - y)) % modulus s

sub-unsigned : (m x y : ℕ) → 0 < m → x < m → y < m → (t : Bool) → ltb x y ≡ t → record { value = (cond t y x + (m - y)) % m; clipped = t } ≡ sat_u m (pos x -ℤ pos y)
unfolding saturated clamp outside
sub-unsigned m x y some h k true e =
    let l = ltb-true x y e in
    let n : y + (m - y) ≡ m = omega arith in
    rw (minus_below x y l, n, mod_self m, mod-eq_of_lt some) refl
sub-unsigned m x y some h k false e =
    let l = ltb-false x y e in
    let n : x + (m - y) ≡ x - y + m = omega arith in
    let o : x - y < m = omega arith in
    rw (minus_above x y l, n, add-mod_right (x - y) m, mod-eq_of_lt o, le-ltb (x - y) 0 (omega arith), le-ltb (m - 1) (x - y) (omega arith), mod-eq_of_lt o) refl

pub sub_sat_u : (s : Size) → Law s SubSatU (lane (λ x y z. left_u s x y) (λ x y z. on s (mask s (ltb x y))))
unfolding lane_op
sub_sat_u s = record { agrees = λ x y z h k l. rw (on_mask s (ltb x y)) (sub-unsigned (modulus s) x y (pow_pos (width_of s)) h k (ltb x y) refl) }

abbrev pub out_left : Size → ℕ → ℕ → ℕ
out_left s x y = bit_xor (mask s (ltb ((x + top s) % modulus s) (((x + (modulus s - y)) % modulus s + top s) % modulus s))) (mask s (leb (top s) y))

abbrev pub left_s : Size → ℕ → ℕ → ℕ
left_s s x y = cond (on s (out_left s x y)) (cond (on s (mask s (leb (top s) y))) (top s - 1) (top s)) ((x + (modulus s - y)) % modulus s)

pub sub_sat_s : (s : Size) → Law s SubSatS (lane (λ x y z. left_s s x y) (λ x y z. on s (out_left s x y)))
unfolding lane_op
sub_sat_s s = record {
  agrees =
      λ x y z h k l.
      let t = half_of s in
      rw (on_xor s (ltb ((x + top s) % modulus s) (((x + (modulus s - y)) % modulus s + top s) % modulus s)) (leb (top s) y), on_mask s (leb (top s) y))
      (sub-signed (modulus s) (top s) x y t.is t.even t.some h k);
}
