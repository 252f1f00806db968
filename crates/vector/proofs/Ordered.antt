-- Comparisons of lanes, and what is chosen by them: what the code computes at a lane is the operation, at every width. Assumes nothing.
use Rattle.std.proofs.Common.{◌≡◌, ℕ, ◌+◌, ◌-◌, ◌/◌, ◌%◌, ◌<◌, Bool, cond, eqb, ltb, refl}
use lib.Signed.{lt_z}
use Rattle.lanes.specs.declared.Op.TheVariants.{MaxU, MaxS, MinU, MinS, Equal, GreaterU, GreaterS}
use Rattle.lanes.specs.declared.Size.{Size}
use Rattle.lanes.specs.Integer.{signed}
use Rattle.lanes.specs.Operations.{lane_op}
use Rattle.lanes.proofs.Biased.{in_order}
use Rattle.lanes.proofs.Bridge.{modulus, value, Law}
use Rattle.lanes.proofs.Signed.{by_bias}
use Rattle.vector.proofs.Masks.{top, mask, on, on_mask, half_of}

-- with half of the range added, signed numbers compare as unsigned ones
abbrev pub below_s : Size → ℕ → ℕ → Bool
below_s s x y = ltb ((x + top s) % modulus s) ((y + top s) % modulus s)

pub below_s-is : (s : Size) (x y : ℕ) → x < modulus s → y < modulus s → lt_z (signed (modulus s) x) (signed (modulus s) y) ≡ below_s s x y
below_s-is s x y h k =
    let t = half_of s in
    let e : modulus s ≡ modulus s / 2 + modulus s / 2 = rw (← t.is) t.even in
    rw (t.is, ← by_bias (modulus s) x h e, ← by_bias (modulus s) y k e) (in_order (modulus s / 2) ((x + modulus s / 2) % modulus s) ((y + modulus s / 2) % modulus s))

pub max_u : (s : Size) → Law s MaxU (value (λ x y z. cond (on s (mask s (ltb x y))) y x))
unfolding lane_op
max_u s = record { agrees = λ x y z h k l. rw (on_mask s (ltb x y)) refl }

pub min_u : (s : Size) → Law s MinU (value (λ x y z. cond (on s (mask s (ltb x y))) x y))
unfolding lane_op
min_u s = record { agrees = λ x y z h k l. rw (on_mask s (ltb x y)) refl }

pub max_s : (s : Size) → Law s MaxS (value (λ x y z. cond (on s (mask s (below_s s x y))) y x))
unfolding lane_op
max_s s = record { agrees = λ x y z h k l. rw (on_mask s (below_s s x y), below_s-is s x y h k) refl }

pub min_s : (s : Size) → Law s MinS (value (λ x y z. cond (on s (mask s (below_s s x y))) x y))
unfolding lane_op
min_s s = record { agrees = λ x y z h k l. rw (on_mask s (below_s s x y), below_s-is s x y h k) refl }

pub equal : (s : Size) → Law s Equal (value (λ x y z. cond (on s (mask s (eqb x y))) (modulus s - 1) 0))
unfolding lane_op
equal s = record { agrees = λ x y z h k l. rw (on_mask s (eqb x y)) refl }

pub greater_u : (s : Size) → Law s GreaterU (value (λ x y z. cond (on s (mask s (ltb y x))) (modulus s - 1) 0))
unfolding lane_op
greater_u s = record { agrees = λ x y z h k l. rw (on_mask s (ltb y x)) refl }

pub greater_s : (s : Size) → Law s GreaterS (value (λ x y z. cond (on s (mask s (below_s s y x))) (modulus s - 1) 0))
unfolding lane_op
greater_s s = record { agrees = λ x y z h k l. rw (on_mask s (below_s s y x), below_s-is s y x k h) refl }
