-- A lane as an exact integer: m is 2 to the lane's width. Document 01, "Lane rules". Assumes nothing.
use Rattle.std.specs.Prelude.{ℕ, suc, ◌-◌, ◌/◌, ◌%◌, Bool, false, cond, ◌||◌, ℤ, pos, negsuc, ◌-ℤ◌, neg_ℤ, int_lt, nat_lt}
use Rattle.lanes.specs.declared.Lane.{Lane}

-- the bits x read in two's complement
unfoldable pub signed : ℕ → ℕ → ℤ
signed m x = cond (nat_lt x (m / 2)) (pos x) (pos x -ℤ pos m)

-- the bits of z: z modulo m
abbrev pub bits_of : ℕ → ℤ → ℕ
bits_of m (pos n) = n % m
bits_of m (negsuc n) = m - suc (n % m)

-- z moved to the nearer end of lo .. hi, and whether it had to be
unfoldable pub clamp : ℤ → ℤ → ℤ → ℤ
clamp lo hi z = cond (int_lt z lo) lo (cond (int_lt hi z) hi z)

unfoldable pub outside : ℤ → ℤ → ℤ → Bool
outside lo hi z = int_lt z lo || int_lt hi z

unfoldable pub saturated : ℤ → ℤ → ℕ → ℤ → Lane
saturated lo hi m z = record { value = bits_of m (clamp lo hi z); clipped = outside lo hi z }

-- the three ways in which a lane takes an exact result: reduced, or saturated to the unsigned or the signed range
unfoldable pub modulo : ℕ → ℤ → Lane
modulo m z = record { value = bits_of m z; clipped = false }

abbrev pub sat_u : ℕ → ℤ → Lane
sat_u m z = saturated (pos 0) (pos (m - 1)) m z

abbrev pub sat_s : ℕ → ℤ → Lane
sat_s m z = saturated (neg_ℤ (pos (m / 2))) (pos (m / 2 - 1)) m z

-- a result that fits as it is; and a truth: all ones or all zeros
abbrev pub plain : ℕ → Lane
plain n = record { value = n; clipped = false }

abbrev pub truth : ℕ → Bool → Lane
truth m b = plain (cond b (m - 1) 0)
