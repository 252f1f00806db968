-- Bits of a word by document 01's numbers: from 0 at the left to 31.
-- Assumes nothing.
use Rattle.std.specs.Prelude.{ℕ, ◌+◌, ◌-◌, ◌/◌, ◌%◌, ◌^◌, Bool, true, false}

-- the bits from first to last as a number
abbrev pub bits : ℕ → ℕ → ℕ → ℕ
bits first last w = w / 2 ^ (31 - last) % 2 ^ (last + 1 - first)

abbrev pub pick : {A : Type 0} → Bool → A → A → A
pick true a b = a
pick false a b = b
