-- Document 01, "Addresses".
-- Assumes nothing.
use Rattle.std.specs.Prelude.{ℕ, ◌+◌, ◌-◌, ◌*◌, ◌/◌, ◌%◌, ◌^◌, Bool, false, List, ◌==◌, nat_le, nat_lt, slice_index, Option, Some, None}
use Rattle.encodings.specs.Bits.{pick}

-- rA, or the number 0 where the field is 0
unfoldable pub or_zero : List ℕ → ℕ → ℕ
or_zero g a = pick (a == 0) 0 (slice_index g a)

-- that plus rB, wrapping at 2^32
unfoldable pub address_of : List ℕ → ℕ → ℕ → ℕ
address_of g a b = (or_zero g a + slice_index g b) % 2 ^ 32

-- an immediate of sixteen bits, sign-extended to 32
unfoldable pub extended : ℕ → ℕ
extended n = pick (nat_lt n (2 ^ 15)) n (n + (2 ^ 32 - 2 ^ 16))

-- addi, by the same rule
unfoldable pub sum_of : List ℕ → ℕ → ℕ → ℕ
sum_of g a n = (or_zero g a + extended n) % 2 ^ 32

-- the address of an item of n bytes: the low bits are cleared
abbrev pub aligned : ℕ → ℕ → ℕ
aligned n x = x / n * n

-- the item at address e, if it is in a memory of len bytes at base: where it starts, counted from the memory's first byte
unfoldable pub item_of : ℕ → ℕ → ℕ → Option ℕ
item_of e base len = pick (nat_le base e) (pick (nat_lt e (base + len)) (Some (e - base)) None) None

-- the memory is well placed
unfoldable pub well_placed : ℕ → ℕ → Bool
well_placed base len =
    pick (base % 16 == 0) (pick (len % 16 == 0) (pick (nat_le len 65536) (nat_le (base + len) (2 ^ 32)) false) false) false
