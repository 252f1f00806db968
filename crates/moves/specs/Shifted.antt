-- The whole register as a number. Document 01, "Lane rules": vsl and vsr. Assumes nothing.
use Rattle.std.specs.Prelude.{ℕ, zero, suc, ◌+◌, ◌-◌, ◌*◌, ◌/◌, ◌%◌, ◌^◌, List, get_or}
use Rattle.moves.specs.Chosen.{places}

-- the number of the first n bytes of v
unfoldable pub number : ℕ → List ℕ → ℕ
number zero v = 0
number (suc n) v = number n v * 256 + get_or v n 0

-- the sixteen bytes of x: what is beyond them is lost
abbrev pub bytes_of : ℕ → List ℕ
bytes_of x = places 16 0 (λ i. x / 256 ^ (15 - i) % 256)

-- the last three bits of b
abbrev pub bits : List ℕ → ℕ
bits b = get_or b 15 0 % 8

abbrev pub shifted_left : List ℕ → List ℕ → List ℕ
shifted_left a b = bytes_of (number 16 a * 2 ^ bits b)

abbrev pub shifted_right : List ℕ → List ℕ → List ℕ
shifted_right a b = bytes_of (number 16 a / 2 ^ bits b)
