-- One vector followed by another, from a byte on. Document 01, "Lane rules": vsldoi, vslo, vsro. Assumes nothing.
use Rattle.std.specs.Prelude.{ℕ, ◌+◌, ◌-◌, ◌/◌, ◌%◌, List, get_or}
use Rattle.moves.specs.Chosen.{places, byte_of}

-- sixteen bytes of a followed by b, from byte n
abbrev pub slid : List ℕ → List ℕ → ℕ → List ℕ
slid a b n = places 16 0 (λ i. byte_of a b (n + i))

abbrev pub zeros : List ℕ
zeros = places 16 0 (λ i. 0)

-- the number of bytes in bits 121-124 of b
abbrev pub octets : List ℕ → ℕ
octets b = get_or b 15 0 / 8 % 16

abbrev pub octets_left : List ℕ → List ℕ → List ℕ
octets_left a b = slid a zeros (octets b)

abbrev pub octets_right : List ℕ → List ℕ → List ℕ
octets_right a b = slid zeros a (16 - octets b)
