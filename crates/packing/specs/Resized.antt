-- Packs and unpacks: lanes that become narrower or wider. Document 01, "Lane rules". Assumes nothing.
use Rattle.std.specs.Prelude.{ℕ, zero, suc, ◌+◌, ◌-◌, ◌*◌, ◌/◌, ◌%◌, ◌^◌, cond, ◌||◌, List, [], ◌∷◌, ltb, ℤ, pos}
use Rattle.lanes.specs.declared.Lane.{Lane}
use Rattle.lanes.specs.declared.Marked.{Marked}
use Rattle.lanes.specs.declared.Size.{Size}
use Rattle.lanes.specs.declared.Size.TheVariants.{Byte, Half, Word}
use Rattle.lanes.specs.Integer.{signed, modulo}
use Rattle.lanes.specs.Operations.{width_of}
use Rattle.lanes.specs.Numbers.{bytes_in, number_at}

-- the bytes of a lane x, before the bytes r
abbrev pub bytes_before : Size → ℕ → List ℕ → List ℕ
bytes_before Byte x r = x ∷ r
bytes_before Half x r = x / 2 ^ 8 ∷ x % 2 ^ 8 ∷ r
bytes_before Word x r = x / 2 ^ 24 ∷ x / 2 ^ 16 % 2 ^ 8 ∷ x / 2 ^ 8 % 2 ^ 8 ∷ x % 2 ^ 8 ∷ r

-- the bytes of n lanes, from lane j
abbrev pub bytes_of_lanes : Size → ℕ → ℕ → (ℕ → Lane) → List ℕ
bytes_of_lanes s zero j g = []
bytes_of_lanes s (suc n) j g = bytes_before s (g j).value (bytes_of_lanes s n (suc j) g)

-- a mark for each of n lanes that was clipped: bit j is lane j
abbrev pub marks_of_lanes : ℕ → (ℕ → Lane) → ℕ
marks_of_lanes zero g = 0
marks_of_lanes (suc n) g = marks_of_lanes n g + 2 ^ n * cond (g n).clipped 1 0

-- the number of lanes of a vector
abbrev pub count : Size → ℕ
count s = 16 / bytes_in s

-- the vector whose lane j is g j
unfoldable pub vector_of : Size → (ℕ → Lane) → Marked
vector_of s g = record { bytes = bytes_of_lanes s (count s) 0 g; marks = marks_of_lanes (count s) g }

-- lane j of v, and lane j of a followed by b
abbrev pub lane_at : Size → List ℕ → ℕ → ℕ
lane_at s v j = number_at s v (bytes_in s * j)

abbrev pub lane_of_both : Size → List ℕ → List ℕ → ℕ → ℕ
lane_of_both s a b j = cond (ltb j (count s)) (lane_at s a j) (lane_at s b (j - count s))

abbrev pub unsigned : ℕ → ℕ → ℤ
unsigned m x = pos x

-- the lanes of size s of a followed by b, each read as an exact integer, and taken by a lane of size d
abbrev pub packed : Size → Size → (ℕ → ℕ → ℤ) → (ℕ → ℤ → Lane) → List ℕ → List ℕ → Marked
packed s d reading taking a b = vector_of d (λ j. taking (2 ^ width_of d) (reading (2 ^ width_of s) (lane_of_both s a b j)))

-- the lanes of size s of b from lane k, each with its sign extended to size d
abbrev pub extended : Size → Size → ℕ → List ℕ → List ℕ
extended s d k b = (vector_of d (λ j. modulo (2 ^ width_of d) (signed (2 ^ width_of s) (lane_at s b (k + j))))).bytes

-- the left half of b, and the right half
abbrev pub unpacked_high : Size → Size → List ℕ → List ℕ
unpacked_high s d b = extended s d 0 b

abbrev pub unpacked_low : Size → Size → List ℕ → List ℕ
unpacked_low s d b = extended s d (count d) b

-- y moved to the nearer end of lo .. hi and reduced modulo m, and whether it had to be moved
unfoldable pub within : ℕ → ℕ → ℕ → ℕ → Lane
within m lo hi y = record { value = cond (ltb y lo) lo (cond (ltb hi y) hi y) % m; clipped = ltb y lo || ltb hi y }
