-- The lanes of a vector as a list, the leftmost first, and the vector that a list of lanes makes. Assumes nothing.
use Rattle.std.specs.Prelude.{◌≡◌, ℕ, zero, suc, ◌+◌, ◌/◌, ◌%◌, ◌^◌, List, [], ◌∷◌, map}
use Rattle.std.specs.Simd.Lanes.{mask_l}
use Rattle.lanes.specs.declared.Lane.{Lane}
use Rattle.lanes.specs.declared.Marked.{Marked}
use Rattle.lanes.specs.declared.Size.{Size}
use Rattle.lanes.specs.declared.Size.TheVariants.{Byte, Half, Word}
use Rattle.lanes.specs.Numbers.{bytes_in, number_at}
use Rattle.lanes.specs.Order.{Bytes}

-- n lanes of v, from byte k
abbrev pub lanes_from : Size → ℕ → ℕ → List ℕ → List ℕ
lanes_from s zero k v = []
lanes_from s (suc n) k v = number_at s v k ∷ lanes_from s n (k + bytes_in s) v

abbrev pub lanes_of : Size → List ℕ → List ℕ
lanes_of s v = lanes_from s (16 / bytes_in s) 0 v

-- the bytes of a lane x, the highest first, before the bytes r
abbrev pub lane_before : Size → ℕ → List ℕ → List ℕ
lane_before Byte x r = x % 256 ∷ r
lane_before Half x r = x / 2 ^ 8 % 256 ∷ x % 256 ∷ r
lane_before Word x r = x / 2 ^ 24 % 256 ∷ x / 2 ^ 16 % 256 ∷ x / 2 ^ 8 % 256 ∷ x % 256 ∷ r

-- the bytes of lanes side by side
abbrev pub laid : Size → List ℕ → List ℕ
laid s [] = []
laid s (x ∷ xs) = lane_before s x (laid s xs)

-- r has the lanes of the vector v
pub record Holds (s : Size) (v r : List ℕ) : Type 0 where
  pub lanes : r ≡ lanes_of s v
  pub bytes : Bytes v

-- lanes side by side in a vector: bit i of the marks is that of lane i
abbrev pub placed : Size → List Lane → Marked
placed s ls = record { bytes = laid s (map (λ l. l.value) ls); marks = mask_l (map (λ l. l.clipped) ls) }

-- a vector, and the low 32 bits of a mask as its marks
abbrev pub with_marks : List ℕ → ℕ → Marked
with_marks bytes mask = record { bytes = bytes; marks = mask % 2 ^ 32 }
