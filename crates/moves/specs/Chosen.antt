-- Bytes that are chosen and not changed. Document 01, "Lane rules" and, for the last two, "Addresses". Assumes nothing.
use Rattle.std.specs.Prelude.{ℕ, zero, suc, ◌+◌, ◌-◌, ◌*◌, ◌/◌, ◌%◌, cond, List, [], ◌∷◌, get_or, ltb, eqb}
use Rattle.lanes.specs.declared.Size.{Size}
use Rattle.lanes.specs.Numbers.{bytes_in}

-- g at n places, from place i
abbrev pub places : ℕ → ℕ → (ℕ → ℕ) → List ℕ
places zero i g = []
places (suc n) i g = g i ∷ places n (suc i) g

-- lane j is lane p j of the vector v j
abbrev pub lanes_from : Size → (ℕ → List ℕ) → (ℕ → ℕ) → List ℕ
lanes_from s v p = places 16 0 (λ i. get_or (v (i / bytes_in s)) (bytes_in s * p (i / bytes_in s) + i % bytes_in s) 0)

-- the lanes of a and b in turn, from lane k of both
abbrev pub in_turn : Size → ℕ → List ℕ → List ℕ → List ℕ
in_turn s k a b = lanes_from s (λ j. cond (eqb (j % 2) 0) a b) (λ j. k + j / 2)

-- the left halves of a and b, and the right halves
abbrev pub merged_high : Size → List ℕ → List ℕ → List ℕ
merged_high s a b = in_turn s 0 a b

abbrev pub merged_low : Size → List ℕ → List ℕ → List ℕ
merged_low s a b = in_turn s (8 / bytes_in s) a b

-- every lane is lane n of b, where n counts modulo the number of lanes
abbrev pub splat : Size → List ℕ → ℕ → List ℕ
splat s b n = lanes_from s (λ j. b) (λ j. n % (16 / bytes_in s))

-- byte k of a followed by b
abbrev pub byte_of : List ℕ → List ℕ → ℕ → ℕ
byte_of a b k = cond (ltb k 16) (get_or a k 0) (get_or b (k - 16) 0)

-- the bytes that the low five bits of the bytes of c name
abbrev pub permuted : List ℕ → List ℕ → List ℕ → List ℕ
permuted a b c = places 16 0 (λ i. byte_of a b (get_or c i 0 % 32))

-- the patterns for the low four bits of an address
abbrev pub pattern_left : ℕ → List ℕ
pattern_left s = places 16 0 (λ i. s % 16 + i)

abbrev pub pattern_right : ℕ → List ℕ
pattern_right s = places 16 0 (λ i. 16 - s % 16 + i)
