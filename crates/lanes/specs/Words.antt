-- Lanes side by side in a word, and words side by side in a vector: the leftmost is the first. Assumes nothing.
use Rattle.std.specs.Prelude.{ℕ, zero, suc, ◌+◌, ◌*◌, ◌/◌, ◌%◌, ◌^◌, cond, List, [], ◌∷◌, slice_index}
use Rattle.lanes.specs.declared.Lane.{Lane}
use Rattle.lanes.specs.declared.Marked.{Marked}

-- a word, and a mark for each of its lanes that was clipped: bit i is lane i
pub record MarkedWord : Type 0 where
  pub value : ℕ
  pub marks : ℕ

abbrev pub none : MarkedWord
none = record { value = 0; marks = 0 }

-- the lane l stands after the n lanes of r
unfoldable pub push : ℕ → ℕ → MarkedWord → Lane → MarkedWord
push m n r l = record { value = r.value * m + l.value; marks = r.marks + 2 ^ n * cond l.clipped 1 0 }

-- f at each of the n lanes of the words x, y and z
abbrev pub each : ℕ → ℕ → (ℕ → ℕ → ℕ → Lane) → ℕ → ℕ → ℕ → MarkedWord
each zero m f x y z = none
each (suc n) m f x y z = push m n (each n m f (x / m) (y / m) (z / m)) (f (x % m) (y % m) (z % m))

-- the big-endian number of the four bytes of v from byte k
unfoldable pub word_from : List ℕ → ℕ → ℕ
word_from v k = slice_index v k * 2 ^ 24 + slice_index v (k + 1) * 2 ^ 16 + slice_index v (k + 2) * 2 ^ 8 + slice_index v (k + 3)

-- the bytes of four words
unfoldable pub bytes_of : ℕ → ℕ → ℕ → ℕ → List ℕ
bytes_of a b c d =
    a / 2 ^ 24 ∷ a / 2 ^ 16 % 256 ∷ a / 2 ^ 8 % 256 ∷ a % 256
    ∷ b / 2 ^ 24 ∷ b / 2 ^ 16 % 256 ∷ b / 2 ^ 8 % 256 ∷ b % 256
    ∷ c / 2 ^ 24 ∷ c / 2 ^ 16 % 256 ∷ c / 2 ^ 8 % 256 ∷ c % 256
    ∷ d / 2 ^ 24 ∷ d / 2 ^ 16 % 256 ∷ d / 2 ^ 8 % 256 ∷ d % 256 ∷ []

-- the marks of four words of n lanes each
abbrev pub marks_of : ℕ → ℕ → ℕ → ℕ → ℕ → ℕ
marks_of n p q r t = p + 2 ^ n * (q + 2 ^ n * (r + 2 ^ n * t))

-- four words of n lanes each, side by side
unfoldable pub joined : ℕ → MarkedWord → MarkedWord → MarkedWord → MarkedWord → Marked
joined n p q r t = record {
  bytes = bytes_of p.value q.value r.value t.value;
  marks = marks_of n p.marks q.marks r.marks t.marks;
}

-- f at each of the four words of a, b and c: word j of the result comes from the words j alone
abbrev pub wordwise : ℕ → (ℕ → ℕ → ℕ → MarkedWord) → List ℕ → List ℕ → List ℕ → Marked
wordwise n f a b c =
    joined n (at 0) (at 4) (at 8) (at 12)
  where
    at : ℕ → MarkedWord
    at k = f (word_from a k) (word_from b k) (word_from c k)
