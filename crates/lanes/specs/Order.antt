-- The four words of a vector in another order. Document 01, demand 3 of the build. Assumes nothing.
use Rattle.std.specs.Prelude.{◌≡◌, ℕ, ◌*◌, ◌<◌, List, slice_index}
use Rattle.lanes.specs.Words.{MarkedWord, word_from, bytes_of}

-- every element of v is a byte
abbrev pub Bytes : List ℕ → Type 0
Bytes v = (i : ℕ) → slice_index v i < 256

-- place j of the new order has the word that was at place p j, and each word has a place
pub record Order (p : ℕ → ℕ) : Type 0 where
  pub into : (j : ℕ) → j < 4 → p j < 4
  pub onto : (k : ℕ) → k < 4 → (j : ℕ) × (j < 4) × (p j ≡ k)

abbrev pub reordered : (ℕ → ℕ) → List ℕ → List ℕ
reordered p v = bytes_of (word_from v (4 * p 0)) (word_from v (4 * p 1)) (word_from v (4 * p 2)) (word_from v (4 * p 3))

-- what f gives at place j
abbrev pub at_place : (ℕ → ℕ → ℕ → MarkedWord) → List ℕ → List ℕ → List ℕ → ℕ → MarkedWord
at_place f a b c j = f (word_from a (4 * j)) (word_from b (4 * j)) (word_from c (4 * j))
