-- The lanes of a vector as numbers, each by the place of its first byte. Assumes nothing.
use Rattle.std.specs.Prelude.{ℕ, ◌+◌, ◌*◌, ◌^◌, List, slice_index}
use Rattle.lanes.specs.declared.Size.{Size}
use Rattle.lanes.specs.declared.Size.TheVariants.{Byte, Half, Word}
use Rattle.lanes.specs.Words.{word_from}

abbrev pub bytes_in : Size → ℕ
bytes_in Byte = 1
bytes_in Half = 2
bytes_in Word = 4

-- the number of the lane of v from byte k
unfoldable pub number_at : Size → List ℕ → ℕ → ℕ
number_at Byte v k = slice_index v k
number_at Half v k = slice_index v k * 2 ^ 8 + slice_index v (k + 1)
number_at Word v k = word_from v k
