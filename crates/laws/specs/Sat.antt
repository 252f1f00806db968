-- What the laws of SAT speak of: document 01, "Lane rules", the results that are clipped and mtvscr. Assumes nothing.
use Rattle.std.specs.Prelude.{ℕ, ◌+◌, ◌*◌, ◌%◌, ◌^◌, ◌≡◌, Bool, List, get_or, eqb, Some}
use Rattle.encodings.specs.declared.ops.Op.TheVariants.{ToStatus}
use Rattle.encodings.specs.Encodings.{op_of}
use Rattle.lanes.specs.declared.Lane.{Lane}
use Rattle.lanes.specs.declared.Op.{Op}
use Rattle.lanes.specs.declared.Size.{Size}
use Rattle.lanes.specs.Operations.{lane_op, width_of}
use Rattle.lanes.specs.Numbers.{bytes_in, number_at}

-- bit 127 of a vector is the last of byte 15
abbrev pub bit127 : List ℕ → Bool
bit127 x = eqb (get_or x 15 0 % 2) 1

-- no word of the code is mtvscr
abbrev pub NoStatus : List ℕ → Type 0
NoStatus code = (k : ℕ) → op_of (get_or code k 0) ≡ Some ToStatus → ⊥

-- what an operation gives at lane r of word j of three vectors
abbrev pub lane_in : Size → Op → List ℕ → List ℕ → List ℕ → ℕ → ℕ → Lane
lane_in s op a b c j r = lane_op op (width_of s) (2 ^ width_of s) (of a) (of b) (of c)
  where
    of : List ℕ → ℕ
    of v = number_at s v (4 * j + bytes_in s * r)
