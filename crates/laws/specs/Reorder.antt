-- DEMAND 3: the four words of every line of sixteen bytes in another order, in the vectors and in the memory, and the code that does not see it.
-- A reordering p is `Order p` of lanes: place j has the word that was at place p j, and each word has a place. Assumes nothing.
use Rattle.std.specs.Prelude.{ℕ, zero, suc, ◌/◌, ◌≡◌, Bool, true, false, List, [], ◌∷◌, ◌++◌, length, take, drop}
use Rattle.std.specs.Option.{option_map_or}
use Rattle.encodings.specs.Bits.{pick}
use Rattle.encodings.specs.Encodings.{op_of}
use Rattle.decode.specs.Traits.{position_bound}
use Rattle.lanes.specs.Order.{Bytes, reordered}
use Rattle.machine.specs.declared.Machine.{Machine}
use Rattle.machine.specs.Runs.{Out}

-- f of each of the first n lines of a list; what is beyond stays
unfoldable pub each_line : (List ℕ → List ℕ) → ℕ → List ℕ → List ℕ
each_line f zero l = l
each_line f (suc n) l = f (take 16 l) ++ each_line f n (drop 16 l)

-- the words of every line in the order p: of the vectors, which are 32 lines, and of a memory
unfoldable pub reordered_lines : (ℕ → ℕ) → List ℕ → List ℕ
reordered_lines p l = each_line (reordered p) (length l / 16) l

-- the machine with its vectors reordered: the general registers, NJ, SAT and CR6 are the same
abbrev pub reordered_machine : (ℕ → ℕ) → Machine → Machine
reordered_machine p m = record { v = reordered_lines p m.v; g = m.g; nj = m.nj; sat = m.sat; cr6 = m.cr6 }

-- the outcome with its vectors and its memory reordered: the number, the count and the place are the same too
abbrev pub reordered_out : (ℕ → ℕ) → Out → Out
reordered_out p o = record { number = o.number; count = o.count; place = o.place; m = reordered_machine p o.m; mem = reordered_lines p o.mem }

-- code with none of the thirty-nine of document 01, "Position-bound instructions"
unfoldable pub free : List ℕ → Bool
free [] = true
free (w ∷ ws) = pick (option_map_or position_bound (op_of w) false) false (free ws)

-- what the machine's arrays and the memory are: 32 vectors of sixteen bytes, and every element of both a byte
pub record Whole (v mem : List ℕ) : Type 0 where
  pub wide : length v ≡ 512
  pub vectors : Bytes v
  pub memory : Bytes mem
