-- THE LIST IS RIGHT: for each of the thirty-nine of document 01, "Position-bound instructions", a run of that one word which sees the order.
-- Assumes nothing.
use Rattle.std.specs.Prelude.{ℕ, ◌+◌, ◌-◌, ◌*◌, ◌^◌, Bool, true, false, not, cond, List, [], ◌∷◌, ◌++◌, replicate, eqb}
use Rattle.encodings.specs.Bits.{pick}
use Rattle.encodings.specs.declared.ops.Op.{Op}
use Rattle.encodings.specs.Encodings.{Row, Section}
use Rattle.decode.specs.Traits.{position_bound}
use Rattle.lanes.specs.Words.{bytes_of}
use Rattle.lines.specs.Lines.{sixteen}
use Rattle.moves.specs.Chosen.{places}
use Rattle.moves.specs.Shifted.{number}
use Rattle.effects.specs.Effects.{register}
use Rattle.machine.specs.declared.Machine.{Machine}
use Rattle.machine.specs.Runs.{Out, run_of}
use Rattle.laws.specs.Reorder.{reordered_lines, reordered_machine, reordered_out}

-- the last word first
abbrev pub backwards : ℕ → ℕ
backwards j = 3 - j

-- sixteen bytes that count up from n
abbrev pub from : ℕ → List ℕ
from n = places 16 0 (λ i. n + i)

-- the words n to n + 3
abbrev pub words_from : ℕ → List ℕ
words_from n = bytes_of n (n + 1) (n + 2) (n + 3)

-- SAT is on; vector 0 has the words 1 to 4, vector 1 the words 5 to 8, vector 2 the bytes 0 to 15, vector 3 the bytes 1 to 16; all else is zero
abbrev pub machine : Machine
machine = record {
  v = words_from 1 ++ words_from 5 ++ from 0 ++ from 1 ++ replicate 448 0;
  g = replicate 32 0;
  nj = false;
  sat = true;
  cr6 = 0;
}

-- one word of code; the memory is one line, at address 0, with the bytes 0 to 15
abbrev pub alone : ℕ → Out
alone w = run_of (w ∷ []) (from 0) 0 0 1 machine

-- the same word on what is reordered
abbrev pub alone_reordered : ℕ → Out
alone_reordered w = run_of (w ∷ []) (reordered_lines backwards (from 0)) 0 0 1 (reordered_machine backwards machine)

-- vector 3, SAT and the line of the memory, as a number
unfoldable pub shown : Out → ℕ
shown o = number 33 (register o.m.v 3 ++ cond o.m.sat 1 0 ∷ sixteen o.mem 0)

-- the word sees the order: the two runs show different things
unfoldable pub breaks : ℕ → Bool
breaks w = not (eqb (shown (alone_reordered w)) (shown (reordered_out backwards (alone w))))

-- primary 4 with D, A, B and the last eleven bits; primary 31 with D 3, A 0, B 1 and the bits 21 to 30
abbrev pub vector : ℕ → ℕ → ℕ → ℕ → ℕ
vector d a b n = 4 * 2 ^ 26 + d * 2 ^ 21 + a * 2 ^ 16 + b * 2 ^ 11 + n

abbrev pub indexed : ℕ → ℕ
indexed n = 31 * 2 ^ 26 + 3 * 2 ^ 21 + 1 * 2 ^ 11 + n * 2

-- one word of each, in the order of "Encodings"
abbrev pub thirty_nine : List ℕ
thirty_nine =
    vector 3 0 1 452 ∷  -- vsl
    vector 3 0 1 708 ∷  -- vsr
    vector 3 0 1 1036 ∷  -- vslo
    vector 3 0 1 1100 ∷  -- vsro
    vector 3 0 0 1540 ∷  -- mfvscr
    vector 0 0 1 1604 ∷  -- mtvscr
    vector 3 0 1 1672 ∷  -- vsum2sws
    vector 3 0 1 1928 ∷  -- vsumsws
    vector 3 0 1 12 ∷  -- vmrghb
    vector 3 0 1 76 ∷  -- vmrghh
    vector 3 0 1 140 ∷  -- vmrghw
    vector 3 0 1 268 ∷  -- vmrglb
    vector 3 0 1 332 ∷  -- vmrglh
    vector 3 0 1 396 ∷  -- vmrglw
    vector 3 3 1 524 ∷  -- vspltb, lane 3
    vector 3 1 1 588 ∷  -- vsplth, lane 1
    vector 3 0 1 652 ∷  -- vspltw, lane 0
    vector 3 0 1 14 ∷  -- vpkuhum
    vector 3 0 1 78 ∷  -- vpkuwum
    vector 3 0 1 142 ∷  -- vpkuhus
    vector 3 0 1 206 ∷  -- vpkuwus
    vector 3 0 1 270 ∷  -- vpkshus
    vector 3 0 1 334 ∷  -- vpkswus
    vector 3 0 1 398 ∷  -- vpkshss
    vector 3 0 1 462 ∷  -- vpkswss
    vector 3 0 1 526 ∷  -- vupkhsb
    vector 3 0 1 590 ∷  -- vupkhsh
    vector 3 0 1 654 ∷  -- vupklsb
    vector 3 0 1 718 ∷  -- vupklsh
    vector 3 0 1 (2 * 2 ^ 6 + 43) ∷  -- vperm, C 2
    vector 3 0 1 (4 * 2 ^ 6 + 44) ∷  -- vsldoi, by 4 bytes
    indexed 6 ∷  -- lvsl
    indexed 38 ∷  -- lvsr
    indexed 7 ∷  -- lvebx
    indexed 39 ∷  -- lvehx
    indexed 71 ∷  -- lvewx
    indexed 135 ∷  -- stvebx
    indexed 167 ∷  -- stvehx
    indexed 199 ∷  -- stvewx
    []

-- the operations of the position-bound rows of document 01, "Encodings"
abbrev pub bound_rows : List Row → List Op
bound_rows [] = []
bound_rows (r ∷ rs) = pick (position_bound r.op) (r.op ∷ bound_rows rs) (bound_rows rs)

abbrev pub bound_in : List Section → List Op
bound_in [] = []
bound_in (s ∷ ss) = bound_rows s.rows ++ bound_in ss
