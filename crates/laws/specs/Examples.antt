-- THE TWELVE EXAMPLES of document 01, "Examples to hold against the rules": each is a run of one word. Assumes nothing.
use Rattle.std.specs.Prelude.{ℕ, ◌+◌, ◌-◌, ◌*◌, ◌^◌, Bool, true, false, ◌&&◌, List, [], ◌∷◌, ◌++◌, replicate, eqb}
use Rattle.lanes.specs.Words.{bytes_of}
use Rattle.moves.specs.Shifted.{number}
use Rattle.effects.specs.Effects.{register}
use Rattle.machine.specs.declared.Machine.{Machine}
use Rattle.machine.specs.Runs.{Out, run_of}
use Rattle.laws.specs.Seen.{from}

-- a word whose bytes, or whose halves, are all k; minus k at a width of w bits
abbrev pub bytes : ℕ → ℕ
bytes k = k * (2 ^ 24 + 2 ^ 16 + 2 ^ 8 + 1)

abbrev pub halves : ℕ → ℕ
halves k = k * (2 ^ 16 + 1)

abbrev pub minus : ℕ → ℕ → ℕ
minus w k = 2 ^ w - k

-- a vector of four words x
abbrev pub four : ℕ → List ℕ
four x = bytes_of x x x x

-- a word of code with D 4, A 1, B 2 and, of the second form, C 3; the operands are in vectors 1, 2 and 3, and all else is zero
abbrev pub two : ℕ → ℕ
two n = 4 * 2 ^ 26 + 4 * 2 ^ 21 + 1 * 2 ^ 16 + 2 * 2 ^ 11 + n

abbrev pub three : ℕ → ℕ
three n = two (3 * 2 ^ 6 + n)

-- an example: its word, the words of its operands, what vector 4 is to be, and SAT
pub record Example : Type 0 where
  pub word : ℕ
  pub a : ℕ
  pub b : ℕ
  pub c : ℕ
  pub result : List ℕ
  pub sat : Bool

abbrev pub machine : Example → Machine
machine e = record { v = replicate 16 0 ++ four e.a ++ four e.b ++ four e.c ++ replicate 448 0; g = replicate 32 0; nj = false; sat = false; cr6 = 0 }

abbrev pub ran : Example → Out
ran e = run_of (e.word ∷ []) [] 0 0 1 (machine e)

abbrev pub same : Bool → Bool → Bool
same true b = b
same false true = false
same false false = true

-- the run completes its word, and leaves the result and SAT
unfoldable pub holds : Example → Bool
holds e =
    eqb (ran e).count 1 && eqb (number 16 (register (ran e).m.v 4)) (number 16 e.result) && same (ran e).m.sat e.sat

abbrev pub example : ℕ → ℕ → ℕ → ℕ → List ℕ → Bool → Example
example w a b c r s = record { word = w; a = a; b = b; c = c; result = r; sat = s }

abbrev pub examples : List Example
examples =
    -- vaddsbs 127, 1: 127, SAT
    example (two 768) (bytes 127) (bytes 1) 0 (four (bytes 127)) true
    -- vaddubs 255, 0: 255, no SAT
    ∷ example (two 512) (bytes 255) 0 0 (four (bytes 255)) false
    -- vsubsws -2^31, 1: -2^31, SAT
    ∷ example (two 1920) (2 ^ 31) 1 0 (four (2 ^ 31)) true
    -- vavgsb -1, -2: -1; and -1, -3: -2
    ∷ example (two 1282) (bytes (minus 8 1)) (bytes (minus 8 2)) 0 (four (bytes (minus 8 1))) false
    ∷ example (two 1282) (bytes (minus 8 1)) (bytes (minus 8 3)) 0 (four (bytes (minus 8 2))) false
    -- vmhaddshs -32768, -32768, 0: 32767, SAT
    ∷ example (three 32) (halves 32768) (halves 32768) 0 (four (halves 32767)) true
    -- vmhaddshs -32768, -32768, -1: 32767, no SAT
    ∷ example (three 32) (halves 32768) (halves 32768) (halves (minus 16 1)) (four (halves 32767)) false
    -- vmhraddshs -1, 16384, 0: 0; and vmhaddshs: -1
    ∷ example (three 33) (halves (minus 16 1)) (halves 16384) 0 (four 0) false
    ∷ example (three 32) (halves (minus 16 1)) (halves 16384) 0 (four (halves (minus 16 1))) false
    -- vmsumshs 1 × 1, -1 × 1, c = 2^31 - 1: 2^31 - 1, no SAT
    ∷ example (three 41) (1 * 2 ^ 16 + minus 16 1) (halves 1) (2 ^ 31 - 1) (four (2 ^ 31 - 1)) false
    -- vpkshus 255: 255, no SAT; and 256: 255, SAT
    ∷ example (two 270) (halves 255) (halves 255) 0 (four (bytes 255)) false
    ∷ example (two 270) (halves 256) (halves 256) 0 (four (bytes 255)) true
    -- vsubcuw 5, 5: 1; and 4, 5: 0
    ∷ example (two 1408) 5 5 0 (four 1) false
    ∷ example (two 1408) 4 5 0 (four 0) false
    -- vrlb 0x81 by 9: 0x03
    ∷ example (two 4) (bytes 129) (bytes 9) 0 (four (bytes 3)) false
    -- lvsr v4, 0, r0, low bits 0: 10 to 1F (hex)
    ∷ example (31 * 2 ^ 26 + 4 * 2 ^ 21 + 38 * 2) 0 0 0 (from 16) false
    ∷ []
