-- A machine as 660 bytes: thirty-two quad words in register order, the quad word that mfvscr and stvx would leave, thirty-two general registers and
-- the condition register, with CR6 in its bits 24 to 27; each of these words with its most significant byte first.
-- Assumes nothing.
use Rattle.std.specs.Prelude.{ℕ, ◌*◌, ◌/◌, ◌%◌, false, cond, List, [], ◌∷◌, ◌++◌, length, get_or, replicate, eqb, Option, Some, None}
use Rattle.lines.specs.Lines.{part}
use Rattle.flags.specs.Flags.{status_of, from_status}
use Rattle.flags.specs.declared.Flags.{Flags}
use Rattle.machine.specs.declared.Machine.{Machine}
use Rattle.machine.specs.Runs.{machine_of, flags_in}
use Rattle.texts.specs.Texts.{word_bytes}
use Rattle.reading.specs.Words.{words_of}

-- the condition register
abbrev pub condition_of : ℕ → List ℕ
condition_of cr6 = 0 ∷ 0 ∷ 0 ∷ cr6 % 16 * 16 ∷ []

unfoldable pub state_of : Machine → List ℕ
state_of m = m.v ++ status_of (flags_in m) ++ word_bytes m.g ++ condition_of m.cr6

-- NJ and SAT as mtvscr takes them, and CR6; the other bits are not looked at
abbrev pub flags_of : List ℕ → Flags
flags_of bytes = from_status (part bytes 512 16) (record { nj = false; sat = false; cr6 = get_or bytes 659 0 / 16 })

unfoldable pub from_state : List ℕ → Machine
from_state bytes = machine_of (part bytes 0 512) (words_of (part bytes 528 128)) (flags_of bytes)

-- all registers and bits zero
unfoldable pub at_rest : Machine
at_rest = record { v = replicate 512 0; g = replicate 32 0; nj = false; sat = false; cr6 = 0 }

-- a state of another length is refused
unfoldable pub loaded_of : List ℕ → Option Machine
loaded_of bytes = cond (eqb (length bytes) 660) (Some (from_state bytes)) None
