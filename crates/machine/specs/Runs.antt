-- A run: document 01, "Numbers the run gives back". Control and data for each word, as far as the allowance goes. Assumes nothing.
use Rattle.std.specs.Prelude.{ℕ, zero, suc, ◌+◌, ◌≡◌, List, length, get_or, eqb, leb, Result, Ok, Err}
use Rattle.encodings.specs.Bits.{pick}
use Rattle.decode.specs.declared.Decoded.{Decoded}
use Rattle.decode.specs.Decode.{decode_of}
use Rattle.control.specs.declared.answers.Answer.{Answer}
use Rattle.control.specs.declared.answers.Answer.TheVariants.{Done, Spent, Misplaced, LongCode, BadStart}
use Rattle.control.specs.declared.orders.Order.{Order}
use Rattle.control.specs.Answers.{number_of}
use Rattle.control.specs.Addresses.{well_placed}
use Rattle.control.specs.Orders.{order_of, general_of}
use Rattle.flags.specs.declared.Flags.{Flags}
use Rattle.effects.specs.Effects.{Held, held_of, effect_of}
use Rattle.machine.specs.declared.walk.Report.{Report}
use Rattle.machine.specs.declared.walk.Walked.{Walked}
use Rattle.machine.specs.declared.Machine.{Machine}

-- a machine of its parts, and the flags of a machine
abbrev pub machine_of : List ℕ → List ℕ → Flags → Machine
machine_of v g f = record { v = v; g = g; nj = f.nj; sat = f.sat; cr6 = f.cr6 }

abbrev pub flags_in : Machine → Flags
flags_in m = record { nj = m.nj; sat = m.sat; cr6 = m.cr6 }

-- where a run stands: the words completed, the place of the next word, the machine and the memory
pub record State : Type 0 where
  pub count : ℕ
  pub place : ℕ
  pub m : Machine
  pub mem : List ℕ

-- what a run leaves: the number of the table, the words completed, the place of the next word, the machine and the memory
pub record Out : Type 0 where
  pub number : ℕ
  pub count : ℕ
  pub place : ℕ
  pub m : Machine
  pub mem : List ℕ

abbrev pub starts : ℕ → Machine → List ℕ → State
starts place m mem = record { count = 0; place = place; m = m; mem = mem }

abbrev pub stops : Answer → State → Out
stops a s = record { number = number_of a; count = s.count; place = s.place; m = s.m; mem = s.mem }

-- the word at the place, decoded, and the order for it
abbrev pub word_at : List ℕ → State → Decoded
word_at code s = decode_of (get_or code s.place 0)

unfoldable pub order_at : List ℕ → ℕ → State → Result Order Answer
order_at code base s = order_of (word_at code s) s.m.g base (length s.mem)

-- a word completed: control sets the general registers, data the rest; the count and the place move by one
abbrev pub after : State → List ℕ → Held → State
after s g h = record { count = s.count + 1; place = s.place + 1; m = machine_of h.v g h.flags; mem = h.mem }

abbrev pub next : Order → Decoded → State → State
next o w s = after s (general_of o w.d s.m.g) (effect_of o w (held_of s.m.v (flags_in s.m) s.mem))

-- a refused word ends the run with its answer, and after any other it goes on
abbrev pub went : Result Order Answer → State → (Order → Out) → Out
went (Err a) s on = stops a s
went (Ok o) s on = on o

-- recursion on the allowance; before each word 0, then 1, then 5, 6, 7
unfoldable pub runs : List ℕ → ℕ → ℕ → State → Out
runs code base zero s = pick (eqb s.place (length code)) (stops Done s) (stops Spent s)
runs code base (suc n) s =
    pick (eqb s.place (length code)) (stops Done s)
    (went (order_at code base s) s (λ o. runs code base n (next o (word_at code s) s)))

-- 2, 3, 4 once, and then the words
unfoldable pub run_of : List ℕ → List ℕ → ℕ → ℕ → ℕ → Machine → Out
run_of code mem base place allowance m =
    pick (well_placed base (length mem))
    (pick (leb (length code) 16384)
    (pick (leb place (length code)) (runs code base allowance s)
    (stops BadStart s))
    (stops LongCode s))
    (stops Misplaced s)
  where
    s : State
    s = starts place m mem

-- what a function hands back, and the machine and the memory as it leaves them, are those of the definition
pub record Gives (o : Out) (r : Report) (machine : Machine) (memory : List ℕ) : Type 0 where
  pub number : number_of r.answer ≡ o.number
  pub count : r.count ≡ o.count
  pub place : r.place ≡ o.place
  pub m : machine ≡ o.m
  pub mem : memory ≡ o.mem

-- what the loop hands back
abbrev pub walked_of : Answer → ℕ → ℕ → Flags → Walked
walked_of a count place f = record { report = record { answer = a; count = count; place = place }; flags = f }
