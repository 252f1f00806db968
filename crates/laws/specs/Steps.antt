-- What the laws speak of: words completed one after the other, and a run that goes on where another stopped. Assumes nothing.
use Rattle.std.specs.Prelude.{ℕ, zero, suc, ◌+◌, ◌-◌, ◌≤◌, ◌<◌, ◌≡◌, Bool, true, false, List, length, Result, Ok, Err}
use Rattle.control.specs.declared.answers.Answer.{Answer}
use Rattle.control.specs.declared.answers.Answer.TheVariants.{Done, Spent, Misplaced, LongCode, BadStart, NoInstruction, Reserved, Outside}
use Rattle.control.specs.declared.orders.Order.{Order}
use Rattle.control.specs.declared.orders.Order.TheVariants.{SetGeneral, Compute, ReadStatus, WriteStatus, PatternLeft, PatternRight, ReadLine, WriteLine, ReadElement, WriteElement}
use Rattle.decode.specs.declared.Decoded.{Decoded}
use Rattle.effects.specs.Effects.{Held, computed_of}
use Rattle.machine.specs.Runs.{State, Out, stops, word_at, order_at, next}

-- the state after the word at the place, for which the order is o
abbrev pub next_at : List ℕ → State → Order → State
next_at code s o = next o (word_at code s) s

-- k words are completed from s, one after the other, and t is where that leads: none is at the end of the code, and none is refused
abbrev pub Completes : List ℕ → ℕ → ℕ → State → State → Type 0
Completes code base zero s t = s ≡ t
Completes code base (suc k) s t = (s.place ≡ length code → ⊥) × ((o : Order) × (order_at code base s ≡ Ok o) × Completes code base k (next_at code s o) t)

-- a run that may do n more words ends at s with the answer: each in its case
abbrev pub Ended : List ℕ → ℕ → ℕ → State → Answer → Type 0
Ended code base n s Done = s.place ≡ length code
Ended code base n s Spent = (n ≡ 0) × (s.place ≡ length code → ⊥)
Ended code base n s Misplaced = ⊥
Ended code base n s LongCode = ⊥
Ended code base n s BadStart = ⊥
Ended code base n s NoInstruction = (0 < n) × (s.place ≡ length code → ⊥) × (order_at code base s ≡ Err NoInstruction)
Ended code base n s Reserved = (0 < n) × (s.place ≡ length code → ⊥) × (order_at code base s ≡ Err Reserved)
Ended code base n s Outside = (0 < n) × (s.place ≡ length code → ⊥) × (order_at code base s ≡ Err Outside)

-- what a run of at most n words from s comes to: some words are completed, and then it ends
pub record Ends (code : List ℕ) (base n : ℕ) (s : State) (o : Out) : Type 0 where
  pub words : ℕ
  pub at : State
  pub answer : Answer
  pub within : words ≤ n
  pub led : Completes code base words s at
  pub ended : Ended code base (n - words) at answer
  pub out : o ≡ stops answer at

-- where a run stopped, as where the next one starts
abbrev pub again : Out → State
again o = record { count = o.count; place = o.place; m = o.m; mem = o.mem }

-- k words more were completed before
abbrev pub later : ℕ → State → State
later k s = record { count = k + s.count; place = s.place; m = s.m; mem = s.mem }

abbrev pub later_out : ℕ → Out → Out
later_out k o = record { number = o.number; count = k + o.count; place = o.place; m = o.m; mem = o.mem }

-- the marks of the lanes that an order clips
abbrev pub marks_of : Order → Decoded → Held → ℕ
marks_of (SetGeneral x) w h = 0
marks_of (Compute op) w h = (computed_of op w h.v).marks
marks_of ReadStatus w h = 0
marks_of WriteStatus w h = 0
marks_of (PatternLeft s) w h = 0
marks_of (PatternRight s) w h = 0
marks_of (ReadLine at) w h = 0
marks_of (WriteLine at) w h = 0
marks_of (ReadElement e) w h = 0
marks_of (WriteElement e) w h = 0

-- the same of a word: a refused one clips none
abbrev pub marks_in : Result Order Answer → Decoded → Held → ℕ
marks_in (Ok o) w h = marks_of o w h
marks_in (Err a) w h = 0

-- mtvscr's order
abbrev pub sets_status : Order → Bool
sets_status (SetGeneral x) = false
sets_status (Compute op) = false
sets_status ReadStatus = false
sets_status WriteStatus = true
sets_status (PatternLeft s) = false
sets_status (PatternRight s) = false
sets_status (ReadLine at) = false
sets_status (WriteLine at) = false
sets_status (ReadElement e) = false
sets_status (WriteElement e) = false
