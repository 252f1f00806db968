-- THE ANSWERS: document 01, "Numbers the run gives back": the case of each, in words that need no run. Assumes nothing.
use Rattle.std.specs.Prelude.{ℕ, ◌+◌, ◌-◌, ◌%◌, ◌^◌, ◌≤◌, ◌<◌, ◌≡◌, true, false, List, ◌⊎◌, length, Some, None}
use Rattle.decode.specs.declared.Decoded.{Decoded}
use Rattle.encodings.specs.declared.ops.Op.{Op}
use Rattle.control.specs.declared.answers.Answer.{Answer}
use Rattle.control.specs.declared.answers.Answer.TheVariants.{Done, Spent, Misplaced, LongCode, BadStart, NoInstruction, Reserved, Outside}
use Rattle.control.specs.declared.kinds.Kind.{Kind}
use Rattle.control.specs.declared.kinds.Kind.TheVariants.{Vector, GetStatus, PutStatus, LeftPattern, RightPattern, GetElement, GetLine, PutElement, PutLine, AddScalar}
use Rattle.control.specs.Addresses.{address_of, aligned}
use Rattle.lanes.specs.Numbers.{bytes_in}
use Rattle.control.specs.Kinds.{kind_of}
use Rattle.machine.specs.declared.Machine.{Machine}
use Rattle.machine.specs.Runs.{State, starts}
use Rattle.laws.specs.Steps.{Completes, Ended}

-- the memory is well placed: document 01, "Addresses"
pub record Placed (base len : ℕ) : Type 0 where
  pub base_lines : base % 16 ≡ 0
  pub length_lines : len % 16 ≡ 0
  pub short : len ≤ 65536
  pub below : base + len ≤ 2 ^ 32

-- the item at address e starts before the memory or behind it
abbrev pub Beyond : ℕ → ℕ → ℕ → Type 0
Beyond e base len = (e < base) ⊎ (base + len ≤ e)

-- a word of the kind names an item outside the memory: x is the address (rA|0) + rB, and the item is where its low bits are cleared
abbrev pub Misses : Kind → ℕ → ℕ → ℕ → Type 0
Misses Vector x base len = ⊥
Misses GetStatus x base len = ⊥
Misses PutStatus x base len = ⊥
Misses LeftPattern x base len = ⊥
Misses RightPattern x base len = ⊥
Misses (GetElement w) x base len = Beyond (aligned (bytes_in w) x) base len
Misses GetLine x base len = Beyond (aligned 16 x) base len
Misses (PutElement w) x base len = Beyond (aligned (bytes_in w) x) base len
Misses PutLine x base len = Beyond (aligned 16 x) base len
Misses AddScalar x base len = ⊥

-- a decoded word is refused, with the general registers g, for the reason of the answer
abbrev pub Refused : Answer → Decoded → List ℕ → ℕ → ℕ → Type 0
Refused Done w g base len = ⊥
Refused Spent w g base len = ⊥
Refused Misplaced w g base len = ⊥
Refused LongCode w g base len = ⊥
Refused BadStart w g base len = ⊥
Refused NoInstruction w g base len = w.op ≡ None
Refused Reserved w g base len = (o : Op) × (w.op ≡ Some o) × (w.stray ≡ true)
Refused Outside w g base len = (o : Op) × (w.op ≡ Some o) × (w.stray ≡ false) × Misses (kind_of o) (address_of g w.a w.b) base len

-- a run of at most n words from s completes some words and then ends with the answer
pub record Comes (code : List ℕ) (base n : ℕ) (s : State) (a : Answer) : Type 0 where
  pub words : ℕ
  pub at : State
  pub within : words ≤ n
  pub led : Completes code base words s at
  pub ended : Ended code base (n - words) at a

-- what is asked before the first word: of the memory, of the code, of the place
pub record Begins (code mem : List ℕ) (base place : ℕ) : Type 0 where
  pub placed : Placed base (length mem)
  pub short : length code ≤ 16384
  pub inside : place ≤ length code

-- the run begins, and comes to the answer
pub record Runs (code mem : List ℕ) (base place n : ℕ) (m : Machine) (a : Answer) : Type 0 where
  pub begins : Begins code mem base place
  pub comes : Comes code base n (starts place m mem) a

-- the case of each answer
abbrev pub Case : Answer → List ℕ → List ℕ → ℕ → ℕ → ℕ → Machine → Type 0
Case Done code mem base place n m = Runs code mem base place n m Done
Case Spent code mem base place n m = Runs code mem base place n m Spent
Case Misplaced code mem base place n m = Placed base (length mem) → ⊥
Case LongCode code mem base place n m = Placed base (length mem) × (16384 < length code)
Case BadStart code mem base place n m = Placed base (length mem) × (length code ≤ 16384) × (length code < place)
Case NoInstruction code mem base place n m = Runs code mem base place n m NoInstruction
Case Reserved code mem base place n m = Runs code mem base place n m Reserved
Case Outside code mem base place n m = Runs code mem base place n m Outside
