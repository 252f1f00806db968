-- The order for a word, from its fields, the general registers and where the memory lies. It sees no vector, no byte of the memory, and neither SAT, NJ nor CR6.
-- Assumes nothing.
use Rattle.std.specs.Prelude.{◌≡◌, ℕ, ◌+◌, ◌*◌, ◌/◌, ◌%◌, ◌^◌, ◌<◌, ◌≤◌, List, slice_set, Option, Some, None, Result, Ok, Err}
use Rattle.std.specs.Option.{option_map_or}
use Rattle.encodings.specs.declared.ops.Op.{Op}
use Rattle.encodings.specs.Bits.{pick}
use Rattle.decode.specs.declared.Decoded.{Decoded}
use Rattle.control.specs.declared.answers.Answer.{Answer}
use Rattle.control.specs.declared.answers.Answer.TheVariants.{NoInstruction, Reserved, Outside}
use Rattle.control.specs.declared.kinds.Kind.{Kind}
use Rattle.control.specs.declared.kinds.Kind.TheVariants.{Vector, GetStatus, PutStatus, LeftPattern, RightPattern, GetElement, GetLine, PutElement, PutLine, AddScalar}
use Rattle.control.specs.declared.orders.Element.{Element}
use Rattle.control.specs.declared.orders.Order.{Order}
use Rattle.control.specs.declared.orders.Order.TheVariants.{SetGeneral, Compute, ReadStatus, WriteStatus, PatternLeft, PatternRight, ReadLine, WriteLine, ReadElement, WriteElement}
use Rattle.control.specs.Addresses.{address_of, sum_of, aligned, item_of}
use Rattle.lanes.specs.Numbers.{bytes_in}
use Rattle.control.specs.Kinds.{kind_of}

-- what is ordered at the place of an item, or answer 7
abbrev pub reached : Option ℕ → (ℕ → Order) → Result Order Answer
reached (Some k) f = Ok (f k)
reached None f = Err Outside

-- an element of n bytes at address e, which is place k of the memory: its line, and its place in the line
abbrev pub element : ℕ → ℕ → ℕ → Element
element e n k = record { at = k / 16 * 16; place = e % 16; bytes = n }

-- the order for the operation o by its kind: x is the address (rA|0) + rB, s is addi's sum
abbrev pub order_in : Kind → Op → ℕ → ℕ → ℕ → ℕ → Result Order Answer
order_in Vector o x s base len = Ok (Compute o)
order_in GetStatus o x s base len = Ok ReadStatus
order_in PutStatus o x s base len = Ok WriteStatus
order_in LeftPattern o x s base len = Ok (PatternLeft (x % 16))
order_in RightPattern o x s base len = Ok (PatternRight (x % 16))
order_in (GetElement w) o x s base len = reached (item_of (aligned (bytes_in w) x) base len) (λ k. ReadElement (element (aligned (bytes_in w) x) (bytes_in w) k))
order_in GetLine o x s base len = reached (item_of (aligned 16 x) base len) ReadLine
order_in (PutElement w) o x s base len = reached (item_of (aligned (bytes_in w) x) base len) (λ k. WriteElement (element (aligned (bytes_in w) x) (bytes_in w) k))
order_in PutLine o x s base len = reached (item_of (aligned 16 x) base len) WriteLine
order_in AddScalar o x s base len = Ok (SetGeneral s)

-- the order of a word that carries the operation o: answer 6, and then what its kind orders, where 7 is
abbrev pub order_for : Decoded → List ℕ → ℕ → ℕ → Op → Result Order Answer
order_for w g base len o = pick w.stray (Err Reserved) (order_in (kind_of o) o (address_of g w.a w.b) (sum_of g w.a w.imm) base len)

-- the order of a word: answer 5 where it carries no instruction
unfoldable pub order_of : Decoded → List ℕ → ℕ → ℕ → Result Order Answer
order_of w g base len = option_map_or (order_for w g base len) w.op (Err NoInstruction)

-- the general registers after an order, D being d; a refusal leaves them
abbrev pub general_of : Order → ℕ → List ℕ → List ℕ
general_of (SetGeneral x) d g = slice_set g d x
general_of (Compute o) d g = g
general_of ReadStatus d g = g
general_of WriteStatus d g = g
general_of (PatternLeft s) d g = g
general_of (PatternRight s) d g = g
general_of (ReadLine at) d g = g
general_of (WriteLine at) d g = g
general_of (ReadElement e) d g = g
general_of (WriteElement e) d g = g

abbrev pub general_after : Result Order Answer → ℕ → List ℕ → List ℕ
general_after (Ok o) d g = general_of o d g
general_after (Err a) d g = g

-- the fields of a word have their sizes
pub record InFields (w : Decoded) : Type 0 where
  pub d : w.d < 32
  pub a : w.a < 32
  pub b : w.b < 32
  pub c : w.c < 32
  pub count : w.count < 16
  pub imm : w.imm < 2 ^ 16

-- a line is in a memory of len bytes, and starts at a multiple of 16
pub record IsLine (at len : ℕ) : Type 0 where
  pub ends : at + 16 ≤ len
  pub starts : at % 16 ≡ 0

-- an element is in such a line
pub record IsElement (e : Element) (len : ℕ) : Type 0 where
  pub line : IsLine e.at len
  pub within : e.place + e.bytes ≤ 16

-- what an order names in the memory is there
abbrev pub Reaches : Order → ℕ → Type 0
Reaches (SetGeneral x) len = Unit {0}
Reaches (Compute o) len = Unit {0}
Reaches ReadStatus len = Unit {0}
Reaches WriteStatus len = Unit {0}
Reaches (PatternLeft s) len = s < 16
Reaches (PatternRight s) len = s < 16
Reaches (ReadLine at) len = IsLine at len
Reaches (WriteLine at) len = IsLine at len
Reaches (ReadElement e) len = IsElement e len
Reaches (WriteElement e) len = IsElement e len

-- the same of what control gave: a refusal names nothing
abbrev pub Reaching : Result Order Answer → ℕ → Type 0
Reaching (Ok o) len = Reaches o len
Reaching (Err a) len = Unit {0}

-- what control leaves: the order or the answer, and the general registers after it
pub record Controls (w : Decoded) (g : List ℕ) (base len : ℕ) (r : Result Order Answer) (after : List ℕ) : Type 0 where
  pub order : r ≡ order_of w g base len
  pub general : after ≡ general_after r w.d g
