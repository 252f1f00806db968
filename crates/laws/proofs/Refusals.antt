-- A word is refused with 5, 6 or 7 and with no other answer.
-- Assumes nothing.
use Prim.Native.Nat.{ℕ, ◌≤◌}
use mathlib.Core.Path.{◌≡◌, subst}
use mathlib.Core.Bool.{Bool, true, false}
use mathlib.Core.List.{List}
use native.Mathlib.Omega.{arith}
use lib.ListN.{length}
use Rattle.encodings.specs.Bits.{pick}
use Rattle.decode.specs.declared.Decoded.{Decoded}
use Rattle.control.specs.declared.answers.Answer.{Answer}
use Rattle.control.specs.declared.answers.Answer.TheVariants.{NoInstruction, Reserved}
use Rattle.control.specs.declared.kinds.Kind.{Kind}
use Rattle.control.specs.declared.kinds.Kind.TheVariants.{Vector, GetStatus, PutStatus, LeftPattern, RightPattern, GetElement, GetLine, PutElement, PutLine, AddScalar}
use Rattle.std.specs.Prelude.{Option, Some, None, Result, Ok, Err}
use Rattle.std.specs.Option.{option_map_or}
use Rattle.encodings.specs.declared.ops.Op.{Op}
use Rattle.control.specs.declared.orders.Order.{Order}
use Rattle.control.specs.declared.orders.Order.TheVariants.{ReadLine, WriteLine, ReadElement, WriteElement}
use Rattle.control.specs.Addresses.{address_of, sum_of, aligned, item_of}
use Rattle.lanes.specs.Numbers.{bytes_in}
use Rattle.control.specs.Answers.{number_of}
use Rattle.control.specs.Kinds.{kind_of}
use Rattle.control.specs.Orders.{reached, element, order_in, order_of}
use Rattle.machine.specs.Runs.{State, word_at, order_at}

-- a word that is refused has an answer from 5 on
Late : Result Order Answer → Type 0
Late (Ok o) = Unit {0}
Late (Err a) = 5 ≤ number_of a

reached_late : (i : Option ℕ) (f : ℕ → Order) → Late (reached i f)
unfolding Late
reached_late (Some k) f = tt
reached_late None f = omega arith

kind_late : (k : Kind) (o : Op) (x s base len : ℕ) → Late (order_in k o x s base len)
unfolding Late
kind_late Vector o x s base len = tt
kind_late GetStatus o x s base len = tt
kind_late PutStatus o x s base len = tt
kind_late LeftPattern o x s base len = tt
kind_late RightPattern o x s base len = tt
kind_late (GetElement w) o x s base len = reached_late (item_of (aligned (bytes_in w) x) base len) (λ k. ReadElement (element (aligned (bytes_in w) x) (bytes_in w) k))
kind_late GetLine o x s base len = reached_late (item_of (aligned 16 x) base len) ReadLine
kind_late (PutElement w) o x s base len = reached_late (item_of (aligned (bytes_in w) x) base len) (λ k. WriteElement (element (aligned (bytes_in w) x) (bytes_in w) k))
kind_late PutLine o x s base len = reached_late (item_of (aligned 16 x) base len) WriteLine
kind_late AddScalar o x s base len = tt

order_late : (w : Decoded) (g : List ℕ) (base len : ℕ) → Late (order_of w g base len)
unfolding order_of Late
order_late w g base len = cases w.op w.stray
  where
    cases : (p : Option Op) (q : Bool)
        → Late (option_map_or (λ (o : Op). pick q (Err Reserved) (order_in (kind_of o) o (address_of g w.a w.b) (sum_of g w.a w.imm) base len)) p (Err NoInstruction))
    cases None q = omega arith
    cases (Some o) true = omega arith
    cases (Some o) false = kind_late (kind_of o) o (address_of g w.a w.b) (sum_of g w.a w.imm) base len

pub late : (code : List ℕ) (base : ℕ) (s : State) (a : Answer) → order_at code base s ≡ Err a → 5 ≤ number_of a
unfolding order_at Late
late code base s a e = subst Late e (order_late (word_at code s) s.m.g base (length s.mem))
