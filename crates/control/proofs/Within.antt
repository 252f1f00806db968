-- In a memory that is well placed, what an order names is there: `reaches`.
-- Assumes nothing.
use Rattle.std.proofs.Common.{◌≡◌, ℕ, ◌+◌, ◌-◌, ◌*◌, ◌/◌, ◌%◌, ◌^◌, ◌<◌, ◌≤◌, Bool, true, false, eqb, ltb, leb, List, refl, sym, subst, arith, ltb-true, eqb-true, leb-true}
use mathlib.Core.Bool.{false≢true}
use Rattle.encodings.specs.Bits.{pick}
use Rattle.decode.specs.declared.Decoded.{Decoded}
use Rattle.lanes.specs.declared.Size.{Size}
use Rattle.lanes.specs.declared.Size.TheVariants.{Byte, Half, Word}
use Rattle.std.specs.Option.{option_map_or}
use Rattle.encodings.specs.declared.ops.Op.{Op}
use Rattle.control.specs.declared.answers.Answer.{Answer}
use Rattle.control.specs.declared.answers.Answer.TheVariants.{NoInstruction, Reserved}
use Rattle.control.specs.declared.kinds.Kind.{Kind}
use Rattle.control.specs.declared.kinds.Kind.TheVariants.{Vector, GetStatus, PutStatus, LeftPattern, RightPattern, GetElement, GetLine, PutElement, PutLine, AddScalar}
use Rattle.std.specs.Prelude.{Option, Some, None, Result, Ok, Err}
use Rattle.control.specs.declared.orders.Order.{Order}
use Rattle.control.specs.declared.orders.Order.TheVariants.{ReadLine, WriteLine, ReadElement, WriteElement}
use Rattle.control.specs.Addresses.{address_of, sum_of, aligned, item_of, well_placed}
use Rattle.lanes.specs.Numbers.{bytes_in}
use Rattle.control.specs.Kinds.{kind_of}
use Rattle.control.specs.Orders.{reached, element, order_in, order_for, order_of, IsLine, IsElement, Reaches, Reaching}

-- what holds of both holds of what is picked
picked : {A : Type 0} (P : A → Type 0) (b : Bool) {x y : A} → P x → P y → P (pick b x y)
picked P true p q = p
picked P false p q = q

both : (a b : Bool) → pick a b false ≡ true → (a ≡ true) × (b ≡ true)
both true b h = (refl, h)
both false b h = absurd (false≢true h)

pub record Placed (base len : ℕ) : Type 0 where
  pub starts : base % 16 ≡ 0
  pub lines : len % 16 ≡ 0
  pub short : len ≤ 65536
  pub ends : base + len ≤ 2 ^ 32

-- what the test says
pub placed : (base len : ℕ) → well_placed base len ≡ true → Placed base len
unfolding well_placed
placed base len h =
    let p = both (eqb (base % 16) 0) _ h in
    let q = both (eqb (len % 16) 0) _ p.1 in
    let r = both (leb len 65536) _ q.1 in
    record { starts = eqb-true _ _ p.0; lines = eqb-true _ _ q.0; short = leb-true _ _ r.0; ends = leb-true _ _ r.1 }

-- an item that was found: its place and the base make its address
InMemory : ℕ → ℕ → ℕ → Option ℕ → Type 0
InMemory e base len (Some k) = (k + base ≡ e) × (k < len)
InMemory e base len None = Unit {0}

found : (e base len : ℕ) → InMemory e base len (item_of e base len)
unfolding item_of InMemory
found e base len = outer (leb base e) refl
  where
    inner : (b : Bool) → base ≤ e → ltb e (base + len) ≡ b → InMemory e base len (pick b (Some (e - base)) None)
    inner true l h = let t = ltb-true e (base + len) h in (omega arith, omega arith)
    inner false l h = tt

    outer : (b : Bool) → leb base e ≡ b → InMemory e base len (pick b (pick (ltb e (base + len)) (Some (e - base)) None) None)
    outer true h = inner (ltb e (base + len)) (leb-true base e h) refl
    outer false h = tt

module _ (base len : ℕ) (p : Placed base len) where
  is_line : (k x : ℕ) → k + base ≡ aligned 16 x → k < len → IsLine k len
  is_line k x e h = record { ends = omega arith; starts = omega arith }

  -- an element does not leave its line
  within : (w : Size) (x : ℕ) → aligned (bytes_in w) x % 16 + bytes_in w ≤ 16
  within Byte x = omega arith
  within Half x = omega arith
  within Word x = omega arith

  is_element : (w : Size) (k x : ℕ) → k < len → IsElement (element (aligned (bytes_in w) x) (bytes_in w) k) len
  is_element w k x h = record { line = record { ends = omega arith; starts = omega arith }; within = within w x }

  -- its line and its place in the line make its address
  pub spot : (k e : ℕ) → k + base ≡ e → k / 16 * 16 + e % 16 + base ≡ e
  spot k e h = omega arith

  -- an order that names what is there at the place of an item that is in the memory
  at_place : (e : ℕ) (f : ℕ → Order) → ((k : ℕ) → k + base ≡ e → k < len → Reaches (f k) len) → Reaching (reached (item_of e base len) f) len
  unfolding InMemory
  at_place e f h = one (item_of e base len) (found e base len)
    where
      one : (i : Option ℕ) → InMemory e base len i → Reaching (reached i f) len
      one (Some k) m = h k m.0 m.1
      one None m = tt

  reaches_in : (k : Kind) (o : Op) (x s : ℕ) → Reaching (order_in k o x s base len) len
  reaches_in Vector o x s = tt
  reaches_in GetStatus o x s = tt
  reaches_in PutStatus o x s = tt
  reaches_in LeftPattern o x s = omega arith
  reaches_in RightPattern o x s = omega arith
  reaches_in (GetElement w) o x s = at_place (aligned (bytes_in w) x) (λ k. ReadElement (element (aligned (bytes_in w) x) (bytes_in w) k)) (λ k e h. is_element w k x h)
  reaches_in GetLine o x s = at_place (aligned 16 x) ReadLine (λ k e h. is_line k x e h)
  reaches_in (PutElement w) o x s = at_place (aligned (bytes_in w) x) (λ k. WriteElement (element (aligned (bytes_in w) x) (bytes_in w) k)) (λ k e h. is_element w k x h)
  reaches_in PutLine o x s = at_place (aligned 16 x) WriteLine (λ k e h. is_line k x e h)
  reaches_in AddScalar o x s = tt

pub reaches : (w : Decoded) (g : List ℕ) (base len : ℕ) → well_placed base len ≡ true → Reaching (order_of w g base len) len
unfolding order_of
reaches w g base len h = of w.op
  where
    of : (o : Option Op) → Reaching (option_map_or (order_for w g base len) o (Err NoInstruction)) len
    of None = tt
    of (Some o) =
        picked (λ (r : Result Order Answer). Reaching r len) w.stray {x = Err Reserved} tt
        (reaches_in base len (placed base len h) (kind_of o) o (address_of g w.a w.b) (sum_of g w.a w.imm))

-- the same of an order that is known
pub reaches_ok : (w : Decoded) (g : List ℕ) (base len : ℕ) (o : Order) → well_placed base len ≡ true → Ok o ≡ order_of w g base len → Reaches o len
reaches_ok w g base len o h e = subst (λ (r : Result Order Answer). Reaching r len) (sym e) (reaches w g base len h)
