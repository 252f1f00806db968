-- When a word is refused, and with which answer: 5, then 6, then what its kind orders; an item outside the memory is missing, and no other.
-- Assumes nothing.
use Rattle.std.proofs.Common.{◌≡◌, ℕ, ◌+◌, ◌-◌, ◌<◌, ◌≤◌, true, false, List, le-ltb, lt-ltb, le-leb}
use borrow.Author.Tests.{lt-leb}
use Rattle.decode.specs.declared.Decoded.{Decoded}
use Rattle.control.specs.declared.answers.Answer.TheVariants.{NoInstruction, Reserved}
use Rattle.encodings.specs.declared.ops.Op.{Op}
use Rattle.std.specs.Prelude.{Some, None, Err}
use Rattle.control.specs.Addresses.{address_of, sum_of, item_of}
use Rattle.control.specs.Kinds.{kind_of}
use Rattle.control.specs.Orders.{order_in, order_of}

module _ (w : Decoded) (g : List ℕ) (base len : ℕ) where
  pub five : w.op ≡ None → order_of w g base len ≡ Err NoInstruction
  unfolding order_of
  five n = rw n

  pub six : (o : Op) → w.op ≡ Some o → w.stray ≡ true → order_of w g base len ≡ Err Reserved
  unfolding order_of
  six o e s = rw (e, s)

  pub carried : (o : Op) → w.op ≡ Some o → w.stray ≡ false
      → order_of w g base len ≡ order_in (kind_of o) o (address_of g w.a w.b) (sum_of g w.a w.imm) base len
  unfolding order_of
  carried o e s = rw (e, s)

module _ (e base len : ℕ) where
  pub below : e < base → item_of e base len ≡ None
  unfolding item_of
  below h = simp (lt-leb base e h)

  pub above : base ≤ e → base + len ≤ e → item_of e base len ≡ None
  unfolding item_of
  above h k = simp (le-leb base e h, le-ltb e (base + len) k)

  pub inside : base ≤ e → e < base + len → item_of e base len ≡ Some (e - base)
  unfolding item_of
  inside h k = simp (le-leb base e h, lt-ltb e (base + len) k)
