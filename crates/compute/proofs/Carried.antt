-- What an instruction by value gave and what was left of it in the registers is what the definition of its operation says: bytes with marks, bytes, and the bytes of
-- an operation on lanes that cannot clip. Assumes nothing.
use Prim.Native.Nat.{ℕ}
use mathlib.Core.Bool.{false}
use mathlib.Core.List.{List}
use mathlib.Core.Path.{◌≡◌, sym, ◌∙◌}
use Rattle.lanes.specs.declared.Marked.{Marked}
use Rattle.lanes.specs.declared.Op.{Op}
use Rattle.lanes.specs.declared.Size.{Size}
use Rattle.lanes.specs.Operations.{applied, clips}
use Rattle.lanes.proofs.Applied.{applied_unmarked}
use Rattle.registers.specs.Registers.{bare, Leaves}

module _ {v after : List ℕ} {d marks : ℕ} where
  pub carried : {r m : Marked} → r ≡ m → Leaves r d v after marks → Leaves m d v after marks
  carried e l = rw (← e) l

  pub carried_bytes : {x y : List ℕ} → x ≡ y → Leaves (bare x) d v after marks → Leaves (bare y) d v after marks
  carried_bytes e l = rw (← e) l

  pub carried_bare : (s : Size) (op : Op) (a b c : List ℕ) {x : List ℕ} → clips op ≡ false → x ≡ (applied s op a b c).bytes → Leaves (bare x) d v after marks
      → Leaves (applied s op a b c) d v after marks
  carried_bare s op a b c n e l = record { vectors = rw (← e) l.vectors; clipped = l.clipped ∙ sym (applied_unmarked s op n a b c) }
