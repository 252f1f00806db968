-- An instruction that is not position-bound orders nothing that sees where a word stands.
-- Assumes nothing.
use Prim.Native.Nat.{ℕ, zero, suc}
use mathlib.Core.Path.{◌≡◌, refl, sym}
use mathlib.Core.Bool.{Bool, true, false, true≢false}
use mathlib.Core.List.{List, [], ◌∷◌}
use lib.ListN.{get_or}
use Rattle.encodings.specs.Bits.{pick}
use Rattle.decode.specs.declared.Decoded.{Decoded}
use Rattle.encodings.specs.declared.ops.Op.{Op}
use Rattle.encodings.specs.declared.ops.Op.TheVariants.{AddMod, AddCarry, AddSat, SubMod, SubCarry, SubSat, Max, Min, Average, Rotate, ShiftLeft, ShiftRight, ShiftAlgebraic, ShiftWholeLeft, ShiftWholeRight, ShiftBytesLeft, ShiftBytesRight, And, AndNot, Or, Xor, Nor, FromStatus, ToStatus, MulOdd, MulEven, SumQuarter, SumHalf, SumAll, MergeHigh, MergeLow, Splat, SplatImmediate, PackMod, PackSat, UnpackHigh, UnpackLow, CompareEqual, CompareGreater, MulHighAdd, MulHighRoundAdd, MulLowAdd, MulSum, MulSumMixed, MulSumSat, Select, Permute, ShiftPair, LoadShiftLeft, LoadShiftRight, LoadElement, LoadLine, StoreElement, StoreLine, AddImmediate}
use Rattle.encodings.specs.Encodings.{op_of}
use Rattle.decode.specs.Traits.{position_bound}
use Rattle.control.specs.declared.answers.Answer.{Answer}
use Rattle.control.specs.declared.answers.Answer.TheVariants.{NoInstruction, Reserved}
use Rattle.std.specs.Prelude.{Option, Some, None, Result, Ok, Err}
use Rattle.std.specs.Option.{option_map_or}
use Rattle.control.specs.declared.kinds.Kind.{Kind}
use Rattle.control.specs.declared.kinds.Kind.TheVariants.{Vector, GetStatus, PutStatus, LeftPattern, RightPattern, GetElement, GetLine, PutElement, PutLine, AddScalar}
use Rattle.control.specs.declared.orders.Order.{Order}
use Rattle.control.specs.declared.orders.Order.TheVariants.{SetGeneral, Compute, ReadStatus, WriteStatus, PatternLeft, PatternRight, ReadLine, WriteLine, ReadElement, WriteElement}
use Rattle.control.specs.Addresses.{address_of, sum_of, aligned, item_of}
use Rattle.control.specs.Kinds.{kind_of}
use Rattle.control.specs.Orders.{reached, order_in, order_of}
use Rattle.laws.specs.Reorder.{free}

-- an order that an instruction which is not position-bound can have
abbrev pub Unseen : Order → Type 0
Unseen (SetGeneral x) = Unit {0}
Unseen (Compute op) = position_bound op ≡ false
Unseen ReadStatus = ⊥
Unseen WriteStatus = ⊥
Unseen (PatternLeft s) = ⊥
Unseen (PatternRight s) = ⊥
Unseen (ReadLine at) = Unit {0}
Unseen (WriteLine at) = Unit {0}
Unseen (ReadElement e) = ⊥
Unseen (WriteElement e) = ⊥

-- its kind
abbrev FreeKind : Kind → Type 0
FreeKind Vector = Unit {0}
FreeKind GetStatus = ⊥
FreeKind PutStatus = ⊥
FreeKind LeftPattern = ⊥
FreeKind RightPattern = ⊥
FreeKind (GetElement w) = ⊥
FreeKind GetLine = Unit {0}
FreeKind (PutElement w) = ⊥
FreeKind PutLine = Unit {0}
FreeKind AddScalar = Unit {0}

free_kind : (op : Op) → position_bound op ≡ false → FreeKind (kind_of op)
free_kind (AddMod w) h = tt
free_kind AddCarry h = tt
free_kind (AddSat w s) h = tt
free_kind (SubMod w) h = tt
free_kind SubCarry h = tt
free_kind (SubSat w s) h = tt
free_kind (Max w s) h = tt
free_kind (Min w s) h = tt
free_kind (Average w s) h = tt
free_kind (Rotate w) h = tt
free_kind (ShiftLeft w) h = tt
free_kind (ShiftRight w) h = tt
free_kind (ShiftAlgebraic w) h = tt
free_kind ShiftWholeLeft h = tt
free_kind ShiftWholeRight h = tt
free_kind ShiftBytesLeft h = tt
free_kind ShiftBytesRight h = tt
free_kind And h = tt
free_kind AndNot h = tt
free_kind Or h = tt
free_kind Xor h = tt
free_kind Nor h = tt
free_kind FromStatus h = true≢false h
free_kind ToStatus h = true≢false h
free_kind (MulOdd w s) h = tt
free_kind (MulEven w s) h = tt
free_kind (SumQuarter w s) h = tt
free_kind SumHalf h = tt
free_kind SumAll h = tt
free_kind (MergeHigh w) h = tt
free_kind (MergeLow w) h = tt
free_kind (Splat w) h = tt
free_kind (SplatImmediate w) h = tt
free_kind (PackMod w) h = tt
free_kind (PackSat w s t) h = tt
free_kind (UnpackHigh w) h = tt
free_kind (UnpackLow w) h = tt
free_kind (CompareEqual w) h = tt
free_kind (CompareGreater w s) h = tt
free_kind MulHighAdd h = tt
free_kind MulHighRoundAdd h = tt
free_kind MulLowAdd h = tt
free_kind (MulSum w s) h = tt
free_kind MulSumMixed h = tt
free_kind (MulSumSat s) h = tt
free_kind Select h = tt
free_kind Permute h = tt
free_kind ShiftPair h = tt
free_kind LoadShiftLeft h = true≢false h
free_kind LoadShiftRight h = true≢false h
free_kind (LoadElement w) h = true≢false h
free_kind LoadLine h = tt
free_kind (StoreElement w) h = true≢false h
free_kind StoreLine h = tt
free_kind AddImmediate h = tt

-- what is ordered, if anything
abbrev pub UnseenIn : Result Order Answer → Type 0
UnseenIn (Ok o) = Unseen o
UnseenIn (Err a) = Unit {0}

reached_unseen : (i : Option ℕ) (f : ℕ → Order) → ((k : ℕ) → Unseen (f k)) → UnseenIn (reached i f)
reached_unseen (Some k) f h = h k
reached_unseen None f h = tt

kind_unseen : (k : Kind) (o : Op) (x s base len : ℕ) → FreeKind k → position_bound o ≡ false → UnseenIn (order_in k o x s base len)
kind_unseen Vector o x s base len h b = b
kind_unseen GetStatus o x s base len h b = h
kind_unseen PutStatus o x s base len h b = h
kind_unseen LeftPattern o x s base len h b = h
kind_unseen RightPattern o x s base len h b = h
kind_unseen (GetElement w) o x s base len h b = absurd h
kind_unseen GetLine o x s base len h b = reached_unseen (item_of (aligned 16 x) base len) ReadLine (λ k. tt)
kind_unseen (PutElement w) o x s base len h b = absurd h
kind_unseen PutLine o x s base len h b = reached_unseen (item_of (aligned 16 x) base len) WriteLine (λ k. tt)
kind_unseen AddScalar o x s base len h b = tt

-- whether a word that may carry an operation is position-bound
abbrev pub bound : Option Op → Bool
bound o = option_map_or position_bound o false

pub order_unseen : (w : Decoded) (g : List ℕ) (base len : ℕ) → bound w.op ≡ false → UnseenIn (order_of w g base len)
unfolding order_of
order_unseen w g base len = cases w.op w.stray
  where
    cases : (p : Option Op) (q : Bool) → bound p ≡ false
        → UnseenIn (option_map_or (λ (o : Op). pick q (Err Reserved) (order_in (kind_of o) o (address_of g w.a w.b) (sum_of g w.a w.imm) base len)) p (Err NoInstruction))
    cases None q h = tt
    cases (Some o) true h = tt
    cases (Some o) false h = kind_unseen (kind_of o) o (address_of g w.a w.b) (sum_of g w.a w.imm) base len (free_kind o h) h

-- a word of code with no position-bound instruction
unbound : (a b : Bool) → pick a false b ≡ true → (a ≡ false) × (b ≡ true)
unbound true b h = absurd (true≢false (sym h))
unbound false b h = (refl, h)

pub free_at : (code : List ℕ) (k : ℕ) → free code ≡ true → bound (op_of (get_or code k 0)) ≡ false
unfolding free op_of
free_at [] k h = refl
free_at (w ∷ ws) zero h = (unbound (bound (op_of w)) (free ws) h).0
free_at (w ∷ ws) (suc k) h = free_at ws k (unbound (bound (op_of w)) (free ws) h).1
