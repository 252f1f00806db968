-- A compare looks at two operands, and leaves sixteen bytes: so register D has them, and CR6 is what they say.
-- Assumes nothing.
use Prim.Native.Nat.{ℕ, ◌+◌, ◌*◌, ◌≤◌}
use mathlib.Core.Bool.{Bool, true, false, ◌&&◌, false≢true}
use mathlib.Core.List.{List}
use mathlib.Core.Path.{◌≡◌, refl}
use native.Mathlib.Omega.{arith}
use native.Mathlib.Nat.{min-le_right}
use lib.ListN.{length, drop, length-take, length-drop}
use Rattle.decode.specs.declared.Decoded.{Decoded}
use Rattle.encodings.specs.declared.ops.Op.{Op}
use Rattle.encodings.specs.declared.ops.Op.TheVariants.{AddMod, AddCarry, AddSat, SubMod, SubCarry, SubSat, Max, Min, Average, Rotate, ShiftLeft, ShiftRight, ShiftAlgebraic, ShiftWholeLeft, ShiftWholeRight, ShiftBytesLeft, ShiftBytesRight, And, AndNot, Or, Xor, Nor, FromStatus, ToStatus, MulOdd, MulEven, SumQuarter, SumHalf, SumAll, MergeHigh, MergeLow, Splat, SplatImmediate, PackMod, PackSat, UnpackHigh, UnpackLow, CompareEqual, CompareGreater, MulHighAdd, MulHighRoundAdd, MulLowAdd, MulSum, MulSumMixed, MulSumSat, Select, Permute, ShiftPair, LoadShiftLeft, LoadShiftRight, LoadElement, LoadLine, StoreElement, StoreLine, AddImmediate}
use Rattle.lanes.specs.Words.{joined, bytes_of}
use Rattle.lines.specs.Lines.{part, sixteen, put}
use Rattle.lines.proofs.Parts.{put_long, sixteen_same}
use Rattle.compute.specs.Computed.{computed}
use Rattle.registers.specs.Registers.{Leaves}
use Rattle.flags.specs.declared.Flags.{Flags}
use Rattle.flags.specs.Flags.{compares, marked_of, recorded_of}
use Rattle.effects.specs.Effects.{register, computed_of, flags_after}

module _ (a b c d : List ℕ) (i n : ℕ) where
  compared : (op : Op) → compares op ≡ true → (computed op a b d i n ≡ computed op a b c i n) × (length (computed op a b c i n).bytes ≡ 16)
  unfolding computed joined bytes_of
  compared (AddMod w) e = absurd (false≢true e)
  compared AddCarry e = absurd (false≢true e)
  compared (AddSat w s) e = absurd (false≢true e)
  compared (SubMod w) e = absurd (false≢true e)
  compared SubCarry e = absurd (false≢true e)
  compared (SubSat w s) e = absurd (false≢true e)
  compared (Max w s) e = absurd (false≢true e)
  compared (Min w s) e = absurd (false≢true e)
  compared (Average w s) e = absurd (false≢true e)
  compared (Rotate w) e = absurd (false≢true e)
  compared (ShiftLeft w) e = absurd (false≢true e)
  compared (ShiftRight w) e = absurd (false≢true e)
  compared (ShiftAlgebraic w) e = absurd (false≢true e)
  compared ShiftWholeLeft e = absurd (false≢true e)
  compared ShiftWholeRight e = absurd (false≢true e)
  compared ShiftBytesLeft e = absurd (false≢true e)
  compared ShiftBytesRight e = absurd (false≢true e)
  compared And e = absurd (false≢true e)
  compared AndNot e = absurd (false≢true e)
  compared Or e = absurd (false≢true e)
  compared Xor e = absurd (false≢true e)
  compared Nor e = absurd (false≢true e)
  compared FromStatus e = absurd (false≢true e)
  compared ToStatus e = absurd (false≢true e)
  compared (MulOdd w s) e = absurd (false≢true e)
  compared (MulEven w s) e = absurd (false≢true e)
  compared (SumQuarter w s) e = absurd (false≢true e)
  compared SumHalf e = absurd (false≢true e)
  compared SumAll e = absurd (false≢true e)
  compared (MergeHigh w) e = absurd (false≢true e)
  compared (MergeLow w) e = absurd (false≢true e)
  compared (Splat w) e = absurd (false≢true e)
  compared (SplatImmediate w) e = absurd (false≢true e)
  compared (PackMod w) e = absurd (false≢true e)
  compared (PackSat w s t) e = absurd (false≢true e)
  compared (UnpackHigh w) e = absurd (false≢true e)
  compared (UnpackLow w) e = absurd (false≢true e)
  compared (CompareEqual w) e = (refl, refl)
  compared (CompareGreater w s) e = (refl, refl)
  compared MulHighAdd e = absurd (false≢true e)
  compared MulHighRoundAdd e = absurd (false≢true e)
  compared MulLowAdd e = absurd (false≢true e)
  compared (MulSum w s) e = absurd (false≢true e)
  compared MulSumMixed e = absurd (false≢true e)
  compared (MulSumSat s) e = absurd (false≢true e)
  compared Select e = absurd (false≢true e)
  compared Permute e = absurd (false≢true e)
  compared ShiftPair e = absurd (false≢true e)
  compared LoadShiftLeft e = absurd (false≢true e)
  compared LoadShiftRight e = absurd (false≢true e)
  compared (LoadElement w) e = absurd (false≢true e)
  compared LoadLine e = absurd (false≢true e)
  compared (StoreElement w) e = absurd (false≢true e)
  compared StoreLine e = absurd (false≢true e)
  compared AddImmediate e = absurd (false≢true e)

second : (p q : Bool) → (p && q) ≡ true → q ≡ true
second true q e = e
second false q e = absurd (false≢true e)

-- where sixteen elements are read off a list, it has them
reaches : (l : List ℕ) (o : ℕ) → length (sixteen l o) ≡ 16 → o + 16 ≤ length l
unfolding part
reaches l o e =
    let t = length-take 16 (drop o l) in
    let m = min-le_right 16 (length (drop o l)) in
    let d = length-drop o l in
    omega arith

module _ (op : Op) (w : Decoded) (v after : List ℕ) (flags r : Flags) (marks : ℕ) where
  -- an instruction that sets CR6: it is a compare
  pub left_compared : (x : List ℕ) → length x ≡ 16 → x ≡ register after w.d → (w.rc && compares op) ≡ true
      → Leaves (computed op (register v w.a) (register v w.b) (register v w.b) w.a w.count) w.d v after marks
      → r ≡ recorded_of (marked_of flags marks) true x
      → (after ≡ put v (16 * w.d) (computed_of op w v).bytes) × (r ≡ flags_after op w (computed_of op w v) flags)
  unfolding computed_of flags_after
  left_compared x long i e l h =
      let k = compared (register v w.a) (register v w.b) (register v w.c) (register v w.b) w.a w.count op (second w.rc (compares op) e) in
      let n = rw k.0 at l in
      let b : 16 * w.d + 16 ≤ length after = reaches after (16 * w.d) (rw i at long) in
      let c : length after ≡ length v = rw n.vectors (put_long v (16 * w.d) _) in
      (n.vectors, rw (h, i, n.vectors, sixteen_same v (16 * w.d) _ k.1 (omega arith), n.clipped, e))

  -- one that does not
  pub left_computed : (w.rc && compares op) ≡ false
      → Leaves (computed op (register v w.a) (register v w.b) (register v w.c) w.a w.count) w.d v after marks
      → r ≡ marked_of flags marks
      → (after ≡ put v (16 * w.d) (computed_of op w v).bytes) × (r ≡ flags_after op w (computed_of op w v) flags)
  unfolding computed_of flags_after recorded_of
  left_computed e l h = (l.vectors, rw (h, l.clipped, e))
