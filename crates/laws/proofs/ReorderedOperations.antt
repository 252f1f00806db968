-- What a word-wise instruction gives of reordered vectors is what it gives, reordered; whether a lane was clipped, and what CR6 says, stay.
-- Assumes nothing.
use Prim.Native.Nat.{ℕ, zero, suc, ◌+◌, ◌-◌, ◌*◌, ◌/◌, ◌%◌, ◌^◌, ◌<◌}
use mathlib.Core.Path.{◌≡◌, refl, sym, subst, ◌∙◌}
use mathlib.Core.Bool.{Bool, true, false, ◌&&◌, true≢false, false≢true}
use mathlib.Core.List.{List}
use mathlib.Core.Logic.{◌↔◌}
use native.Mathlib.Omega.{arith}
use lib.ListN.{length}
use lib.Dec.{eqb, ltb}
use borrow.Author.Tests.{lt-ltb}
use Rattle.lanes.specs.declared.Size.{Size}
use Rattle.encodings.specs.declared.ops.Sign.{Sign}
use Rattle.encodings.specs.declared.ops.Sign.TheVariants.{Unsigned, Signed}
use Rattle.encodings.specs.declared.ops.Op.{Op}
use Rattle.encodings.specs.declared.ops.Op.TheVariants.{AddMod, AddCarry, AddSat, SubMod, SubCarry, SubSat, Max, Min, Average, Rotate, ShiftLeft, ShiftRight, ShiftAlgebraic, ShiftWholeLeft, ShiftWholeRight, ShiftBytesLeft, ShiftBytesRight, And, AndNot, Or, Xor, Nor, FromStatus, ToStatus, MulOdd, MulEven, SumQuarter, SumHalf, SumAll, MergeHigh, MergeLow, Splat, SplatImmediate, PackMod, PackSat, UnpackHigh, UnpackLow, CompareEqual, CompareGreater, MulHighAdd, MulHighRoundAdd, MulLowAdd, MulSum, MulSumMixed, MulSumSat, Select, Permute, ShiftPair, LoadShiftLeft, LoadShiftRight, LoadElement, LoadLine, StoreElement, StoreLine, AddImmediate}
use Rattle.decode.specs.Traits.{position_bound}
use Rattle.lanes.specs.declared.Marked.{Marked}
use Rattle.lanes.specs.declared.Op as lane_op
use Rattle.lanes.specs.declared.Op.TheVariants as lane
use Rattle.lanes.specs.declared.Size.TheVariants.{Byte, Half, Word}
use Rattle.lanes.specs.Words.{word_from, bytes_of, joined}
use Rattle.lanes.specs.Operations.{lanes_in, word_op, applied}
use Rattle.lanes.specs.Order.{Bytes, Order, reordered}
use Rattle.lanes.specs.Summary.{all_are}
use Rattle.lanes.proofs.Reorder.{four, word_of, word_lt, reordered-bytes}
use Rattle.lanes.proofs.Unclipped as clip
use Rattle.lanes.proofs.Applied.{word_small}
use Rattle.vector.specs.Copies.{copies}
use Rattle.compute.specs.Families.{by_sign, unclipped, products, quarter_sums, product_sums}
use Rattle.compute.specs.Computed.{computed}
use Rattle.flags.specs.Flags.{summary_of}
use Rattle.laws.proofs.Bytes.{copies-bytes, applied-bytes}

-- the second result is the first reordered, and a lane of it was clipped where one of the first was
pub record Alike (p : ℕ → ℕ) (x y : Marked) : Type 0 where
  pub long : length x.bytes ≡ 16
  pub small : Bytes x.bytes
  pub bytes : y.bytes ≡ reordered p x.bytes
  pub clipped : ltb 0 y.marks ≡ ltb 0 x.marks

both : (a b : ℕ) → (a ≡ 0 ↔ b ≡ 0) → ltb 0 b ≡ ltb 0 a
both zero zero e = refl
both zero (suc b) e = absurd (omega (arith, e.0 refl))
both (suc a) zero e = absurd (omega (arith, e.1 refl))
both (suc a) (suc b) e = lt-ltb 0 (suc b) (omega arith) ∙ sym (lt-ltb 0 (suc a) (omega arith))

-- a test of four places
abbrev all : (ℕ → Bool) → Bool
all t = t 0 && t 1 && t 2 && t 3

parts : (a b : Bool) → (a && b) ≡ true → (a ≡ true) × (b ≡ true)
parts true b h = (refl, h)
parts false b h = absurd (false≢true h)

all_out : (t : ℕ → Bool) → all t ≡ true → (j : ℕ) → j < 4 → t j ≡ true
all_out t e =
    let q = parts (t 0 && t 1 && t 2) (t 3) e in
    let r = parts (t 0 && t 1) (t 2) q.0 in
    let s = parts (t 0) (t 1) r.0 in
    four (λ j. t j ≡ true) s.0 s.1 r.1 q.1

all_in : (t : ℕ → Bool) → ((j : ℕ) → j < 4 → t j ≡ true) → all t ≡ true
all_in t h = rw (h 0 (omega arith), h 1 (omega arith), h 2 (omega arith), h 3 (omega arith))

same : (a b : Bool) → (a ≡ true → b ≡ true) → (b ≡ true → a ≡ true) → a ≡ b
same true b f g = sym (f refl)
same false true f g = g refl
same false false f g = refl

-- four bytes that are the same, as a word and back
abbrev word : ℕ → ℕ
word i = i * 2 ^ 24 + i * 2 ^ 16 + i * 2 ^ 8 + i

low : (i k n : ℕ) → i < 256 → n ≡ k * 256 + i → n % 256 ≡ i
low i k n h e = omega arith

module _ (i : ℕ) (h : i < 256) where
  copy_0 : word i / 2 ^ 24 ≡ i
  copy_0 = omega arith

  copy_1 : word i / 2 ^ 16 % 256 ≡ i
  copy_1 = low i i (word i / 2 ^ 16) h (omega arith)

  copy_2 : word i / 2 ^ 8 % 256 ≡ i
  copy_2 = low i (i * 2 ^ 8 + i) (word i / 2 ^ 8) h (omega arith)

  copy_3 : word i % 256 ≡ i
  copy_3 = low i (i * 2 ^ 16 + i * 2 ^ 8 + i) (word i) h (omega arith)

module _ (p : ℕ → ℕ) (o : Order p) where
  -- for every operation at every width
  applied_alike : (s : Size) (f : lane_op.Op) (a b c : List ℕ) → Bytes a → Bytes b → Bytes c
      → Alike p (applied s f a b c) (applied s f (reordered p a) (reordered p b) (reordered p c))
  unfolding joined bytes_of
  applied_alike s f a b c ha hb hc = record {
    long = long;
    small = applied-bytes s f a b c;
    bytes = reordered-bytes (lanes_in s) (word_op s f) p a b c ha hb hc o (word_small s f);
    clipped = both _ _ (clip.unclipped (lanes_in s) (word_op s f) p o a b c ha hb hc);
  }
    where
      long : length (applied s f a b c).bytes ≡ 16
      long = refl

  -- a vector as it is
  as_it_is : (a : List ℕ) → length a ≡ 16 → Bytes a → Alike p (unclipped a) (unclipped (reordered p a))
  as_it_is a l h = record { long = l; small = h; bytes = refl; clipped = refl }

  -- sixteen bytes that are the same have no order
  copies_same : (i : ℕ) → i < 256 → reordered p (copies i) ≡ copies i
  unfolding bytes_of word_from
  copies_same i h =
      let e0 = at (p 0) (o.into 0 (omega arith)) in
      let e1 = at (p 1) (o.into 1 (omega arith)) in
      let e2 = at (p 2) (o.into 2 (omega arith)) in
      let e3 = at (p 3) (o.into 3 (omega arith)) in
      rw (e0, e1, e2, e3, copy_0 i h, copy_1 i h, copy_2 i h, copy_3 i h)
    where
      at : (j : ℕ) → j < 4 → word_from (copies i) (4 * j) ≡ word i
      at = four (λ j. word_from (copies i) (4 * j) ≡ word i) refl refl refl refl

  copied : (s : Size) (i : ℕ) → i < 256
      → Alike p (applied s lane.SplatImmediate (copies i) (copies i) (copies i)) (applied s lane.SplatImmediate (copies i) (copies i) (copies i))
  copied s i h =
      subst (λ (x : List ℕ). Alike p (applied s lane.SplatImmediate (copies i) (copies i) (copies i)) (applied s lane.SplatImmediate x x x)) (copies_same i h)
      (applied_alike s lane.SplatImmediate (copies i) (copies i) (copies i) (copies-bytes 16 i h) (copies-bytes 16 i h) (copies-bytes 16 i h))

  -- every instruction that is not position-bound, of the operands a, b and c
  module _ (a b c : List ℕ) (long : length a ≡ 16) (ha : Bytes a) (hb : Bytes b) (hc : Bytes c) where
    two : (s : Size) (f : lane_op.Op) → Alike p (applied s f a b b) (applied s f (reordered p a) (reordered p b) (reordered p b))
    two s f = applied_alike s f a b b ha hb hb

    three : (s : Size) (f : lane_op.Op) → Alike p (applied s f a b c) (applied s f (reordered p a) (reordered p b) (reordered p c))
    three s f = applied_alike s f a b c ha hb hc

    products_alike : (w : Size) (f : lane_op.Op) → Alike p (products w f a b) (products w f (reordered p a) (reordered p b))
    products_alike Byte f = two Half f
    products_alike Half f = two Word f
    products_alike Word f = as_it_is a long ha

    quarters_alike : (w : Size) (s : Sign) → Alike p (quarter_sums w s a b) (quarter_sums w s (reordered p a) (reordered p b))
    quarters_alike Byte Unsigned = two Word lane.SumBytesU
    quarters_alike Byte Signed = two Word lane.SumBytesS
    quarters_alike Half Unsigned = as_it_is a long ha
    quarters_alike Half Signed = two Word lane.SumHalvesS
    quarters_alike Word s = as_it_is a long ha

    sums_alike : (w : Size) (s : Sign) → Alike p (product_sums w s a b c) (product_sums w s (reordered p a) (reordered p b) (reordered p c))
    sums_alike Byte Unsigned = three Word lane.MulSumBytesU
    sums_alike Byte Signed = as_it_is a long ha
    sums_alike Half Unsigned = three Word lane.MulSumHalvesU
    sums_alike Half Signed = three Word lane.MulSumHalvesS
    sums_alike Word s = as_it_is a long ha

    pub computed_alike : (op : Op) (i n : ℕ) → position_bound op ≡ false → i < 256
        → Alike p (computed op a b c i n) (computed op (reordered p a) (reordered p b) (reordered p c) i n)
    unfolding computed
    computed_alike (AddMod w) i n e k = two w lane.AddModulo
    computed_alike AddCarry i n e k = two Word lane.AddCarry
    computed_alike (AddSat w s) i n e k = two w (by_sign s lane.AddSatU lane.AddSatS)
    computed_alike (SubMod w) i n e k = two w lane.SubModulo
    computed_alike SubCarry i n e k = two Word lane.SubCarry
    computed_alike (SubSat w s) i n e k = two w (by_sign s lane.SubSatU lane.SubSatS)
    computed_alike (Max w s) i n e k = two w (by_sign s lane.MaxU lane.MaxS)
    computed_alike (Min w s) i n e k = two w (by_sign s lane.MinU lane.MinS)
    computed_alike (Average w s) i n e k = two w (by_sign s lane.AvgU lane.AvgS)
    computed_alike (Rotate w) i n e k = two w lane.RotateLeft
    computed_alike (ShiftLeft w) i n e k = two w lane.ShiftLeft
    computed_alike (ShiftRight w) i n e k = two w lane.ShiftRight
    computed_alike (ShiftAlgebraic w) i n e k = two w lane.ShiftRightAlgebraic
    computed_alike ShiftWholeLeft i n e k = absurd (true≢false e)
    computed_alike ShiftWholeRight i n e k = absurd (true≢false e)
    computed_alike ShiftBytesLeft i n e k = absurd (true≢false e)
    computed_alike ShiftBytesRight i n e k = absurd (true≢false e)
    computed_alike And i n e k = two Byte lane.And
    computed_alike AndNot i n e k = two Byte lane.AndNot
    computed_alike Or i n e k = two Byte lane.Or
    computed_alike Xor i n e k = two Byte lane.Xor
    computed_alike Nor i n e k = two Byte lane.Nor
    computed_alike FromStatus i n e k = absurd (true≢false e)
    computed_alike ToStatus i n e k = absurd (true≢false e)
    computed_alike (MulOdd w s) i n e k = products_alike w (by_sign s lane.MulOddU lane.MulOddS)
    computed_alike (MulEven w s) i n e k = products_alike w (by_sign s lane.MulEvenU lane.MulEvenS)
    computed_alike (SumQuarter w s) i n e k = quarters_alike w s
    computed_alike SumHalf i n e k = absurd (true≢false e)
    computed_alike SumAll i n e k = absurd (true≢false e)
    computed_alike (MergeHigh w) i n e k = absurd (true≢false e)
    computed_alike (MergeLow w) i n e k = absurd (true≢false e)
    computed_alike (Splat w) i n e k = absurd (true≢false e)
    computed_alike (SplatImmediate w) i n e k = copied w i k
    computed_alike (PackMod w) i n e k = absurd (true≢false e)
    computed_alike (PackSat w s t) i n e k = absurd (true≢false e)
    computed_alike (UnpackHigh w) i n e k = absurd (true≢false e)
    computed_alike (UnpackLow w) i n e k = absurd (true≢false e)
    computed_alike (CompareEqual w) i n e k = two w lane.Equal
    computed_alike (CompareGreater w s) i n e k = two w (by_sign s lane.GreaterU lane.GreaterS)
    computed_alike MulHighAdd i n e k = three Half lane.MulHighAdd
    computed_alike MulHighRoundAdd i n e k = three Half lane.MulHighRoundAdd
    computed_alike MulLowAdd i n e k = three Half lane.MulLowAdd
    computed_alike (MulSum w s) i n e k = sums_alike w s
    computed_alike MulSumMixed i n e k = three Word lane.MulSumBytesMixed
    computed_alike (MulSumSat s) i n e k = three Word (by_sign s lane.MulSumHalvesSatU lane.MulSumHalvesSatS)
    computed_alike Select i n e k = three Byte lane.Select
    computed_alike Permute i n e k = absurd (true≢false e)
    computed_alike ShiftPair i n e k = absurd (true≢false e)
    computed_alike LoadShiftLeft i n e k = absurd (true≢false e)
    computed_alike LoadShiftRight i n e k = absurd (true≢false e)
    computed_alike (LoadElement w) i n e k = absurd (true≢false e)
    computed_alike LoadLine i n e k = as_it_is a long ha
    computed_alike (StoreElement w) i n e k = absurd (true≢false e)
    computed_alike StoreLine i n e k = as_it_is a long ha
    computed_alike AddImmediate i n e k = as_it_is a long ha

  -- what is said of all words
  everywhere : (t : ℕ → Bool) → all (λ j. t (p j)) ≡ all t
  everywhere t =
      same (all (λ j. t (p j))) (all t)
      (λ e. all_in t (λ k l. subst (λ (i : ℕ). t i ≡ true) (o.onto k l).2 (all_out (λ j. t (p j)) e (o.onto k l).0 (o.onto k l).1)))
      (λ e. all_in (λ j. t (p j)) (λ j l. all_out t e (p j) (o.into j l)))

  all_are_lem : (k : ℕ) (x : List ℕ) → Bytes x → all_are k (reordered p x) ≡ all_are k x
  all_are_lem k x h =
      let at = word_of (λ j. word_from x (4 * p j)) (λ j. word_lt x (4 * p j) h) in
      rw (at 0 (omega arith), at 1 (omega arith), at 2 (omega arith), at 3 (omega arith)) (everywhere (λ j. eqb (word_from x (4 * j)) k))

  pub summary_alike : (x : List ℕ) → Bytes x → summary_of (reordered p x) ≡ summary_of x
  unfolding summary_of
  summary_alike x h = rw (all_are_lem (2 ^ 32 - 1) x h, all_are_lem 0 x h)
