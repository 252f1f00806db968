-- SAT, EXACTLY: a result has no mark exactly where every exact result was in range (`no_mark`), and SAT is off after a completed word exactly
-- where mtvscr wrote a zero, or SAT was off and every exact result was in range (`sat_exactly`). Assumes nothing.
use Prim.Native.Nat.{ℕ, zero, suc, ◌*◌, ◌^◌, ◌<◌}
use mathlib.Core.Path.{◌≡◌, refl, sym, ap, subst, ◌∙◌}
use mathlib.Core.Bool.{Bool, true, false, cond, true≢false, ◌||◌}
use mathlib.Core.List.{List}
use mathlib.Core.Logic.{◌↔◌}
use native.Mathlib.Omega.{arith}
use lib.ListN.{length}
use lib.Dec.{eqb, ltb}
use lib.IntN.{◌+ℤ◌}
use borrow.Author.Tests.{ltb-false}
use Rattle.encodings.specs.Bits.{pick}
use Rattle.decode.specs.Traits.{can_clip}
use Rattle.decode.specs.declared.Decoded.{Decoded}
use Rattle.lanes.specs.declared.Size.{Size}
use Rattle.encodings.specs.declared.ops.Sign.{Sign}
use Rattle.encodings.specs.declared.ops.Sign.TheVariants.{Unsigned, Signed}
use Rattle.encodings.specs.declared.ops.Op.{Op}
use Rattle.encodings.specs.declared.ops.Op.TheVariants.{AddMod, AddCarry, AddSat, SubMod, SubCarry, SubSat, Max, Min, Average, Rotate, ShiftLeft, ShiftRight, ShiftAlgebraic, ShiftWholeLeft, ShiftWholeRight, ShiftBytesLeft, ShiftBytesRight, And, AndNot, Or, Xor, Nor, FromStatus, ToStatus, MulOdd, MulEven, SumQuarter, SumHalf, SumAll, MergeHigh, MergeLow, Splat, SplatImmediate, PackMod, PackSat, UnpackHigh, UnpackLow, CompareEqual, CompareGreater, MulHighAdd, MulHighRoundAdd, MulLowAdd, MulSum, MulSumMixed, MulSumSat, Select, Permute, ShiftPair, LoadShiftLeft, LoadShiftRight, LoadElement, LoadLine, StoreElement, StoreLine, AddImmediate}
use Rattle.lanes.specs.declared.Lane.{Lane}
use Rattle.lanes.specs.declared.Op.TheVariants as lane
use Rattle.lanes.specs.declared.Size.TheVariants.{Byte, Half, Word}
use Rattle.lanes.specs.Integer.{signed, sat_u, sat_s, plain}
use Rattle.lanes.specs.Operations.{width_of}
use Rattle.lanes.specs.Order.{Bytes}
use Rattle.packing.specs.Resized.{lane_of_both, unsigned}
use Rattle.packing.specs.Summed.{signed_word, odd_words}
use Rattle.compute.specs.Families.{by_sign, quarter_sums, packs_saturated}
use Rattle.compute.specs.Computed.{computed}
use Rattle.control.specs.declared.answers.Answer.{Answer}
use Rattle.control.specs.declared.answers.Answer.TheVariants.{NoInstruction, Reserved}
use Rattle.std.specs.Prelude.{Option, Some, None, Result, Err, is_err}
use Rattle.std.specs.Option.{option_map_or}
use Rattle.control.specs.declared.kinds.Kind.{Kind}
use Rattle.control.specs.declared.kinds.Kind.TheVariants.{Vector, GetStatus, PutStatus, LeftPattern, RightPattern, GetElement, GetLine, PutElement, PutLine, AddScalar}
use Rattle.control.specs.declared.orders.Order.{Order}
use Rattle.control.specs.declared.orders.Order.TheVariants.{ReadLine, WriteLine, ReadElement, WriteElement}
use Rattle.control.specs.Addresses.{address_of, sum_of, aligned, item_of}
use Rattle.lanes.specs.Numbers.{bytes_in}
use Rattle.control.specs.Kinds.{kind_of}
use Rattle.control.specs.Orders.{reached, element, order_in, order_for, order_of}
use Rattle.effects.specs.Effects.{Held, register, computed_of}
use Rattle.machine.specs.declared.Machine.{Machine}
use Rattle.machine.specs.Runs.{Out, run_of, order_at}
use Rattle.laws.specs.Steps.{marks_of, marks_in}
use Rattle.laws.specs.Exact.{QuarterSumsFit, PacksFit, InRange, Off}
use Rattle.laws.proofs.Bytes.{part_bytes}
use Rattle.laws.proofs.Clipped.{vector_clipped, applied_clipped}
use Rattle.laws.proofs.Told.{Told, told, setting, status_kind}
use Rattle.laws.proofs.Sat.{mtvscr_sat, other_sat}
use Rattle.laws.proofs.Steps.{order, word, held, ways}
use Rattle.laws.proofs.Unmarked.{unmarked}

module _ (a b c : List ℕ) (ha : Bytes a) (hb : Bytes b) (hc : Bytes c) where
  -- an instruction that cannot clip
  never : (op : Op) (i n : ℕ) → can_clip op ≡ false → (computed op a b c i n).marks ≡ 0 ↔ Unit {0}
  never op i n e = (λ h. tt, λ h. unmarked op a b c i n e)

  quarter : (w : Size) (s : Sign) → (quarter_sums w s a b).marks ≡ 0 ↔ QuarterSumsFit w s a b
  quarter Byte Unsigned = applied_clipped lane.SumBytesU a b b ha hb hb Word
  quarter Byte Signed = applied_clipped lane.SumBytesS a b b ha hb hb Word
  quarter Half Unsigned = (λ h. tt, λ h. refl)
  quarter Half Signed = applied_clipped lane.SumHalvesS a b b ha hb hb Word
  quarter Word s = (λ h. tt, λ h. refl)

  packs : (w : Size) (s t : Sign) → (packs_saturated w s t a b).marks ≡ 0 ↔ PacksFit w s t a b
  packs Byte s t = (λ h. tt, λ h. refl)
  packs Half Unsigned Unsigned = vector_clipped Byte (λ j. sat_u (2 ^ width_of Byte) (unsigned (2 ^ width_of Half) (lane_of_both Half a b j)))
  packs Half Unsigned Signed = (λ h. tt, λ h. refl)
  packs Half Signed Unsigned = vector_clipped Byte (λ j. sat_u (2 ^ width_of Byte) (signed (2 ^ width_of Half) (lane_of_both Half a b j)))
  packs Half Signed Signed = vector_clipped Byte (λ j. sat_s (2 ^ width_of Byte) (signed (2 ^ width_of Half) (lane_of_both Half a b j)))
  packs Word Unsigned Unsigned = vector_clipped Half (λ j. sat_u (2 ^ width_of Half) (unsigned (2 ^ width_of Word) (lane_of_both Word a b j)))
  packs Word Unsigned Signed = (λ h. tt, λ h. refl)
  packs Word Signed Unsigned = vector_clipped Half (λ j. sat_u (2 ^ width_of Half) (signed (2 ^ width_of Word) (lane_of_both Word a b j)))
  packs Word Signed Signed = vector_clipped Half (λ j. sat_s (2 ^ width_of Half) (signed (2 ^ width_of Word) (lane_of_both Word a b j)))

  -- the words 1 and 3 of a vector whose other words are zero
  odd_words_lem : (p q : Lane) → (odd_words p q).marks ≡ 0 ↔ (p.clipped ≡ false) × (q.clipped ≡ false)
  odd_words_lem p q =
      let v = vector_clipped Word (λ j. cond (eqb j 1) p (cond (eqb j 3) q (plain 0))) in
      (λ e. (v.0 e 1 (omega arith), v.0 e 3 (omega arith)), λ h. v.1 (below h))
    where
      below : (p.clipped ≡ false) × (q.clipped ≡ false) → (j : ℕ) → j < 4 → (cond (eqb j 1) p (cond (eqb j 3) q (plain 0))).clipped ≡ false
      below h zero l = refl
      below h (suc zero) l = h.0
      below h (suc (suc zero)) l = refl
      below h (suc (suc (suc zero))) l = h.1
      below h (suc (suc (suc (suc j)))) l = absurd (omega arith)

  pub no_mark : (op : Op) (i n : ℕ) → (computed op a b c i n).marks ≡ 0 ↔ InRange op a b c
  unfolding computed
  no_mark (AddMod w) i n = never (AddMod w) i n refl
  no_mark AddCarry i n = never AddCarry i n refl
  no_mark (AddSat w s) i n = applied_clipped (by_sign s lane.AddSatU lane.AddSatS) a b b ha hb hb w
  no_mark (SubMod w) i n = never (SubMod w) i n refl
  no_mark SubCarry i n = never SubCarry i n refl
  no_mark (SubSat w s) i n = applied_clipped (by_sign s lane.SubSatU lane.SubSatS) a b b ha hb hb w
  no_mark (Max w s) i n = never (Max w s) i n refl
  no_mark (Min w s) i n = never (Min w s) i n refl
  no_mark (Average w s) i n = never (Average w s) i n refl
  no_mark (Rotate w) i n = never (Rotate w) i n refl
  no_mark (ShiftLeft w) i n = never (ShiftLeft w) i n refl
  no_mark (ShiftRight w) i n = never (ShiftRight w) i n refl
  no_mark (ShiftAlgebraic w) i n = never (ShiftAlgebraic w) i n refl
  no_mark ShiftWholeLeft i n = never ShiftWholeLeft i n refl
  no_mark ShiftWholeRight i n = never ShiftWholeRight i n refl
  no_mark ShiftBytesLeft i n = never ShiftBytesLeft i n refl
  no_mark ShiftBytesRight i n = never ShiftBytesRight i n refl
  no_mark And i n = never And i n refl
  no_mark AndNot i n = never AndNot i n refl
  no_mark Or i n = never Or i n refl
  no_mark Xor i n = never Xor i n refl
  no_mark Nor i n = never Nor i n refl
  no_mark FromStatus i n = never FromStatus i n refl
  no_mark ToStatus i n = never ToStatus i n refl
  no_mark (MulOdd w s) i n = never (MulOdd w s) i n refl
  no_mark (MulEven w s) i n = never (MulEven w s) i n refl
  no_mark (SumQuarter w s) i n = quarter w s
  no_mark SumHalf i n = odd_words_lem (sat_s (2 ^ 32) (signed_word a 0 +ℤ signed_word a 1 +ℤ signed_word b 1)) (sat_s (2 ^ 32) (signed_word a 2 +ℤ signed_word a 3 +ℤ signed_word b 3))
  no_mark SumAll i n = let o = odd_words_lem (plain 0) (sat_s (2 ^ 32) (signed_word a 0 +ℤ signed_word a 1 +ℤ signed_word a 2 +ℤ signed_word a 3 +ℤ signed_word b 3)) in (λ e. (o.0 e).1, λ h. o.1 (refl, h))
  no_mark (MergeHigh w) i n = never (MergeHigh w) i n refl
  no_mark (MergeLow w) i n = never (MergeLow w) i n refl
  no_mark (Splat w) i n = never (Splat w) i n refl
  no_mark (SplatImmediate w) i n = never (SplatImmediate w) i n refl
  no_mark (PackMod w) i n = never (PackMod w) i n refl
  no_mark (PackSat w s t) i n = packs w s t
  no_mark (UnpackHigh w) i n = never (UnpackHigh w) i n refl
  no_mark (UnpackLow w) i n = never (UnpackLow w) i n refl
  no_mark (CompareEqual w) i n = never (CompareEqual w) i n refl
  no_mark (CompareGreater w s) i n = never (CompareGreater w s) i n refl
  no_mark MulHighAdd i n = applied_clipped lane.MulHighAdd a b c ha hb hc Half
  no_mark MulHighRoundAdd i n = applied_clipped lane.MulHighRoundAdd a b c ha hb hc Half
  no_mark MulLowAdd i n = never MulLowAdd i n refl
  no_mark (MulSum w s) i n = never (MulSum w s) i n refl
  no_mark MulSumMixed i n = never MulSumMixed i n refl
  no_mark (MulSumSat s) i n = applied_clipped (by_sign s lane.MulSumHalvesSatU lane.MulSumHalvesSatS) a b c ha hb hc Word
  no_mark Select i n = never Select i n refl
  no_mark Permute i n = never Permute i n refl
  no_mark ShiftPair i n = never ShiftPair i n refl
  no_mark LoadShiftLeft i n = never LoadShiftLeft i n refl
  no_mark LoadShiftRight i n = never LoadShiftRight i n refl
  no_mark (LoadElement w) i n = never (LoadElement w) i n refl
  no_mark LoadLine i n = never LoadLine i n refl
  no_mark (StoreElement w) i n = never (StoreElement w) i n refl
  no_mark StoreLine i n = never StoreLine i n refl
  no_mark AddImmediate i n = never AddImmediate i n refl

-- what is reached in memory marks nothing
reached_marks : (i : Option ℕ) (f : ℕ → Order) (w : Decoded) (h : Held) → ((k : ℕ) → marks_of (f k) w h ≡ 0) → marks_in (reached i f) w h ≡ 0
reached_marks (Some k) f w h e = e k
reached_marks None f w h e = refl

-- a word with the operation op, and what data works on
module _ (w : Decoded) (op : Op) (h : Held) (hv : Bytes h.v) where
  abbrev A : List ℕ
  A = register h.v w.a

  abbrev B : List ℕ
  B = register h.v w.b

  abbrev C : List ℕ
  C = register h.v w.c

  exact : (i n : ℕ) → (computed op A B C i n).marks ≡ 0 ↔ InRange op A B C
  exact = no_mark A B C (part_bytes h.v (16 * w.a) 16 hv) (part_bytes h.v (16 * w.b) 16 hv) (part_bytes h.v (16 * w.c) 16 hv) op

  -- an order without marks, of an instruction that cannot clip
  idle : (r : Result Order Answer) → marks_in r w h ≡ 0 → can_clip op ≡ false → marks_in r w h ≡ 0 ↔ InRange op A B C
  idle r e n = (λ z. (exact w.a w.count).0 (unmarked op A B C w.a w.count n), λ z. e)

  kind_exact : (k : Kind) (x s base len : ℕ) → Told k op → marks_in (order_in k op x s base len) w h ≡ 0 ↔ InRange op A B C
  unfolding computed_of
  kind_exact Vector x s base len n = exact w.a w.count
  kind_exact GetStatus x s base len n = idle (order_in GetStatus op x s base len) refl n
  kind_exact PutStatus x s base len n = idle (order_in PutStatus op x s base len) refl n.1
  kind_exact LeftPattern x s base len n = idle (order_in LeftPattern op x s base len) refl n
  kind_exact RightPattern x s base len n = idle (order_in RightPattern op x s base len) refl n
  kind_exact (GetElement z) x s base len n =
      idle (order_in (GetElement z) op x s base len)
      (reached_marks (item_of (aligned (bytes_in z) x) base len) (λ k. ReadElement (element (aligned (bytes_in z) x) (bytes_in z) k)) w h (λ k. refl)) n
  kind_exact GetLine x s base len n = idle (order_in GetLine op x s base len) (reached_marks (item_of (aligned 16 x) base len) ReadLine w h (λ k. refl)) n
  kind_exact (PutElement z) x s base len n =
      idle (order_in (PutElement z) op x s base len)
      (reached_marks (item_of (aligned (bytes_in z) x) base len) (λ k. WriteElement (element (aligned (bytes_in z) x) (bytes_in z) k)) w h (λ k. refl)) n
  kind_exact PutLine x s base len n = idle (order_in PutLine op x s base len) (reached_marks (item_of (aligned 16 x) base len) WriteLine w h (λ k. refl)) n
  kind_exact AddScalar x s base len n = idle (order_in AddScalar op x s base len) refl n

  -- a word that is carried out marks no lane exactly where every exact result is in range
  order_exact : (g : List ℕ) (base len : ℕ) → w.op ≡ Some op → is_err (order_of w g base len) ≡ false → marks_in (order_of w g base len) w h ≡ 0 ↔ InRange op A B C
  unfolding order_of
  order_exact g base len e = cases w.op e w.stray
    where
      ordered : Bool → Op → Result Order Answer
      ordered q o = pick q (Err Reserved) (order_in (kind_of o) o (address_of g w.a w.b) (sum_of g w.a w.imm) base len)

      cases : (p : Option Op) → p ≡ Some op → (q : Bool) → is_err (option_map_or (ordered q) p (Err NoInstruction)) ≡ false
          → marks_in (option_map_or (ordered q) p (Err NoInstruction)) w h ≡ 0 ↔ InRange op A B C
      cases None e q r = absurd (true≢false r)
      cases (Some o) e true r = absurd (true≢false r)
      cases (Some o) e false r =
          subst (λ (z : Op). marks_in (ordered false z) w h ≡ 0 ↔ InRange op A B C) (ap (λ (x : Option Op). option_map_or (λ (y : Op). y) x op) (sym e))
          (kind_exact (kind_of op) (address_of g w.a w.b) (sum_of g w.a w.imm) base len (told op))

-- a word that is not refused carries an instruction
carries : (w : Decoded) (g : List ℕ) (base len : ℕ) → is_err (order_of w g base len) ≡ false → (op : Op) × (w.op ≡ Some op)
unfolding order_of
carries w g base len = cases w.op refl
  where
    cases : (p : Option Op) → w.op ≡ p → is_err (option_map_or (order_for w g base len) p (Err NoInstruction)) ≡ false → (op : Op) × (w.op ≡ Some op)
    cases None e r = absurd (true≢false r)
    cases (Some o) e r = (o, e)

-- neither was it on nor is there a mark
off : (b : Bool) (n : ℕ) → (b || ltb 0 n) ≡ false ↔ (b ≡ false) × (n ≡ 0)
off true n = (λ e. absurd (true≢false e), λ e. absurd (true≢false e.0))
off false n = (λ e. (refl, let l = ltb-false 0 n e in omega arith), λ e. ap (ltb 0) e.1)

module _ (code mem : List ℕ) (base place : ℕ) (m : Machine) (bytes : Bytes m.v) where
  abbrev w : Decoded
  w = word code mem base place m

  -- SAT after a completed word
  pub sat_exactly : (run_of code mem base place 1 m).count ≡ 1 → (run_of code mem base place 1 m).m.sat ≡ false ↔ Off w m
  unfolding order_at
  sat_exactly c = (forth, back)
    where
      t : Result Order Answer
      t = order code mem base place m

      h : Held
      h = held code mem base place m

      carried : is_err t ≡ false
      carried = ways code mem base place m (λ (o : Out). o.count ≡ 1 → is_err t ≡ false) (λ a n. absurd (omega arith)) (λ o r a n. ap is_err r) c

      exactly : (op : Op) → w.op ≡ Some op → marks_in t w h ≡ 0 ↔ InRange op (register m.v w.a) (register m.v w.b) (register m.v w.c)
      exactly op e = order_exact w op h bytes m.g base (length mem) e carried

      -- a word of another instruction is not mtvscr
      unlike : (op : Op) → w.op ≡ Some op → (op ≡ ToStatus → ⊥) → w.op ≡ Some ToStatus → ⊥
      unlike op e n s = n (ap (λ (p : Option Op). option_map_or (λ (x : Op). x) p ToStatus) (sym e ∙ s))

      forth : (run_of code mem base place 1 m).m.sat ≡ false → Off w m
      forth f =
          record {
            written = λ e. sym (mtvscr_sat code mem base place m c e) ∙ f;
            none = λ e. let p = carries w m.g base (length mem) carried in absurd (true≢false (ap (λ (x : Option Op). option_map_or (λ (y : Op). true) x false) (sym p.1 ∙ e)));
            other = λ op e n. let s = (off m.sat (marks_in t w h)).0 (sym (other_sat code mem base place m c (unlike op e n)) ∙ f) in (s.0, (exactly op e).0 s.1);
          }

      back : Off w m → (run_of code mem base place 1 m).m.sat ≡ false
      back o = let p = carries w m.g base (length mem) carried in cases p.0 p.1 (setting (kind_of p.0)) refl
        where
          cases : (op : Op) → w.op ≡ Some op → (b : Bool) → setting (kind_of op) ≡ b → (run_of code mem base place 1 m).m.sat ≡ false
          cases op e true k = let s = e ∙ ap Some (status_kind op k) in mtvscr_sat code mem base place m c s ∙ o.written s
          cases op e false k =
              let n : op ≡ ToStatus → ⊥ = λ s. true≢false (sym (ap (λ (q : Op). setting (kind_of q)) s) ∙ k) in
              other_sat code mem base place m c (unlike op e n) ∙ (off m.sat (marks_in t w h)).1 ((o.other op e n).0, (exactly op e).1 (o.other op e n).1)
