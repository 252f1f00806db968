-- SAT over a step and over a run.
-- Assumes nothing.
use Prim.Native.Nat.{ℕ, zero, suc}
use mathlib.Core.Path.{◌≡◌, refl, sym, ap, ◌∙◌}
use mathlib.Core.Bool.{Bool, true, false, true≢false, false≢true, ◌||◌}
use mathlib.Core.List.{List}
use native.Mathlib.Omega.{arith}
use lib.ListN.{length}
use lib.Dec.{eqb, leb, ltb}
use Rattle.encodings.specs.Bits.{pick}
use Rattle.decode.specs.declared.Decoded.{Decoded}
use Rattle.encodings.specs.declared.ops.Op.{Op}
use Rattle.encodings.specs.declared.ops.Op.TheVariants.{ToStatus}
use Rattle.decode.specs.Traits.{can_clip}
use Rattle.control.specs.declared.answers.Answer.{Answer}
use Rattle.control.specs.declared.answers.Answer.TheVariants.{Done, Spent, Misplaced, LongCode, BadStart, NoInstruction, Reserved}
use Rattle.std.specs.Prelude.{Option, Some, None, Result, Ok, Err, is_err}
use Rattle.std.specs.Option.{option_map_or}
use Rattle.control.specs.declared.kinds.Kind.{Kind}
use Rattle.control.specs.declared.kinds.Kind.TheVariants.{Vector, GetStatus, PutStatus, LeftPattern, RightPattern, GetElement, GetLine, PutElement, PutLine, AddScalar}
use Rattle.control.specs.declared.orders.Order.{Order}
use Rattle.control.specs.declared.orders.Order.TheVariants.{SetGeneral, Compute, ReadStatus, WriteStatus, PatternLeft, PatternRight, ReadLine, WriteLine, ReadElement, WriteElement}
use Rattle.control.specs.Addresses.{address_of, sum_of, aligned, item_of, well_placed}
use Rattle.lanes.specs.Numbers.{bytes_in}
use Rattle.control.specs.Kinds.{kind_of}
use Rattle.control.specs.Orders.{reached, element, order_in, order_of}
use Rattle.flags.specs.Flags.{from_status}
use Rattle.effects.specs.Effects.{Held, held_of, register, computed_of, effect_of}
use Rattle.machine.specs.declared.Machine.{Machine}
use Rattle.machine.specs.Runs.{State, Out, flags_in, starts, stops, word_at, order_at, went, runs, run_of}
use Rattle.laws.specs.Steps.{next_at, marks_of, marks_in, sets_status}
use Rattle.laws.specs.Sat.{bit127, NoStatus}
use Rattle.laws.proofs.Steps.{order, word, after, held, ways, effect_sat, step_sat}
use Rattle.laws.proofs.Told.{setting, status_kind, not_set}
use Rattle.laws.proofs.Unmarked.{unmarked}

-- what is carried out is not refused
is_ok_only : {a : Answer} {o : Order} → Err a ≡ Ok o → ⊥
is_ok_only h = true≢false (ap is_err h)

-- whether a word is carried out that sets the status
abbrev sets : Result Order Answer → Bool
sets (Ok o) = sets_status o
sets (Err a) = false

-- what is reached in memory sets no status
reached_status : (i : Option ℕ) (f : ℕ → Order) → ((k : ℕ) → sets_status (f k) ≡ false) → sets (reached i f) ≡ false
reached_status (Some k) f h = h k
reached_status None f h = refl

-- an order sets the status exactly where its kind does
kind_status : (k : Kind) (o : Op) (x s base len : ℕ) → sets (order_in k o x s base len) ≡ setting k
kind_status Vector o x s base len = refl
kind_status GetStatus o x s base len = refl
kind_status PutStatus o x s base len = refl
kind_status LeftPattern o x s base len = refl
kind_status RightPattern o x s base len = refl
kind_status (GetElement w) o x s base len = reached_status (item_of (aligned (bytes_in w) x) base len) (λ k. ReadElement (element (aligned (bytes_in w) x) (bytes_in w) k)) (λ k. refl)
kind_status GetLine o x s base len = reached_status (item_of (aligned 16 x) base len) ReadLine (λ k. refl)
kind_status (PutElement w) o x s base len = reached_status (item_of (aligned (bytes_in w) x) base len) (λ k. WriteElement (element (aligned (bytes_in w) x) (bytes_in w) k)) (λ k. refl)
kind_status PutLine o x s base len = reached_status (item_of (aligned 16 x) base len) WriteLine (λ k. refl)
kind_status AddScalar o x s base len = refl

-- an order that computes nothing, or whose operation cannot clip, marks no lane, whatever its word
pub marks_none : (o : Order) (w : Decoded) (h : Held) → ((op : Op) → o ≡ Compute op → can_clip op ≡ false) → marks_of o w h ≡ 0
unfolding computed_of
marks_none (SetGeneral x) w h n = refl
marks_none (Compute op) w h n = unmarked op (register h.v w.a) (register h.v w.b) (register h.v w.c) w.a w.count (n op refl)
marks_none ReadStatus w h n = refl
marks_none WriteStatus w h n = refl
marks_none (PatternLeft s) w h n = refl
marks_none (PatternRight s) w h n = refl
marks_none (ReadLine at) w h n = refl
marks_none (WriteLine at) w h n = refl
marks_none (ReadElement x) w h n = refl
marks_none (WriteElement x) w h n = refl

module _ (w : Decoded) (g : List ℕ) (base len : ℕ) where
  -- the order of an operation, by whether a reserved bit is set
  abbrev ordered : Bool → Op → Result Order Answer
  ordered c o = pick c (Err Reserved) (order_in (kind_of o) o (address_of g w.a w.b) (sum_of g w.a w.imm) base len)

  -- a word that sets the status is mtvscr, and mtvscr sets it unless it is refused
  only_status : sets (order_of w g base len) ≡ true → w.op ≡ Some ToStatus
  unfolding order_of
  only_status = cases w.op refl w.stray
    where
      cases : (p : Option Op) → w.op ≡ p → (c : Bool) → sets (option_map_or (ordered c) p (Err NoInstruction)) ≡ true → w.op ≡ Some ToStatus
      cases None e c h = absurd (false≢true h)
      cases (Some o) e true h = absurd (false≢true h)
      cases (Some o) e false h = e ∙ ap Some (status_kind o (sym (kind_status (kind_of o) o (address_of g w.a w.b) (sum_of g w.a w.imm) base len) ∙ h))

  sets_status_lem : w.op ≡ Some ToStatus → (o : Order) → order_of w g base len ≡ Ok o → sets_status o ≡ true
  unfolding order_of
  sets_status_lem e o = rw e (cases w.stray)
    where
      cases : (c : Bool) → ordered c ToStatus ≡ Ok o → sets_status o ≡ true
      cases true h = absurd (is_ok_only h)
      cases false h = sym (ap sets h)

  -- nor does a word whose instruction cannot clip
  pub marks_none_of_word : (h : Held) (op : Op) → w.op ≡ Some op → can_clip op ≡ false → marks_in (order_of w g base len) w h ≡ 0
  unfolding order_of
  marks_none_of_word h op e n = cases w.op e w.stray
    where
      reached_none : (i : Option ℕ) (f : ℕ → Order) → ((k : ℕ) → marks_of (f k) w h ≡ 0) → marks_in (reached i f) w h ≡ 0
      reached_none (Some k) f z = z k
      reached_none None f z = refl

      kinds : (k : Kind) (o : Op) (x s : ℕ) → can_clip o ≡ false → marks_in (order_in k o x s base len) w h ≡ 0
      kinds Vector o x s z = marks_none (Compute o) w h (λ p e. cc)
      kinds GetStatus o x s n = refl
      kinds PutStatus o x s n = refl
      kinds LeftPattern o x s n = refl
      kinds RightPattern o x s n = refl
      kinds (GetElement z) o x s c = reached_none (item_of (aligned (bytes_in z) x) base len) (λ k. ReadElement (element (aligned (bytes_in z) x) (bytes_in z) k)) (λ k. refl)
      kinds GetLine o x s n = reached_none (item_of (aligned 16 x) base len) ReadLine (λ k. refl)
      kinds (PutElement z) o x s c = reached_none (item_of (aligned (bytes_in z) x) base len) (λ k. WriteElement (element (aligned (bytes_in z) x) (bytes_in z) k)) (λ k. refl)
      kinds PutLine o x s n = reached_none (item_of (aligned 16 x) base len) WriteLine (λ k. refl)
      kinds AddScalar o x s n = refl

      cases : (p : Option Op) → p ≡ Some op → (c : Bool) → marks_in (option_map_or (ordered c) p (Err NoInstruction)) w h ≡ 0
      cases None q c = refl
      cases (Some o) q true = refl
      cases (Some o) q false = kinds (kind_of o) o (address_of g w.a w.b) (sum_of g w.a w.imm) (ap (λ (x : Option Op). option_map_or can_clip x false) q ∙ n)

-- mtvscr's order gives bit 127
effect_status : (o : Order) (w : Decoded) (h : Held) → sets_status o ≡ true → (effect_of o w h).flags.sat ≡ bit127 (register h.v w.b)
unfolding from_status
effect_status (SetGeneral x) w h e = absurd (false≢true e)
effect_status (Compute op) w h e = absurd (false≢true e)
effect_status ReadStatus w h e = absurd (false≢true e)
effect_status WriteStatus w h e = refl
effect_status (PatternLeft s) w h e = absurd (false≢true e)
effect_status (PatternRight s) w h e = absurd (false≢true e)
effect_status (ReadLine at) w h e = absurd (false≢true e)
effect_status (WriteLine at) w h e = absurd (false≢true e)
effect_status (ReadElement x) w h e = absurd (false≢true e)
effect_status (WriteElement x) w h e = absurd (false≢true e)

-- an order that is not mtvscr's leaves SAT on
stays_on : (o : Order) (w : Decoded) (h : Held) → sets_status o ≡ false → h.flags.sat ≡ true → (effect_of o w h).flags.sat ≡ true
stays_on o w h e on = effect_sat o w h e ∙ ap (λ (b : Bool). b || ltb 0 (marks_of o w h)) on

-- a step: its order t for the word w, and what data works on
module _ (code mem : List ℕ) (base place : ℕ) (m : Machine) where
  abbrev t : Result Order Answer
  t = order code mem base place m

  abbrev w : Decoded
  w = word code mem base place m

  abbrev h : Held
  h = held code mem base place m

  -- SAT after a completed mtvscr is bit 127 of B
  pub mtvscr_sat : (run_of code mem base place 1 m).count ≡ 1 → w.op ≡ Some ToStatus → (run_of code mem base place 1 m).m.sat ≡ bit127 (register m.v w.b)
  unfolding order_at
  mtvscr_sat c e =
      ways code mem base place m (λ (o : Out). o.count ≡ 1 → o.m.sat ≡ bit127 (register m.v w.b))
      (λ a n. absurd (omega arith))
      (λ o r a n. effect_status o w h (sets_status_lem w m.g base (length mem) e o r))
      c

  -- an order that is not mtvscr's sets no status
  keeps : (w.op ≡ Some ToStatus → ⊥) → (o : Order) → t ≡ Ok o → sets_status o ≡ false
  unfolding order_at
  keeps e o r = not_set (sets_status o) (λ s. e (only_status w m.g base (length mem) (ap sets r ∙ s)))

  -- SAT after any other completed word: on exactly if it was on or a lane was clipped; and only the twenty-seven clip a lane (`marks_none`)
  pub other_sat : (run_of code mem base place 1 m).count ≡ 1 → (w.op ≡ Some ToStatus → ⊥) → (run_of code mem base place 1 m).m.sat ≡ (m.sat || ltb 0 (marks_in t w h))
  other_sat c e = step_sat code mem base place m c (keeps e)

  -- a step turns SAT off only if its word is mtvscr and wrote a zero
  pub turned_off : m.sat ≡ true → (run_of code mem base place 1 m).m.sat ≡ false → (w.op ≡ Some ToStatus) × (bit127 (register m.v w.b) ≡ false)
  unfolding order_at
  turned_off on =
      ways code mem base place m (λ (o : Out). o.m.sat ≡ false → (w.op ≡ Some ToStatus) × (bit127 (register m.v w.b) ≡ false))
      (λ a off. absurd (true≢false (sym on ∙ off)))
      (λ o r a. cases o r (sets_status o) refl)
    where
      cases : (o : Order) → t ≡ Ok o → (b : Bool) → sets_status o ≡ b → (after code mem base place m o).m.sat ≡ false → (w.op ≡ Some ToStatus) × (bit127 (register m.v w.b) ≡ false)
      cases o r true s off = (only_status w m.g base (length mem) (ap sets r ∙ s), sym (effect_status o w h s) ∙ off)
      cases o r false s off = absurd (true≢false (sym (stays_on o w h s on) ∙ off))

-- an outcome with SAT on
record On (o : Out) : Type 0 where
  on : o.m.sat ≡ true

picked : (b : Bool) {x y : Out} → On x → On y → On (pick b x y)
picked true e f = e
picked false e f = f

stop : (a : Answer) (s : State) → s.m.sat ≡ true → On (stops a s)
stop a s e = record { on = e }

-- over a run: once on and with no mtvscr in the code, SAT is on at the end
module _ (code : List ℕ) (base : ℕ) (none : NoStatus code) where
  next_on : (s : State) (o : Order) → order_at code base s ≡ Ok o → s.m.sat ≡ true → (next_at code s o).m.sat ≡ true
  unfolding order_at
  next_on s o r e =
      stays_on o (word_at code s) (held_of s.m.v (flags_in s.m) s.mem)
      (not_set (sets_status o) (λ h. none s.place (only_status (word_at code s) s.m.g base (length s.mem) (ap sets r ∙ h)))) e

  runs_on : (n : ℕ) (s : State) → s.m.sat ≡ true → On (runs code base n s)
  unfolding runs
  runs_on zero s e = picked (eqb s.place (length code)) (stop Done s e) (stop Spent s e)
  runs_on (suc n) s e =
      picked (eqb s.place (length code)) (stop Done s e) (cases (order_at code base s) refl (λ o r. runs_on n (next_at code s o) (next_on s o r e)))
    where
      cases : (r : Result Order Answer) → order_at code base s ≡ r → ((o : Order) → order_at code base s ≡ Ok o → On (runs code base n (next_at code s o)))
          → On (went r s (λ (o : Order). runs code base n (next_at code s o)))
      cases (Err a) q ih = stop a s e
      cases (Ok o) q ih = ih o q

  pub run_sat : (mem : List ℕ) (place allowance : ℕ) (m : Machine) → m.sat ≡ true → (run_of code mem base place allowance m).m.sat ≡ true
  unfolding run_of
  run_sat mem place allowance m e =
      let s = starts place m mem in
      (picked (well_placed base (length mem))
      (picked (leb (length code) 16384)
      (picked (leb place (length code)) (runs_on allowance s e)
      (stop BadStart s e)) (stop LongCode s e)) (stop Misplaced s e)).on
