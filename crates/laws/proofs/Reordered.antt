-- THE REORDERING LAW, demand 3: code with no position-bound instruction does not see the order of the words.
-- Assumes nothing.
use Prim.Native.Nat.{ℕ, zero, suc, ◌*◌, ◌<◌}
use mathlib.Core.Path.{◌≡◌, refl, sym, ap, subst, ◌∙◌}
use mathlib.Core.Bool.{Bool, true, false}
use mathlib.Core.List.{List}
use native.Mathlib.Omega.{arith}
use lib.ListN.{length, get_or}
use lib.Dec.{eqb, leb}
use Rattle.encodings.specs.Bits.{pick}
use Rattle.decode.specs.declared.Decoded.{Decoded}
use Rattle.std.specs.Prelude.{Result, Ok, Err}
use Rattle.encodings.specs.declared.ops.Op.{Op}
use Rattle.decode.specs.Traits.{position_bound}
use Rattle.lanes.specs.declared.Marked.{Marked}
use Rattle.lanes.specs.Order as lanes
use Rattle.lines.specs.Lines.{sixteen, put}
use Rattle.lines.proofs.Parts.{part_long, put_long}
use Rattle.control.specs.declared.answers.Answer.{Answer}
use Rattle.control.specs.declared.answers.Answer.TheVariants.{Done, Spent, Misplaced, LongCode, BadStart}
use Rattle.control.specs.declared.orders.Order.{Order}
use Rattle.control.specs.declared.orders.Order.TheVariants.{SetGeneral, Compute, ReadStatus, WriteStatus, PatternLeft, PatternRight, ReadLine, WriteLine, ReadElement, WriteElement}
use Rattle.control.specs.Addresses.{well_placed}
use Rattle.control.specs.Orders.{InFields, Reaches}
use Rattle.control.proofs.Fields.{decoded}
use Rattle.control.proofs.Within.{reaches_ok}
use Rattle.flags.specs.Flags.{marked_of, recorded_of}
use Rattle.effects.specs.Effects.{Held, held_of, register, computed_of, flags_after, effect_of}
use Rattle.machine.specs.declared.Machine.{Machine}
use Rattle.machine.specs.Runs.{State, Out, flags_in, starts, stops, word_at, order_at, next, went, runs, run_of}
use Rattle.laws.specs.Steps.{next_at}
use Rattle.laws.specs.Reorder.{reordered_lines, reordered_machine, reordered_out, free, Whole}
use Rattle.laws.proofs.Kept.{next_long}
use Rattle.laws.proofs.Bytes.{part_bytes, put-bytes}
use Rattle.laws.proofs.ReorderedLines.{lines_long, lines_sixteen, lines_put}
use Rattle.laws.proofs.ReorderedOperations.{Alike, computed_alike, summary_alike}
use Rattle.laws.proofs.ReorderedOrders.{Unseen, UnseenIn, order_unseen, free_at}

-- what data works on, reordered; and where a run stands
abbrev reordered_held : (ℕ → ℕ) → Held → Held
reordered_held p h = held_of (reordered_lines p h.v) h.flags (reordered_lines p h.mem)

abbrev reordered_state : (ℕ → ℕ) → State → State
reordered_state p s = record { count = s.count; place = s.place; m = reordered_machine p s.m; mem = reordered_lines p s.mem }

module _ (p : ℕ → ℕ) (o : lanes.Order p) where
  -- an order on what is reordered
  module _ (h : Held) (k : Whole h.v h.mem) (w : Decoded) (f : InFields w) where
    read : (r : ℕ) → r < 32 → register (reordered_lines p h.v) r ≡ lanes.reordered p (register h.v r)
    read r l = lines_sixteen p h.v (16 * r) (omega arith) (omega (arith, k.wide))

    register_long : (r : ℕ) → r < 32 → length (register h.v r) ≡ 16
    register_long r l = part_long h.v (16 * r) 16 (omega (arith, k.wide))

    register-bytes : (r : ℕ) → lanes.Bytes (register h.v r)
    register-bytes r = part_bytes h.v (16 * r) 16 k.vectors

    written : (x : List ℕ) → length x ≡ 16 → put (reordered_lines p h.v) (16 * w.d) (lanes.reordered p x) ≡ reordered_lines p (put h.v (16 * w.d) x)
    written x e = lines_put p h.v x (16 * w.d) (omega (arith, f.d)) (omega (arith, f.d, k.wide)) e

    kept : (x : List ℕ) → lanes.Bytes x → Whole (put h.v (16 * w.d) x) h.mem
    kept x b = record { wide = put_long h.v (16 * w.d) x ∙ k.wide; vectors = put-bytes x h.v (16 * w.d) k.vectors b; memory = k.memory }

    result : (op : Op) → position_bound op ≡ false → Alike p (computed_of op w h.v) (computed_of op w (reordered_lines p h.v))
    unfolding computed_of
    result op e =
        rw (read w.a f.a, read w.b f.b, read w.c f.c)
        (computed_alike p o (register h.v w.a) (register h.v w.b) (register h.v w.c) (register_long w.a f.a)
        (register-bytes w.a) (register-bytes w.b) (register-bytes w.c) op w.a w.count e (omega (arith, f.a)))

    flags_alike : (op : Op) (x y : Marked) → Alike p x y → flags_after op w y h.flags ≡ flags_after op w x h.flags
    unfolding flags_after marked_of recorded_of
    flags_alike op x y a = rw (a.clipped, a.bytes, summary_alike p o x.bytes a.small)

    effect_reordered : (t : Order) → Unseen t → Reaches t (length h.mem) → effect_of t w (reordered_held p h) ≡ reordered_held p (effect_of t w h)
    effect_reordered (SetGeneral x) u r = refl
    effect_reordered (Compute op) u r =
        let a = result op u in
        rw (flags_alike op _ _ a, a.bytes, written _ a.long)
    effect_reordered ReadStatus u r = absurd u
    effect_reordered WriteStatus u r = absurd u
    effect_reordered (PatternLeft s) u r = absurd u
    effect_reordered (PatternRight s) u r = absurd u
    effect_reordered (ReadLine at) u r =
        rw (lines_sixteen p h.mem at r.starts r.ends, written (sixteen h.mem at) (part_long h.mem at 16 r.ends))
    effect_reordered (WriteLine at) u r =
        rw (read w.d f.d, lines_put p h.mem (register h.v w.d) at r.starts r.ends (register_long w.d f.d))
    effect_reordered (ReadElement e) u r = absurd u
    effect_reordered (WriteElement e) u r = absurd u

    effect_whole : (t : Order) → Unseen t → Whole (effect_of t w h).v (effect_of t w h).mem
    effect_whole (SetGeneral x) u = k
    effect_whole (Compute op) u = kept (computed_of op w h.v).bytes (result op u).small
    effect_whole ReadStatus u = absurd u
    effect_whole WriteStatus u = absurd u
    effect_whole (PatternLeft s) u = absurd u
    effect_whole (PatternRight s) u = absurd u
    effect_whole (ReadLine at) u = kept (sixteen h.mem at) (part_bytes h.mem at 16 k.memory)
    effect_whole (WriteLine at) u =
        record { wide = k.wide; vectors = k.vectors; memory = put-bytes (register h.v w.d) h.mem at k.memory (register-bytes w.d) }
    effect_whole (ReadElement e) u = absurd u
    effect_whole (WriteElement e) u = absurd u

-- the second outcome is the first reordered
record Follows (p : ℕ → ℕ) (x y : Out) : Type 0 where
  same : y ≡ reordered_out p x

stop : (p : ℕ → ℕ) (a : Answer) (s : State) → Follows p (stops a s) (stops a (reordered_state p s))
stop p a s = record { same = refl }

picked₂ : {p : ℕ → ℕ} (b : Bool) {x y x' y' : Out} → Follows p x x' → Follows p y y' → Follows p (pick b x y) (pick b x' y')
picked₂ true e f = e
picked₂ false e f = f

module _ (p : ℕ → ℕ) (o : lanes.Order p) where
  module _ (code : List ℕ) (base : ℕ) (unseen : free code ≡ true) where
    order_reordered : (s : State) → order_at code base (reordered_state p s) ≡ order_at code base s
    unfolding order_at
    order_reordered s = rw (lines_long p s.mem)

    -- a word that is carried out, and its order t
    module _ (s : State) (k : Whole s.m.v s.mem) (t : Order) (e : order_at code base s ≡ Ok t) where
      abbrev w : Decoded
      w = word_at code s

      abbrev h : Held
      h = held_of s.m.v (flags_in s.m) s.mem

      unseen_order : Unseen t
      unfolding order_at
      unseen_order = subst UnseenIn e (order_unseen w s.m.g base (length s.mem) (free_at code s.place unseen))

      reached_order : well_placed base (length s.mem) ≡ true → Reaches t (length s.mem)
      unfolding order_at
      reached_order q = reaches_ok w s.m.g base (length s.mem) t q (sym e)

      next_reordered : well_placed base (length s.mem) ≡ true → next t w (reordered_state p s) ≡ reordered_state p (next_at code s t)
      next_reordered q = rw (effect_reordered p o h k w (decoded (get_or code s.place 0)) t unseen_order (reached_order q))

      next_whole : Whole (next_at code s t).m.v (next_at code s t).mem
      next_whole = effect_whole p o h k w (decoded (get_or code s.place 0)) t unseen_order

    runs_reordered : (n : ℕ) (s : State) → Whole s.m.v s.mem → well_placed base (length s.mem) ≡ true
        → Follows p (runs code base n s) (runs code base n (reordered_state p s))
    unfolding runs
    runs_reordered zero s k q = picked₂ (eqb s.place (length code)) (stop p Done s) (stop p Spent s)
    runs_reordered (suc n) s k q =
        rw (order_reordered s)
        (picked₂ (eqb s.place (length code)) (stop p Done s)
        (cases (order_at code base s) refl (λ t e.
        let l : well_placed base (length (next_at code s t).mem) ≡ true = ap (well_placed base) (next_long t (word_at code s) s) ∙ q in
        rw (next_reordered s k t e q) (runs_reordered n (next_at code s t) (next_whole s k t e) l))))
      where
        cases : (r : Result Order Answer) → order_at code base s ≡ r
            → ((t : Order) → order_at code base s ≡ Ok t → Follows p (runs code base n (next_at code s t)) (runs code base n (next_at code (reordered_state p s) t)))
            → Follows p (went r s (λ (t : Order). runs code base n (next_at code s t))) (went r (reordered_state p s) (λ (t : Order). runs code base n (next_at code (reordered_state p s) t)))
        cases (Err a) e ih = stop p a s
        cases (Ok t) e ih = ih t e

  -- the run from the reordered machine and memory ends as the run, reordered: for every base, place and allowance, refusals included
  pub reordered_run : (code mem : List ℕ) (base place allowance : ℕ) (m : Machine) → free code ≡ true → Whole m.v mem
      → run_of code (reordered_lines p mem) base place allowance (reordered_machine p m) ≡ reordered_out p (run_of code mem base place allowance m)
  unfolding run_of
  reordered_run code mem base place allowance m f k = rw (lines_long p mem) (cases (well_placed base (length mem)) refl).same
    where
      s : State
      s = starts place m mem

      cases : (b : Bool) → well_placed base (length mem) ≡ b
          → Follows p (pick b (pick (leb (length code) 16384) (pick (leb place (length code)) (runs code base allowance s) (stops BadStart s)) (stops LongCode s)) (stops Misplaced s))
          (pick b (pick (leb (length code) 16384) (pick (leb place (length code)) (runs code base allowance (reordered_state p s))
          (stops BadStart (reordered_state p s))) (stops LongCode (reordered_state p s))) (stops Misplaced (reordered_state p s)))
      cases true e =
          picked₂ (leb (length code) 16384)
          (picked₂ (leb place (length code)) (runs_reordered code base f allowance s k e) (stop p BadStart s)) (stop p LongCode s)
      cases false e = stop p Misplaced s
