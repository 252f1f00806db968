-- What a run keeps: the memory's length, and a place in the code.
-- Assumes nothing.
use Prim.Native.Nat.{ℕ, zero, suc, ◌+◌, ◌≤◌}
use mathlib.Core.Path.{◌≡◌, refl, ◌∙◌}
use mathlib.Core.Bool.{Bool, true, false}
use mathlib.Core.List.{List}
use native.Mathlib.Omega.{arith}
use lib.ListN.{length}
use lib.Dec.{eqb, leb}
use borrow.Author.Tests.{eqb-false, leb-true}
use Rattle.encodings.specs.Bits.{pick}
use Rattle.decode.specs.declared.Decoded.{Decoded}
use Rattle.control.specs.declared.answers.Answer.TheVariants.{Done, Spent, Misplaced, LongCode, BadStart}
use Rattle.control.specs.declared.orders.Order.{Order}
use Rattle.control.specs.declared.orders.Order.TheVariants.{SetGeneral, Compute, ReadStatus, WriteStatus, PatternLeft, PatternRight, ReadLine, WriteLine, ReadElement, WriteElement}
use Rattle.control.specs.Addresses.{well_placed}
use Rattle.control.specs.declared.answers.Answer.{Answer}
use Rattle.std.specs.Prelude.{Result, Ok, Err}
use Rattle.lines.proofs.Parts.{put_long}
use Rattle.effects.specs.Effects.{Held, held_of, effect_of}
use Rattle.machine.specs.declared.Machine.{Machine}
use Rattle.machine.specs.Runs.{State, Out, flags_in, stops, starts, word_at, order_at, next, went, runs, run_of}
use Rattle.laws.specs.Steps.{next_at}

pub effect_long : (o : Order) (w : Decoded) (h : Held) → length (effect_of o w h).mem ≡ length h.mem
effect_long (SetGeneral x) w h = refl
effect_long (Compute op) w h = refl
effect_long ReadStatus w h = refl
effect_long WriteStatus w h = refl
effect_long (PatternLeft s) w h = refl
effect_long (PatternRight s) w h = refl
effect_long (ReadLine at) w h = refl
effect_long (WriteLine at) w h = put_long h.mem at _
effect_long (ReadElement e) w h = refl
effect_long (WriteElement e) w h = put_long h.mem (e.at + e.place) _

pub next_long : (o : Order) (w : Decoded) (s : State) → length (next o w s).mem ≡ length s.mem
next_long o w s = effect_long o w (held_of s.m.v (flags_in s.m) s.mem)

module _ (code : List ℕ) (base : ℕ) where
  pub stays : (n : ℕ) (s : State) → s.place ≤ length code
      → (length (runs code base n s).mem ≡ length s.mem) × ((runs code base n s).place ≤ length code)
  unfolding runs
  stays zero s h = cases (eqb s.place (length code))
    where
      cases : (b : Bool) → (length (pick b (stops Done s) (stops Spent s)).mem ≡ length s.mem) × ((pick b (stops Done s) (stops Spent s)).place ≤ length code)
      cases true = (refl, h)
      cases false = (refl, h)
  stays (suc n) s h = cases (eqb s.place (length code)) refl (order_at code base s) (λ o. stays n (next_at code s o))
    where
      on : Order → Out
      on o = runs code base n (next_at code s o)

      Good : Out → Type 0
      Good r = (length r.mem ≡ length s.mem) × (r.place ≤ length code)

      cases : (b : Bool) → eqb s.place (length code) ≡ b → (r : Result Order Answer)
          → ((o : Order) → s.place + 1 ≤ length code → (length (on o).mem ≡ length (next_at code s o).mem) × ((on o).place ≤ length code))
          → Good (pick b (stops Done s) (went r s on))
      cases true e r ih = (refl, h)
      cases false e (Ok o) ih =
          let p = ih o (omega (arith, eqb-false s.place (length code) e)) in
          (p.0 ∙ next_long o (word_at code s) s, p.1)
      cases false e (Err a) ih = (refl, h)

-- a run keeps the memory's length, whatever it is given
pub memory_kept : (code mem : List ℕ) (base place allowance : ℕ) (m : Machine) → length (run_of code mem base place allowance m).mem ≡ length mem
unfolding run_of
memory_kept code mem base place allowance m = cases (well_placed base (length mem)) (leb (length code) 16384) (leb place (length code)) refl
  where
    s : State
    s = starts place m mem

    cases : (a b c : Bool) → leb place (length code) ≡ c
        → length (pick a (pick b (pick c (runs code base allowance s) (stops BadStart s)) (stops LongCode s)) (stops Misplaced s)).mem ≡ length mem
    cases true true true h = (stays code base allowance s (leb-true place (length code) h)).0
    cases true true false h = refl
    cases true false c h = refl
    cases false b c h = refl
