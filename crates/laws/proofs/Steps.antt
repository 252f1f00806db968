-- A STEP: refused, it changes nothing; completed, it does what the order of its word says; and what it does to SAT.
-- Assumes nothing.
use Prim.Native.Nat.{ℕ, ◌+◌}
use mathlib.Core.Path.{◌≡◌, refl, sym, ap, ◌∙◌}
use mathlib.Core.Bool.{Bool, true, false, true≢false, ◌||◌}
use mathlib.Core.List.{List}
use native.Mathlib.Omega.{arith}
use lib.ListN.{length}
use lib.Dec.{eqb, ltb, leb}
use Rattle.encodings.specs.Bits.{pick}
use Rattle.decode.specs.declared.Decoded.{Decoded}
use Rattle.control.specs.declared.answers.Answer.{Answer}
use Rattle.control.specs.declared.answers.Answer.TheVariants.{Done, Spent, Misplaced, LongCode, BadStart}
use Rattle.control.specs.declared.orders.Order.{Order}
use Rattle.control.specs.declared.orders.Order.TheVariants.{SetGeneral, Compute, ReadStatus, WriteStatus, PatternLeft, PatternRight, ReadLine, WriteLine, ReadElement, WriteElement}
use Rattle.control.specs.Addresses.{well_placed}
use Rattle.std.specs.Prelude.{Result, Ok, Err}
use Rattle.flags.specs.Flags.{marked_of, recorded_of}
use Rattle.effects.specs.Effects.{Held, held_of, flags_after, effect_of}
use Rattle.machine.specs.declared.Machine.{Machine}
use Rattle.machine.specs.Runs.{State, Out, flags_in, starts, stops, word_at, order_at, went, runs, run_of}
use Rattle.laws.specs.Steps.{next_at, marks_of, marks_in, sets_status}

module _ (code mem : List ℕ) (base place : ℕ) (m : Machine) where
  abbrev pub start : State
  start = starts place m mem

  abbrev pub order : Result Order Answer
  order = order_at code base start

  abbrev pub word : Decoded
  word = word_at code start

  abbrev pub after : Order → State
  after o = next_at code start o

  -- what holds of each way that a step can end holds of the step
  pub ways : (P : Out → Type 0) → ((a : Answer) → P (stops a start)) → ((o : Order) → order ≡ Ok o → (a : Answer) → P (stops a (after o))) → P (run_of code mem base place 1 m)
  unfolding run_of runs
  ways P p q =
      cases (well_placed base (length mem)) (leb (length code) 16384) (leb place (length code)) (eqb place (length code)) (eqb (place + 1) (length code)) order refl
    where
      cases : (a b c d f : Bool) (r : Result Order Answer) → order ≡ r
          → P (pick a (pick b (pick c
          (pick d (stops Done start) (went r start (λ (o : Order). pick f (stops Done (after o)) (stops Spent (after o)))))
          (stops BadStart start)) (stops LongCode start)) (stops Misplaced start))
      cases true true true true f r h = p Done
      cases true true true false f (Err a) h = p a
      cases true true true false true (Ok o) h = q o h Done
      cases true true true false false (Ok o) h = q o h Spent
      cases true true false d f r h = p BadStart
      cases true false c d f r h = p LongCode
      cases false b c d f r h = p Misplaced

  -- a step that completes no word leaves the machine, the memory and the place
  pub refused_step : (run_of code mem base place 1 m).count ≡ 0
      → ((run_of code mem base place 1 m).place ≡ place) × ((run_of code mem base place 1 m).m ≡ m) × ((run_of code mem base place 1 m).mem ≡ mem)
  refused_step = ways (λ (o : Out). o.count ≡ 0 → (o.place ≡ place) × (o.m ≡ m) × (o.mem ≡ mem)) (λ a h. (refl, refl, refl)) (λ o e a h. absurd (omega arith))

  -- a step that completes a word does what its order says
  pub record Does (x : Out) : Type 0 where
    pub says : Order
    pub ordered : order ≡ Ok says
    pub place_is : x.place ≡ place + 1
    pub m_is : x.m ≡ (after says).m
    pub mem_is : x.mem ≡ (after says).mem

  pub completed_step : (run_of code mem base place 1 m).count ≡ 1 → Does (run_of code mem base place 1 m)
  completed_step =
      ways (λ (x : Out). x.count ≡ 1 → Does x) (λ a h. absurd (omega arith))
      (λ o e a h. record { says = o; ordered = e; place_is = refl; m_is = refl; mem_is = refl })

as_it_was : (b : Bool) → b ≡ (b || ltb 0 0)
as_it_was true = refl
as_it_was false = refl

-- an order that is not mtvscr's leaves SAT on where it was on, and turns it on where a lane was clipped
pub effect_sat : (o : Order) (w : Decoded) (h : Held) → sets_status o ≡ false → (effect_of o w h).flags.sat ≡ (h.flags.sat || ltb 0 (marks_of o w h))
unfolding marked_of recorded_of flags_after
effect_sat (SetGeneral x) w h e = as_it_was h.flags.sat
effect_sat (Compute op) w h e = refl
effect_sat ReadStatus w h e = as_it_was h.flags.sat
effect_sat WriteStatus w h e = absurd (true≢false e)
effect_sat (PatternLeft s) w h e = as_it_was h.flags.sat
effect_sat (PatternRight s) w h e = as_it_was h.flags.sat
effect_sat (ReadLine at) w h e = as_it_was h.flags.sat
effect_sat (WriteLine at) w h e = as_it_was h.flags.sat
effect_sat (ReadElement x) w h e = as_it_was h.flags.sat
effect_sat (WriteElement x) w h e = as_it_was h.flags.sat

module _ (code mem : List ℕ) (base place : ℕ) (m : Machine) where
  abbrev pub held : Held
  held = held_of m.v (flags_in m) mem

  -- SAT after a completed step whose order is not mtvscr's: on exactly if it was on or a lane was clipped
  pub step_sat : (run_of code mem base place 1 m).count ≡ 1 → ((o : Order) → order code mem base place m ≡ Ok o → sets_status o ≡ false)
      → (run_of code mem base place 1 m).m.sat ≡ (m.sat || ltb 0 (marks_in (order code mem base place m) (word code mem base place m) held))
  step_sat c n =
      let d = completed_step code mem base place m c in
      ap (λ (x : Machine). x.sat) d.m_is
      ∙ effect_sat d.says (word code mem base place m) held (n d.says d.ordered)
      ∙ ap (λ (r : Result Order Answer). m.sat || ltb 0 (marks_in r (word code mem base place m) held)) (sym d.ordered)
