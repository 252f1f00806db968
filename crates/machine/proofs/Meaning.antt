-- What the definition of a run says, as the proofs of the code cite it.
-- Assumes nothing.
use Prim.Native.Nat.{ℕ, zero, suc, ◌+◌, ◌-◌, ◌<◌}
use mathlib.Core.Path.{◌≡◌, refl, sym, ap, ap₂, ◌∙◌}
use Rattle.std.specs.Prelude.{Ok, Err}
use mathlib.Core.List.{List}
use native.Mathlib.Omega.{arith}
use lib.ListN.{length}
use borrow.Author.Tests.{eq-eqb, ne_eqb}
use Rattle.decode.specs.declared.Decoded.{Decoded}
use Rattle.control.specs.declared.answers.Answer.{Answer}
use Rattle.control.specs.declared.answers.Answer.TheVariants.{Done, Spent}
use Rattle.control.specs.declared.orders.Order.{Order}
use Rattle.control.specs.Orders.{general_of}
use Rattle.flags.specs.declared.Flags.{Flags}
use Rattle.effects.specs.Effects.{Held, held_of, effect_of}
use Rattle.machine.specs.declared.walk.Walked.{Walked}
use Rattle.machine.specs.Runs.{State, Out, Gives, machine_of, walked_of, stops, word_at, order_at, next, runs}

-- a state of the parts that the loop holds
abbrev pub state_of : ℕ → ℕ → List ℕ → List ℕ → Flags → List ℕ → State
state_of count place v g f mem = record { count = count; place = place; m = machine_of v g f; mem = mem }

-- a walk that stopped gives what the definition leaves
pub stop_gives : {o : Out} {r : Walked} (a : Answer) (count place : ℕ) (v g : List ℕ) (f : Flags) (mem : List ℕ)
    → o ≡ stops a (state_of count place v g f mem) → r ≡ walked_of a count place f → Gives o r.report (machine_of v g r.flags) mem
stop_gives a count place v g f mem e h = rw (e, h) (record { number = refl; count = refl; place = refl; m = refl; mem = refl })

-- the same where control has left the general registers as they were
pub refusal_gives : {o : Out} {r : Walked} (a : Answer) (count place : ℕ) (v g g' : List ℕ) (f : Flags) (mem : List ℕ)
    → g' ≡ g → o ≡ stops a (state_of count place v g f mem) → r ≡ walked_of a count place f → Gives o r.report (machine_of v g' r.flags) mem
refusal_gives a count place v g g' f mem k e h = rw k (stop_gives a count place v g f mem e h)

module _ (code : List ℕ) (base : ℕ) where
  -- a run at the end of the code
  pub at_end : (n : ℕ) (s : State) → s.place ≡ length code → runs code base n s ≡ stops Done s
  unfolding runs
  at_end zero s e = simp (eq-eqb _ _ e)
  at_end (suc n) s e = simp (eq-eqb _ _ e)

  -- a run with no allowance left
  pub spent : (n : ℕ) (s : State) → n ≡ 0 → (s.place ≡ length code → ⊥) → runs code base n s ≡ stops Spent s
  unfolding runs
  spent zero s z e = simp (ne_eqb _ _ e)
  spent (suc n) s z e = absurd (omega arith)

  -- a run at a word that is refused
  pub refused : (n : ℕ) (s : State) (a : Answer) → 0 < n → (s.place ≡ length code → ⊥) → Err a ≡ order_at code base s → runs code base n s ≡ stops a s
  unfolding runs
  refused zero s a p e h = absurd (omega arith)
  refused (suc n) s a p e h = simp (ne_eqb _ _ e, ← h)

  -- a run at a word that is completed
  pub completed : (n : ℕ) (s : State) (o : Order) → 0 < n → (s.place ≡ length code → ⊥) → Ok o ≡ order_at code base s
      → runs code base n s ≡ runs code base (n - 1) (next o (word_at code s) s)
  unfolding runs
  completed zero s o p e h = absurd (omega arith)
  completed (suc n) s o p e h =
      let d : suc n - 1 ≡ n = omega arith in
      simp (ne_eqb _ _ e, ← h, d)

  -- the same, of the parts that the loop holds
  pub more : (n count place : ℕ) (v g : List ℕ) (f : Flags) (mem : List ℕ) (o : Order) (w : Decoded) (v' g' : List ℕ) (f' : Flags) (mem' : List ℕ)
      → 0 < n → (place ≡ length code → ⊥) → w ≡ word_at code (state_of count place v g f mem) → Ok o ≡ order_at code base (state_of count place v g f mem)
      → g' ≡ general_of o w.d g → held_of v' f' mem' ≡ effect_of o w (held_of v f mem)
      → runs code base n (state_of count place v g f mem) ≡ runs code base (n - 1) (state_of (count + 1) (place + 1) v' g' f' mem')
  more n count place v g f mem o w v' g' f' mem' p e k h i j =
      let s = state_of count place v g f mem in
      completed n s o p e h
      ∙ ap (λ (x : Decoded). runs code base (n - 1) (next o x s)) (sym k)
      ∙ ap₂ (λ (x : List ℕ) (y : Held). runs code base (n - 1) (state_of (count + 1) (place + 1) y.v x y.flags y.mem)) (sym i) (sym j)
