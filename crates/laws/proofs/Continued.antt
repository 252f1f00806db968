-- CONTINUING: a run that used its allowance up, continued where it stopped, ends as one run, with the counts added.
-- Assumes nothing.
use Prim.Native.Nat.{ℕ, zero, suc, ◌+◌}
use mathlib.Core.Path.{◌≡◌, refl, sym, ap, ◌∙◌}
use mathlib.Core.Bool.{Bool, true, false}
use mathlib.Core.List.{List}
use native.Mathlib.Omega.{arith}
use native.Mathlib.Nat.{zero-add, suc-add, add-zero, add_assoc}
use lib.ListN.{length}
use lib.Dec.{eqb, leb}
use borrow.Author.Tests.{le-leb, leb-true}
use Rattle.encodings.specs.Bits.{pick}
use Rattle.control.specs.declared.answers.Answer.{Answer}
use Rattle.control.specs.declared.answers.Answer.TheVariants.{Done, Spent, Misplaced, LongCode, BadStart}
use Rattle.control.specs.Addresses.{well_placed}
use Rattle.control.specs.declared.orders.Order.{Order}
use Rattle.std.specs.Prelude.{Result, Ok, Err}
use Rattle.machine.specs.declared.Machine.{Machine}
use Rattle.machine.specs.Runs.{State, Out, starts, stops, order_at, went, runs, run_of}
use Rattle.laws.specs.Steps.{next_at, again, later, later_out}
use Rattle.laws.proofs.Kept.{stays}
use Rattle.laws.proofs.Refusals.{late}

module _ (code : List ℕ) (base : ℕ) where
  continued : (m n : ℕ) (s : State) → (runs code base m s).number ≡ 1 → runs code base (m + n) s ≡ runs code base n (again (runs code base m s))
  unfolding runs
  continued zero n s h = rw zero-add (cases (eqb s.place (length code)) h)
    where
      cases : (b : Bool) → (pick b (stops Done s) (stops Spent s)).number ≡ 1 → runs code base n s ≡ runs code base n (again (pick b (stops Done s) (stops Spent s)))
      cases true h = absurd (omega arith)
      cases false h = refl
  continued (suc m) n s h = rw suc-add (cases (eqb s.place (length code)) (order_at code base s) refl (λ o. continued m n (next_at code s o)) h)
    where
      -- the run of k words more, after a completed word
      on : ℕ → Order → Out
      on k o = runs code base k (next_at code s o)

      cases : (b : Bool) (r : Result Order Answer) → order_at code base s ≡ r
          → ((o : Order) → (on m o).number ≡ 1 → on (m + n) o ≡ runs code base n (again (on m o)))
          → (pick b (stops Done s) (went r s (on m))).number ≡ 1
          → pick b (stops Done s) (went r s (on (m + n))) ≡ runs code base n (again (pick b (stops Done s) (went r s (on m))))
      cases true r e ih h = absurd (omega arith)
      cases false (Ok o) e ih h = ih o h
      cases false (Err a) e ih h = let l = late code base s a e in absurd (omega arith)

  -- words completed before are added
  added : (k n : ℕ) (s : State) → runs code base n (later k s) ≡ later_out k (runs code base n s)
  unfolding runs order_at
  added k zero s = cases (eqb s.place (length code))
    where
      cases : (b : Bool) → pick b (stops Done (later k s)) (stops Spent (later k s)) ≡ later_out k (pick b (stops Done s) (stops Spent s))
      cases true = refl
      cases false = refl
  added k (suc n) s =
      cases (eqb s.place (length code)) (order_at code base s)
      (λ o. ap (λ (c : ℕ). runs code base n (record { count = c; place = s.place + 1; m = (next_at code s o).m; mem = (next_at code s o).mem })) (add_assoc k s.count 1)
      ∙ added k n (next_at code s o))
    where
      on : State → Order → Out
      on t o = runs code base n (next_at code t o)

      cases : (b : Bool) (r : Result Order Answer) → ((o : Order) → on (later k s) o ≡ later_out k (on s o))
          → pick b (stops Done (later k s)) (went r (later k s) (on (later k s))) ≡ later_out k (pick b (stops Done s) (went r s (on s)))
      cases true r ih = refl
      cases false (Err a) ih = refl
      cases false (Ok o) ih = ih o

-- the law of run; where m + n fits 32 bits, it is of runs that the code can be asked for
pub resumed : (code mem : List ℕ) (base place m n : ℕ) (k : Machine) → (run_of code mem base place m k).number ≡ 1
    → run_of code mem base place (m + n) k
    ≡ later_out (run_of code mem base place m k).count
    (run_of code (run_of code mem base place m k).mem base (run_of code mem base place m k).place n (run_of code mem base place m k).m)
unfolding run_of
resumed code mem base place m n k h = cases (well_placed base (length mem)) refl (leb (length code) 16384) refl (leb place (length code)) refl h
  where
    s : State
    s = starts place k mem

    o : Out
    o = runs code base m s

    pick_all : Bool → Bool → Bool → Out → State → Out
    pick_all a b c r s = pick a (pick b (pick c r (stops BadStart s)) (stops LongCode s)) (stops Misplaced s)

    cases : (a : Bool) → well_placed base (length mem) ≡ a → (b : Bool) → leb (length code) 16384 ≡ b → (c : Bool) → leb place (length code) ≡ c
        → (pick_all a b c o s).number ≡ 1
        → pick_all a b c (runs code base (m + n) s) s
        ≡ later_out (pick_all a b c o s).count
        (pick_all (well_placed base (length (pick_all a b c o s).mem)) b (leb (pick_all a b c o s).place (length code))
        (runs code base n (starts (pick_all a b c o s).place (pick_all a b c o s).m (pick_all a b c o s).mem))
        (starts (pick_all a b c o s).place (pick_all a b c o s).m (pick_all a b c o s).mem))
    cases true p true q true e h =
        let g = stays code base m s (leb-true place (length code) e) in
        continued code base m n s h
        ∙ simp (g.0, p, le-leb _ _ g.1)
        (ap (λ (x : ℕ). runs code base n (record { count = x; place = o.place; m = o.m; mem = o.mem })) (sym (add-zero o.count))
        ∙ added code base o.count n (starts o.place o.m o.mem))
    cases true p true q false e h = absurd (omega arith)
    cases true p false q c e h = absurd (omega arith)
    cases false p b q c e h = absurd (omega arith)
