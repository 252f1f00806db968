-- THE COUNT: a run completes some number of words, one after the other, and ends where they lead; its count is that number.
-- THE ANSWERS: it ends with each answer in that answer's case (`ends`) and in no other (`only`).
-- Assumes nothing.
use Prim.Native.Nat.{ℕ, zero, suc, ◌+◌, ◌-◌, ◌≤◌, ◌<◌}
use mathlib.Core.Path.{◌≡◌, refl, sym, ap, ◌∙◌}
use mathlib.Core.Bool.{Bool, true, false}
use mathlib.Core.List.{List}
use native.Mathlib.Omega.{arith}
use native.Mathlib.Nat.{add-zero}
use lib.ListN.{length}
use lib.Dec.{eqb}
use borrow.Author.Tests.{eqb-true, eqb-false}
use Rattle.encodings.specs.Bits.{pick}
use Rattle.control.specs.declared.answers.Answer.{Answer}
use Rattle.control.specs.declared.answers.Answer.TheVariants.{Done, Spent, Misplaced, LongCode, BadStart, NoInstruction, Reserved, Outside}
use Rattle.control.specs.declared.orders.Order.{Order}
use Rattle.std.specs.Prelude.{Result, Ok, Err}
use Rattle.control.specs.Answers.{number_of}
use Rattle.machine.specs.Runs.{State, Out, stops, order_at, went, runs}
use Rattle.machine.proofs.Meaning.{at_end, spent, refused, completed}
use Rattle.laws.specs.Steps.{next_at, Completes, Ended, Ends}
use Rattle.laws.proofs.Refusals.{late}

module _ (code : List ℕ) (base : ℕ) where
  -- the count and the place after k words
  pub count_after : (k : ℕ) (s t : State) → Completes code base k s t → t.count ≡ s.count + k
  count_after zero s t h = ap (λ (x : State). x.count) (sym h) ∙ sym (add-zero s.count)
  count_after (suc k) s t h = let e = count_after k (next_at code s h.1.0) t h.1.2 in omega arith

  pub place_after : (k : ℕ) (s t : State) → Completes code base k s t → t.place ≡ s.place + k
  place_after zero s t h = ap (λ (x : State). x.place) (sym h) ∙ sym (add-zero s.place)
  place_after (suc k) s t h = let e = place_after k (next_at code s h.1.0) t h.1.2 in omega arith

  refusal_ends : (n : ℕ) (s : State) (a : Answer) → 0 < n → (s.place ≡ length code → ⊥) → order_at code base s ≡ Err a → 5 ≤ number_of a → Ended code base n s a
  refusal_ends n s Done p e h l = absurd (omega arith)
  refusal_ends n s Spent p e h l = absurd (omega arith)
  refusal_ends n s Misplaced p e h l = absurd (omega arith)
  refusal_ends n s LongCode p e h l = absurd (omega arith)
  refusal_ends n s BadStart p e h l = absurd (omega arith)
  refusal_ends n s NoInstruction p e h l = (p, e, h)
  refusal_ends n s Reserved p e h l = (p, e, h)
  refusal_ends n s Outside p e h l = (p, e, h)

  pub ends : (n : ℕ) (s : State) → Ends code base n s (runs code base n s)
  unfolding runs
  ends zero s = cases (eqb s.place (length code)) refl
    where
      cases : (b : Bool) → eqb s.place (length code) ≡ b → Ends code base zero s (pick b (stops Done s) (stops Spent s))
      cases true e = record { words = 0; at = s; answer = Done; within = omega arith; led = refl; ended = eqb-true _ _ e; out = refl }
      cases false e = record { words = 0; at = s; answer = Spent; within = omega arith; led = refl; ended = (omega arith, eqb-false _ _ e); out = refl }
  ends (suc n) s = cases (eqb s.place (length code)) refl (order_at code base s) refl (λ o. ends n (next_at code s o))
    where
      cases : (b : Bool) → eqb s.place (length code) ≡ b → (r : Result Order Answer) → order_at code base s ≡ r
          → ((o : Order) → Ends code base n (next_at code s o) (runs code base n (next_at code s o)))
          → Ends code base (suc n) s (pick b (stops Done s) (went r s (λ (o : Order). runs code base n (next_at code s o))))
      cases true e r f ih = record { words = 0; at = s; answer = Done; within = omega arith; led = refl; ended = eqb-true _ _ e; out = refl }
      cases false e (Err a) f ih =
          record {
            words = 0;
            at = s;
            answer = a;
            within = omega arith;
            led = refl;
            ended = refusal_ends (suc n - 0) s a (omega arith) (eqb-false _ _ e) f (late code base s a f);
            out = refl;
          }
      cases false e (Ok o) f ih =
          let i = ih o in
          let d : suc n - suc i.words ≡ n - i.words = omega arith in
          record {
            words = suc i.words;
            at = i.at;
            answer = i.answer;
            within = let w = i.within in omega arith;
            led = (eqb-false _ _ e, (o, f, i.led));
            ended = rw d i.ended;
            out = i.out;
          }

  -- a run at a state where it has ended
  stopped : (n : ℕ) (t : State) (a : Answer) → Ended code base n t a → runs code base n t ≡ stops a t
  stopped n t Done h = at_end code base n t h
  stopped n t Spent h = spent code base n t h.0 h.1
  stopped n t Misplaced h = absurd h
  stopped n t LongCode h = absurd h
  stopped n t BadStart h = absurd h
  stopped n t NoInstruction h = refused code base n t NoInstruction h.0 h.1 (sym h.2)
  stopped n t Reserved h = refused code base n t Reserved h.0 h.1 (sym h.2)
  stopped n t Outside h = refused code base n t Outside h.0 h.1 (sym h.2)

  -- whatever ends so is the run
  pub only : (n k : ℕ) (s t : State) (a : Answer) → k ≤ n → Completes code base k s t → Ended code base (n - k) t a → runs code base n s ≡ stops a t
  only n zero s t a l h e =
      let z : n - 0 ≡ n = omega arith in
      ap (runs code base n) h ∙ stopped n t a (rw z at e)
  only n (suc k) s t a l h e =
      let z : n - suc k ≡ n - 1 - k = omega arith in
      completed code base n s h.1.0 (omega arith) h.0 (sym h.1.1)
      ∙ only (n - 1) k (next_at code s h.1.0) t a (omega arith) h.1.2 (rw z at e)

  -- the count is the number of words completed
  pub counted : (n : ℕ) (s : State) → (runs code base n s).count ≡ s.count + (ends n s).words
  counted n s = let e = ends n s in ap (λ (o : Out). o.count) e.out ∙ count_after e.words s e.at e.led
