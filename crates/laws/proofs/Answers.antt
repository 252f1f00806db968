-- THE ANSWERS: a run gives each number exactly in its case (`exactly`), and a word is refused exactly for the reason of its answer (`refused_exactly`).
-- Assumes nothing.
use Prim.Native.Nat.{ℕ, ◌+◌, ◌-◌, ◌%◌, ◌^◌}
use mathlib.Core.Path.{◌≡◌, refl, sym, ap, subst, ◌∙◌}
use mathlib.Core.Bool.{Bool, true, false, true≢false, false≢true}
use mathlib.Core.List.{List}
use mathlib.Core.Logic.{◌↔◌, inl, inr}
use lib.ListN.{length}
use lib.Dec.{eqb, leb, ltb}
use borrow.Author.Tests.{ltb-false, leb-true, leb-false, eqb-true, le-leb, lt-leb, eq-eqb}
use Rattle.encodings.specs.Bits.{pick}
use Rattle.decode.specs.declared.Decoded.{Decoded}
use Rattle.encodings.specs.declared.ops.Op.{Op}
use Rattle.control.specs.declared.answers.Answer.{Answer}
use Rattle.control.specs.declared.answers.Answer.TheVariants.{Done, Spent, Misplaced, LongCode, BadStart, NoInstruction, Reserved, Outside}
use Rattle.std.specs.Prelude.{Option, Some, None, Result, Ok, Err}
use Rattle.std.specs.Option.{option_map_or}
use Rattle.control.specs.declared.kinds.Kind.{Kind}
use Rattle.control.specs.declared.kinds.Kind.TheVariants.{Vector, GetStatus, PutStatus, LeftPattern, RightPattern, GetElement, GetLine, PutElement, PutLine, AddScalar}
use Rattle.control.specs.declared.orders.Order.{Order}
use Rattle.control.specs.declared.orders.Order.TheVariants.{ReadLine, WriteLine, ReadElement, WriteElement}
use Rattle.control.specs.Addresses.{address_of, sum_of, aligned, item_of, well_placed}
use Rattle.lanes.specs.Numbers.{bytes_in}
use Rattle.control.specs.Answers.{number_of}
use Rattle.control.specs.Kinds.{kind_of}
use Rattle.control.specs.Orders.{reached, element, order_in, order_of}
use Rattle.control.proofs.Cases.{five, six, carried, below, above}
use Rattle.machine.specs.declared.Machine.{Machine}
use Rattle.machine.specs.Runs.{State, Out, starts, stops, runs, run_of}
use Rattle.laws.specs.Answers.{Placed, Beyond, Misses, Refused, Comes, Begins, Runs, Case}
use Rattle.laws.proofs.Told.{not_set}
use Rattle.laws.proofs.Outcome.{same_answer}
use Rattle.laws.proofs.Completed.{ends, only}

-- the memory is well placed exactly where `well_placed` says so
placed : (base len : ℕ) → well_placed base len ≡ true → Placed base len
unfolding well_placed
placed base len = cases (eqb (base % 16) 0) refl (eqb (len % 16) 0) refl (leb len 65536) refl
  where
    cases : (a : Bool) → eqb (base % 16) 0 ≡ a → (b : Bool) → eqb (len % 16) 0 ≡ b → (c : Bool) → leb len 65536 ≡ c
        → pick a (pick b (pick c (leb (base + len) (2 ^ 32)) false) false) false ≡ true → Placed base len
    cases true p true q true r h =
        record { base_lines = eqb-true _ _ p; length_lines = eqb-true _ _ q; short = leb-true _ _ r; below = leb-true _ _ h }
    cases true p true q false r h = absurd (false≢true h)
    cases true p false q c r h = absurd (false≢true h)
    cases false p b q c r h = absurd (false≢true h)

well_placed_lem : (base len : ℕ) → Placed base len → well_placed base len ≡ true
unfolding well_placed
well_placed_lem base len p =
    simp (eq-eqb _ _ p.base_lines, eq-eqb _ _ p.length_lines, le-leb _ _ p.short, le-leb _ _ p.below)

-- whether a word is refused, and its answer
abbrev refuses : Result Order Answer → Bool
refuses (Ok o) = false
refuses (Err a) = true

abbrev answer_in : Result Order Answer → Answer
answer_in (Ok o) = Done
answer_in (Err a) = a

-- a word, with the general registers g, over a memory of len bytes at base
module _ (w : Decoded) (g : List ℕ) (base len : ℕ) where
  abbrev x : ℕ
  x = address_of g w.a w.b

  -- an order at the place of an item is refused exactly where the item is outside the memory
  missed : (e : ℕ) (f : ℕ → Order) (a : Answer) → reached (item_of e base len) f ≡ Err a → Beyond e base len × (Outside ≡ a)
  unfolding item_of
  missed e f a = cases (leb base e) refl (ltb e (base + len)) refl
    where
      cases : (b : Bool) → leb base e ≡ b → (c : Bool) → ltb e (base + len) ≡ c
          → reached (pick b (pick c (Some (e - base)) None) None) f ≡ Err a → Beyond e base len × (Outside ≡ a)
      cases true p true q h = absurd (false≢true (ap refuses h))
      cases true p false q h = (inr (ltb-false _ _ q), ap answer_in h)
      cases false p c q h = (inl (leb-false _ _ p), ap answer_in h)

  missing : (e : ℕ) (f : ℕ → Order) → Beyond e base len → reached (item_of e base len) f ≡ Err Outside
  missing e f (inl h) = ap (λ (i : Option ℕ). reached i f) (below e base len h)
  missing e f (inr h) = ap (λ (i : Option ℕ). reached i f) (behind (leb base e) refl)
    where
      behind : (b : Bool) → leb base e ≡ b → item_of e base len ≡ None
      behind true p = above e base len (leb-true _ _ p) h
      behind false p = below e base len (leb-false _ _ p)

  kind_missed : (k : Kind) (o : Op) (s : ℕ) (a : Answer) → order_in k o x s base len ≡ Err a → Misses k x base len × (Outside ≡ a)
  kind_missed Vector o s a h = absurd (false≢true (ap refuses h))
  kind_missed GetStatus o s a h = absurd (false≢true (ap refuses h))
  kind_missed PutStatus o s a h = absurd (false≢true (ap refuses h))
  kind_missed LeftPattern o s a h = absurd (false≢true (ap refuses h))
  kind_missed RightPattern o s a h = absurd (false≢true (ap refuses h))
  kind_missed (GetElement z) o s a h = missed (aligned (bytes_in z) x) (λ k. ReadElement (element (aligned (bytes_in z) x) (bytes_in z) k)) a h
  kind_missed GetLine o s a h = missed (aligned 16 x) ReadLine a h
  kind_missed (PutElement z) o s a h = missed (aligned (bytes_in z) x) (λ k. WriteElement (element (aligned (bytes_in z) x) (bytes_in z) k)) a h
  kind_missed PutLine o s a h = missed (aligned 16 x) WriteLine a h
  kind_missed AddScalar o s a h = absurd (false≢true (ap refuses h))

  kind_missing : (k : Kind) (o : Op) (s : ℕ) → Misses k x base len → order_in k o x s base len ≡ Err Outside
  kind_missing Vector o s h = absurd h
  kind_missing GetStatus o s h = absurd h
  kind_missing PutStatus o s h = absurd h
  kind_missing LeftPattern o s h = absurd h
  kind_missing RightPattern o s h = absurd h
  kind_missing (GetElement z) o s h = missing (aligned (bytes_in z) x) (λ k. ReadElement (element (aligned (bytes_in z) x) (bytes_in z) k)) h
  kind_missing GetLine o s h = missing (aligned 16 x) ReadLine h
  kind_missing (PutElement z) o s h = missing (aligned (bytes_in z) x) (λ k. WriteElement (element (aligned (bytes_in z) x) (bytes_in z) k)) h
  kind_missing PutLine o s h = missing (aligned 16 x) WriteLine h
  kind_missing AddScalar o s h = absurd h

  refused : (a : Answer) → order_of w g base len ≡ Err a → Refused a w g base len
  unfolding order_of
  refused a = cases w.op refl w.stray refl
    where
      cases : (p : Option Op) → w.op ≡ p → (c : Bool) → w.stray ≡ c
          → option_map_or (λ (o : Op). pick c (Err Reserved) (order_in (kind_of o) o x (sum_of g w.a w.imm) base len)) p (Err NoInstruction) ≡ Err a
          → Refused a w g base len
      cases None p c q h = subst (λ z. Refused z w g base len) (ap answer_in h) p
      cases (Some o) p true q h = subst (λ z. Refused z w g base len) (ap answer_in h) (o, p, q)
      cases (Some o) p false q h =
          let m = kind_missed (kind_of o) o (sum_of g w.a w.imm) a h in
          subst (λ z. Refused z w g base len) m.1 (o, p, q, m.0)

  refusing : (a : Answer) → Refused a w g base len → order_of w g base len ≡ Err a
  refusing Done h = absurd h
  refusing Spent h = absurd h
  refusing Misplaced h = absurd h
  refusing LongCode h = absurd h
  refusing BadStart h = absurd h
  refusing NoInstruction h = five w g base len h
  refusing Reserved h = six w g base len h.0 h.1 h.2
  refusing Outside h = carried w g base len h.0 h.1 h.2 ∙ kind_missing (kind_of h.0) h.0 (sum_of g w.a w.imm) h.3

  pub refused_exactly : (a : Answer) → order_of w g base len ≡ Err a ↔ Refused a w g base len
  refused_exactly a = (refused a, refusing a)

module _ (code mem : List ℕ) (base place n : ℕ) (m : Machine) where
  -- an answer with its case, and a run that gives its number
  record Answered (o : Out) : Type 0 where
    answer : Answer
    case : Case answer code mem base place n m
    number : o.number ≡ number_of answer

  -- a run that begins and comes to an answer is in the answer's case
  came : (a : Answer) → Runs code mem base place n m a → Case a code mem base place n m
  came Done r = r
  came Spent r = r
  came Misplaced r = absurd r.comes.ended
  came LongCode r = absurd r.comes.ended
  came BadStart r = absurd r.comes.ended
  came NoInstruction r = r
  came Reserved r = r
  came Outside r = r

  answered : Answered (run_of code mem base place n m)
  unfolding run_of
  answered = cases (well_placed base (length mem)) refl (leb (length code) 16384) refl (leb place (length code)) refl
    where
      s : State
      s = starts place m mem

      cases : (a : Bool) → well_placed base (length mem) ≡ a → (b : Bool) → leb (length code) 16384 ≡ b → (c : Bool) → leb place (length code) ≡ c
          → Answered (pick a (pick b (pick c (runs code base n s) (stops BadStart s)) (stops LongCode s)) (stops Misplaced s))
      cases true p true q true r =
          let e = ends code base n s in
          let c : Comes code base n s e.answer = record { words = e.words; at = e.at; within = e.within; led = e.led; ended = e.ended } in
          let b : Begins code mem base place = record { placed = placed base (length mem) p; short = leb-true _ _ q; inside = leb-true _ _ r } in
          record { answer = e.answer; case = came e.answer (record { begins = b; comes = c }); number = ap (λ (o : Out). o.number) e.out }
      cases true p true q false r = record { answer = BadStart; case = (placed base (length mem) p, leb-true _ _ q, leb-false _ _ r); number = refl }
      cases true p false q c r = record { answer = LongCode; case = (placed base (length mem) p, leb-false _ _ q); number = refl }
      cases false p b q c r = record { answer = Misplaced; case = λ h. true≢false (sym (well_placed_lem base (length mem) h) ∙ p); number = refl }

  -- a run that is in the case
  begun : (a : Answer) → Runs code mem base place n m a → (run_of code mem base place n m).number ≡ number_of a
  unfolding run_of
  begun a r =
      let c = r.comes in
      let e = only code base n c.words (starts place m mem) c.at a c.within c.led c.ended in
      simp (well_placed_lem base (length mem) r.begins.placed, le-leb _ _ r.begins.short, le-leb _ _ r.begins.inside, e)

  gives : (a : Answer) → Case a code mem base place n m → (run_of code mem base place n m).number ≡ number_of a
  unfolding run_of
  gives Done h = begun Done h
  gives Spent h = begun Spent h
  gives Misplaced h = simp (not_set (well_placed base (length mem)) (λ e. h (placed base (length mem) e)))
  gives LongCode h = simp (well_placed_lem base (length mem) h.0, lt-leb _ _ h.1)
  gives BadStart h = simp (well_placed_lem base (length mem) h.0, le-leb _ _ h.1, lt-leb _ _ h.2)
  gives NoInstruction h = begun NoInstruction h
  gives Reserved h = begun Reserved h
  gives Outside h = begun Outside h

  pub exactly : (a : Answer) → (run_of code mem base place n m).number ≡ number_of a ↔ Case a code mem base place n m
  exactly a =
      let r = answered in
      (λ e. subst (λ z. Case z code mem base place n m) (same_answer r.answer a (sym r.number ∙ e)) r.case, gives a)
