-- ONE OUTCOME: two outcomes that one promise of a run allows are equal; so the step in place and the step by value agree. And the same of control.
-- Assumes nothing.
use Prim.Native.Nat.{ℕ}
use mathlib.Core.Path.{◌≡◌, refl, sym, ap, ◌∙◌}
use mathlib.Core.List.{List, [], ◌∷◌}
use lib.ListN.{get_or}
use Rattle.control.specs.declared.answers.Answer.{Answer}
use Rattle.control.specs.declared.answers.Answer.TheVariants.{Done, Spent, Misplaced, LongCode, BadStart, NoInstruction, Reserved, Outside}
use Rattle.decode.specs.declared.Decoded.{Decoded}
use Rattle.std.specs.Prelude.{Result}
use Rattle.control.specs.declared.orders.Order.{Order}
use Rattle.control.specs.Answers.{number_of}
use Rattle.control.specs.Orders.{general_after, Controls}
use Rattle.machine.specs.declared.walk.Report.{Report}
use Rattle.machine.specs.declared.Machine.{Machine}
use Rattle.machine.specs.Runs.{Out, Gives}

answers : List Answer
answers = Done ∷ Spent ∷ Misplaced ∷ LongCode ∷ BadStart ∷ NoInstruction ∷ Reserved ∷ Outside ∷ []

back : (a : Answer) → get_or answers (number_of a) Done ≡ a
unfolding answers
back Done = refl
back Spent = refl
back Misplaced = refl
back LongCode = refl
back BadStart = refl
back NoInstruction = refl
back Reserved = refl
back Outside = refl

-- a number is that of one answer
pub same_answer : (a b : Answer) → number_of a ≡ number_of b → a ≡ b
same_answer a b e = sym (back a) ∙ ap (λ (n : ℕ). get_or answers n Done) e ∙ back b

abbrev report_of : Answer → ℕ → ℕ → Report
report_of a count place = record { answer = a; count = count; place = place }

same_report : (r r' : Report) → r.answer ≡ r'.answer → r.count ≡ r'.count → r.place ≡ r'.place → r ≡ r'
same_report r r' a c d =
    ap (λ (x : Answer). report_of x r.count r.place) a
    ∙ ap (λ (x : ℕ). report_of r'.answer x r.place) c
    ∙ ap (λ (x : ℕ). report_of r'.answer r'.count x) d

pub one_outcome : {o : Out} {r r' : Report} {m m' : Machine} {mem mem' : List ℕ} → Gives o r m mem → Gives o r' m' mem' → (r ≡ r') × (m ≡ m') × (mem ≡ mem')
one_outcome {o} {r} {r'} p q =
    let a = same_answer r.answer r'.answer (p.number ∙ sym q.number) in
    (same_report r r' a (p.count ∙ sym q.count) (p.place ∙ sym q.place), p.m ∙ sym q.m, p.mem ∙ sym q.mem)

-- control: the general registers
pub one_general : (w : Decoded) (g : List ℕ) (base len : ℕ) (r r' : Result Order Answer) (h h' : List ℕ) → Controls w g base len r h → Controls w g base len r' h' → h ≡ h'
one_general w g base len r r' h h' p q = p.general ∙ ap (λ (o : Result Order Answer). general_after o w.d g) (p.order ∙ sym q.order) ∙ sym q.general
