-- ONE OUTCOME: two reports, machines and memories that one promise of a run or a step allows are equal.
-- Assumes nothing.
use Prim.Native.Nat.{ℕ}
use mathlib.Core.Path.{◌≡◌, sym, ap, ◌∙◌}
use mathlib.Core.List.{List}
use Rattle.machine.specs.declared.Machine.{Machine}
use Rattle.machine.specs.Runs.{Out}
use Rattle.host.specs.declared.CardReport.{CardReport}
use Rattle.host.specs.Reports.{Reports}

abbrev as_report : ℕ → ℕ → ℕ → CardReport
as_report answer count place = record { answer = answer; count = count; place = place }

told : {o : Out} {r : CardReport} {m : Machine} {mem : List ℕ} → Reports o r m mem → r ≡ as_report o.number o.count o.place
told {o} {r} p =
    ap (λ (x : ℕ). as_report x r.count r.place) p.answer
    ∙ ap (λ (x : ℕ). as_report o.number x r.place) p.count
    ∙ ap (λ (x : ℕ). as_report o.number o.count x) p.place

pub one_outcome : {o : Out} {r r' : CardReport} {m m' : Machine} {mem mem' : List ℕ} → Reports o r m mem → Reports o r' m' mem' → (r ≡ r') × (m ≡ m') × (mem ≡ mem')
one_outcome p q = (told p ∙ sym (told q), p.m ∙ sym q.m, p.mem ∙ sym q.mem)
