-- `load_element` meets its contract: what is copied is the part, and it goes over zeros.
use Rattle.std.proofs.Common.{ℕ, take, drop, ap, ◌∙◌, ◌≡◌, ◌+◌, ◌-◌, arith}
use Rattle.lines.specs.Lines.{part, zeros}
use Rattle.lines.proofs.Copying.{over}
use Rattle.lines.proofs.Parts.{part_long}
use Rattle.lines.proofs.load_element.Goals as goal

pub returns : goal.returns
unfolding part
returns c =
    let a = c.args in
    let long = part_long a.s.now (a.o + a.e) a.n (omega arith) in
    let n : a.o + a.e + a.n - (a.o + a.e) ≡ a.n = omega arith in
    over zeros a.e (a.e + a.n - a.e) c.copy_from_slice.new.self (part a.s.now (a.o + a.e) a.n) (omega arith) (omega arith) (c.copy_from_slice.ensures.after ∙ ap (λ (k : ℕ). take k (drop (a.o + a.e) a.s.now)) n)
