-- `store_element` meets its contract: what is copied is the part of the register.
use Rattle.std.proofs.Common.{ℕ, take, drop, ap, ◌∙◌, ◌≡◌, ◌+◌, ◌-◌, arith, rules, length}
use Rattle.lines.specs.Lines.{part}
use Rattle.lines.proofs.Copying.{over}
use Rattle.lines.proofs.Parts.{part_long}
use Rattle.lines.proofs.store_element.Goals as goal

pub returns : goal.returns
unfolding part
returns c =
    let a = c.args in
    let e : length a.x ≡ 16 = search rules in
    let long = part_long a.x a.e a.n (omega arith) in
    let n : a.e + a.n - a.e ≡ a.n = omega arith in
    over a.s.now (a.o + a.e) (a.o + a.e + a.n - (a.o + a.e)) c.copy_from_slice.new.self (part a.x a.e a.n) (omega arith) (omega arith) (c.copy_from_slice.ensures.after ∙ ap (λ (k : ℕ). take k (drop a.e a.x)) n)
