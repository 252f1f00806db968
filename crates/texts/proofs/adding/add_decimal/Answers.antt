-- `add_decimal` meets its contract: of the ten digits those from the first that stays are added.
use Prim.Native.Nat.{◌-◌}
use Rattle.texts.specs.Texts.{decimal_of}
use mathlib.Core.Path.{◌≡◌}
use lib.Seq.{take_all}
use lib.ListN.{length, drop, length-drop}
use native.Mathlib.Omega.{arith}
use borrow.Author.Rules.{rules}
use Rattle.texts.proofs.adding.add_decimal.Goals as goal

pub returns : goal.returns
unfolding decimal_of
returns c = let l : length c.ten_digits-ten.result ≡ 10 = search rules in
    let d = length-drop c.zeros_before-from.result c.ten_digits-ten.result in
    let t = take_all (10 - c.zeros_before-from.result) (drop c.zeros_before-from.result c.ten_digits-ten.result) (omega arith) in
    let a = rw t at c.add.ensures.adds in
    (rw (← c.ten_digits-ten.ensures, ← c.zeros_before-from.ensures.0) a, let e = a.end in omega arith)
