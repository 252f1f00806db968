-- `digits` meets its contract: after each digit the digits that are left, after the value so far, are the number.
use Rattle.std.proofs.Common.{◌≡◌, ◌≤◌, drop}
use Rattle.reading.specs.Numbers.{digits_of}
use Rattle.reading.proofs.numbers.digits.Given as goal

abbrev pub invariant-loop-c : goal.invariant-loop-c
invariant-loop-c l = (l.v ≤ 4294967296) × (digits_of l.base 0 l.text ≡ digits_of l.base l.v (drop l.c-index l.text))
