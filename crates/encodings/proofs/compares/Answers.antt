-- `encodings::compares` meets its contract: each arm's code is its row's, and no row has another code of this column.
-- Assumes nothing.
use borrow.Author.Rules.{rules}
use mathlib.Core.Path.{refl}
use Prim.Native.Nat.{◌/◌}
use Rattle.encodings.specs.Encodings.{tens, op_of, op_at}
use Rattle.encodings.proofs.Arms.{outside, column}
use Rattle.encodings.proofs.compares.Goals as goal

pub returns-in-6 : goal.returns-in-6
unfolding op_of
returns-in-6 c = rw c.in-6.is

pub returns-in-70 : goal.returns-in-70
unfolding op_of
returns-in-70 c = rw c.in-70.is

pub returns-in-134 : goal.returns-in-134
unfolding op_of
returns-in-134 c = rw c.in-134.is

pub returns-in-518 : goal.returns-in-518
unfolding op_of
returns-in-518 c = rw c.in-518.is

pub returns-in-582 : goal.returns-in-582
unfolding op_of
returns-in-582 c = rw c.in-582.is

pub returns-in-646 : goal.returns-in-646
unfolding op_of
returns-in-646 c = rw c.in-646.is

pub returns-in-774 : goal.returns-in-774
unfolding op_of
returns-in-774 c = rw c.in-774.is

pub returns-in-838 : goal.returns-in-838
unfolding op_of
returns-in-838 c = rw c.in-838.is

pub returns-in-902 : goal.returns-in-902
unfolding op_of
returns-in-902 c = rw c.in-902.is

pub returns-in_default : goal.returns-in_default
unfolding op_of
returns-in_default c = outside (op_at 4) 6 64 16 (column 6 tens) refl _ (c.args.code / 64) (search rules) (search rules) c.in_default.in_default-own.rest
