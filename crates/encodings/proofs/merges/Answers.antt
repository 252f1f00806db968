-- `encodings::merges` meets its contract: each arm's code is its row's, and no row has another code of this column.
-- Assumes nothing.
use borrow.Author.Rules.{rules}
use mathlib.Core.Path.{refl}
use Prim.Native.Nat.{◌/◌}
use Rattle.encodings.specs.Encodings.{elevens, op_of, op_at}
use Rattle.encodings.proofs.Arms.{outside, column}
use Rattle.encodings.proofs.merges.Goals as goal

pub returns-in-1036 : goal.returns-in-1036
unfolding op_of
returns-in-1036 c = rw c.in-1036.is

pub returns-in-1100 : goal.returns-in-1100
unfolding op_of
returns-in-1100 c = rw c.in-1100.is

pub returns-in-12 : goal.returns-in-12
unfolding op_of
returns-in-12 c = rw c.in-12.is

pub returns-in-76 : goal.returns-in-76
unfolding op_of
returns-in-76 c = rw c.in-76.is

pub returns-in-140 : goal.returns-in-140
unfolding op_of
returns-in-140 c = rw c.in-140.is

pub returns-in-268 : goal.returns-in-268
unfolding op_of
returns-in-268 c = rw c.in-268.is

pub returns-in-332 : goal.returns-in-332
unfolding op_of
returns-in-332 c = rw c.in-332.is

pub returns-in-396 : goal.returns-in-396
unfolding op_of
returns-in-396 c = rw c.in-396.is

pub returns-in-524 : goal.returns-in-524
unfolding op_of
returns-in-524 c = rw c.in-524.is

pub returns-in-588 : goal.returns-in-588
unfolding op_of
returns-in-588 c = rw c.in-588.is

pub returns-in-652 : goal.returns-in-652
unfolding op_of
returns-in-652 c = rw c.in-652.is

pub returns-in-780 : goal.returns-in-780
unfolding op_of
returns-in-780 c = rw c.in-780.is

pub returns-in-844 : goal.returns-in-844
unfolding op_of
returns-in-844 c = rw c.in-844.is

pub returns-in-908 : goal.returns-in-908
unfolding op_of
returns-in-908 c = rw c.in-908.is

pub returns-in_default : goal.returns-in_default
unfolding op_of
returns-in_default c = outside (op_at 4) 12 64 32 (column 12 elevens) refl _ (c.args.code / 64) (search rules) (search rules) c.in_default.in_default-own.rest
