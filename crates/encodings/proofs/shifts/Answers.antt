-- `encodings::shifts` meets its contract: each arm's code is its row's, and no row has another code of this column.
-- Assumes nothing.
use borrow.Author.Rules.{rules}
use mathlib.Core.Path.{refl}
use Prim.Native.Nat.{◌/◌}
use Rattle.encodings.specs.Encodings.{elevens, op_of, op_at}
use Rattle.encodings.proofs.Arms.{outside, column}
use Rattle.encodings.proofs.shifts.Goals as goal

pub returns-in-4 : goal.returns-in-4
unfolding op_of
returns-in-4 c = rw c.in-4.is

pub returns-in-68 : goal.returns-in-68
unfolding op_of
returns-in-68 c = rw c.in-68.is

pub returns-in-132 : goal.returns-in-132
unfolding op_of
returns-in-132 c = rw c.in-132.is

pub returns-in-260 : goal.returns-in-260
unfolding op_of
returns-in-260 c = rw c.in-260.is

pub returns-in-324 : goal.returns-in-324
unfolding op_of
returns-in-324 c = rw c.in-324.is

pub returns-in-388 : goal.returns-in-388
unfolding op_of
returns-in-388 c = rw c.in-388.is

pub returns-in-516 : goal.returns-in-516
unfolding op_of
returns-in-516 c = rw c.in-516.is

pub returns-in-580 : goal.returns-in-580
unfolding op_of
returns-in-580 c = rw c.in-580.is

pub returns-in-644 : goal.returns-in-644
unfolding op_of
returns-in-644 c = rw c.in-644.is

pub returns-in-772 : goal.returns-in-772
unfolding op_of
returns-in-772 c = rw c.in-772.is

pub returns-in-836 : goal.returns-in-836
unfolding op_of
returns-in-836 c = rw c.in-836.is

pub returns-in-900 : goal.returns-in-900
unfolding op_of
returns-in-900 c = rw c.in-900.is

pub returns-in-452 : goal.returns-in-452
unfolding op_of
returns-in-452 c = rw c.in-452.is

pub returns-in-708 : goal.returns-in-708
unfolding op_of
returns-in-708 c = rw c.in-708.is

pub returns-in-1028 : goal.returns-in-1028
unfolding op_of
returns-in-1028 c = rw c.in-1028.is

pub returns-in-1092 : goal.returns-in-1092
unfolding op_of
returns-in-1092 c = rw c.in-1092.is

pub returns-in-1156 : goal.returns-in-1156
unfolding op_of
returns-in-1156 c = rw c.in-1156.is

pub returns-in-1220 : goal.returns-in-1220
unfolding op_of
returns-in-1220 c = rw c.in-1220.is

pub returns-in-1284 : goal.returns-in-1284
unfolding op_of
returns-in-1284 c = rw c.in-1284.is

pub returns-in-1540 : goal.returns-in-1540
unfolding op_of
returns-in-1540 c = rw c.in-1540.is

pub returns-in-1604 : goal.returns-in-1604
unfolding op_of
returns-in-1604 c = rw c.in-1604.is

pub returns-in_default : goal.returns-in_default
unfolding op_of
returns-in_default c = outside (op_at 4) 4 64 32 (column 4 elevens) refl _ (c.args.code / 64) (search rules) (search rules) c.in_default.in_default-own.rest
