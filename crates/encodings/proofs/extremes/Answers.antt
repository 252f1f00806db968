-- `encodings::extremes` meets its contract: each arm's code is its row's, and no row has another code of this column.
-- Assumes nothing.
use borrow.Author.Rules.{rules}
use mathlib.Core.Path.{refl}
use Prim.Native.Nat.{◌/◌}
use Rattle.encodings.specs.Encodings.{elevens, op_of, op_at}
use Rattle.encodings.proofs.Arms.{outside, column}
use Rattle.encodings.proofs.extremes.Goals as goal

pub returns-in-2 : goal.returns-in-2
unfolding op_of
returns-in-2 c = rw c.in-2.is

pub returns-in-66 : goal.returns-in-66
unfolding op_of
returns-in-66 c = rw c.in-66.is

pub returns-in-130 : goal.returns-in-130
unfolding op_of
returns-in-130 c = rw c.in-130.is

pub returns-in-258 : goal.returns-in-258
unfolding op_of
returns-in-258 c = rw c.in-258.is

pub returns-in-322 : goal.returns-in-322
unfolding op_of
returns-in-322 c = rw c.in-322.is

pub returns-in-386 : goal.returns-in-386
unfolding op_of
returns-in-386 c = rw c.in-386.is

pub returns-in-514 : goal.returns-in-514
unfolding op_of
returns-in-514 c = rw c.in-514.is

pub returns-in-578 : goal.returns-in-578
unfolding op_of
returns-in-578 c = rw c.in-578.is

pub returns-in-642 : goal.returns-in-642
unfolding op_of
returns-in-642 c = rw c.in-642.is

pub returns-in-770 : goal.returns-in-770
unfolding op_of
returns-in-770 c = rw c.in-770.is

pub returns-in-834 : goal.returns-in-834
unfolding op_of
returns-in-834 c = rw c.in-834.is

pub returns-in-898 : goal.returns-in-898
unfolding op_of
returns-in-898 c = rw c.in-898.is

pub returns-in-1026 : goal.returns-in-1026
unfolding op_of
returns-in-1026 c = rw c.in-1026.is

pub returns-in-1090 : goal.returns-in-1090
unfolding op_of
returns-in-1090 c = rw c.in-1090.is

pub returns-in-1154 : goal.returns-in-1154
unfolding op_of
returns-in-1154 c = rw c.in-1154.is

pub returns-in-1282 : goal.returns-in-1282
unfolding op_of
returns-in-1282 c = rw c.in-1282.is

pub returns-in-1346 : goal.returns-in-1346
unfolding op_of
returns-in-1346 c = rw c.in-1346.is

pub returns-in-1410 : goal.returns-in-1410
unfolding op_of
returns-in-1410 c = rw c.in-1410.is

pub returns-in_default : goal.returns-in_default
unfolding op_of
returns-in_default c = outside (op_at 4) 2 64 32 (column 2 elevens) refl _ (c.args.code / 64) (search rules) (search rules) c.in_default.in_default-own.rest
