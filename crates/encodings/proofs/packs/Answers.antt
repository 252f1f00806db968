-- `encodings::packs` meets its contract: each arm's code is its row's, and no row has another code of this column.
-- Assumes nothing.
use borrow.Author.Rules.{rules}
use mathlib.Core.Path.{refl}
use Prim.Native.Nat.{◌/◌}
use Rattle.encodings.specs.Encodings.{elevens, op_of, op_at}
use Rattle.encodings.proofs.Arms.{outside, column}
use Rattle.encodings.proofs.packs.Goals as goal

pub returns-in-14 : goal.returns-in-14
unfolding op_of
returns-in-14 c = rw c.in-14.is

pub returns-in-78 : goal.returns-in-78
unfolding op_of
returns-in-78 c = rw c.in-78.is

pub returns-in-142 : goal.returns-in-142
unfolding op_of
returns-in-142 c = rw c.in-142.is

pub returns-in-206 : goal.returns-in-206
unfolding op_of
returns-in-206 c = rw c.in-206.is

pub returns-in-270 : goal.returns-in-270
unfolding op_of
returns-in-270 c = rw c.in-270.is

pub returns-in-334 : goal.returns-in-334
unfolding op_of
returns-in-334 c = rw c.in-334.is

pub returns-in-398 : goal.returns-in-398
unfolding op_of
returns-in-398 c = rw c.in-398.is

pub returns-in-462 : goal.returns-in-462
unfolding op_of
returns-in-462 c = rw c.in-462.is

pub returns-in-526 : goal.returns-in-526
unfolding op_of
returns-in-526 c = rw c.in-526.is

pub returns-in-590 : goal.returns-in-590
unfolding op_of
returns-in-590 c = rw c.in-590.is

pub returns-in-654 : goal.returns-in-654
unfolding op_of
returns-in-654 c = rw c.in-654.is

pub returns-in-718 : goal.returns-in-718
unfolding op_of
returns-in-718 c = rw c.in-718.is

pub returns-in_default : goal.returns-in_default
unfolding op_of
returns-in_default c = outside (op_at 4) 14 64 32 (column 14 elevens) refl _ (c.args.code / 64) (search rules) (search rules) c.in_default.in_default-own.rest
