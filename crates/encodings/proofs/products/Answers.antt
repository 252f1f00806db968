-- `encodings::products` meets its contract: each arm's code is its row's, and no row has another code of this column.
-- Assumes nothing.
use borrow.Author.Rules.{rules}
use mathlib.Core.Path.{refl}
use Prim.Native.Nat.{◌/◌}
use Rattle.encodings.specs.Encodings.{elevens, op_of, op_at}
use Rattle.encodings.proofs.Arms.{outside, column}
use Rattle.encodings.proofs.products.Goals as goal

pub returns-in-8 : goal.returns-in-8
unfolding op_of
returns-in-8 c = rw c.in-8.is

pub returns-in-72 : goal.returns-in-72
unfolding op_of
returns-in-72 c = rw c.in-72.is

pub returns-in-264 : goal.returns-in-264
unfolding op_of
returns-in-264 c = rw c.in-264.is

pub returns-in-328 : goal.returns-in-328
unfolding op_of
returns-in-328 c = rw c.in-328.is

pub returns-in-520 : goal.returns-in-520
unfolding op_of
returns-in-520 c = rw c.in-520.is

pub returns-in-584 : goal.returns-in-584
unfolding op_of
returns-in-584 c = rw c.in-584.is

pub returns-in-776 : goal.returns-in-776
unfolding op_of
returns-in-776 c = rw c.in-776.is

pub returns-in-840 : goal.returns-in-840
unfolding op_of
returns-in-840 c = rw c.in-840.is

pub returns-in-1544 : goal.returns-in-1544
unfolding op_of
returns-in-1544 c = rw c.in-1544.is

pub returns-in-1800 : goal.returns-in-1800
unfolding op_of
returns-in-1800 c = rw c.in-1800.is

pub returns-in-1608 : goal.returns-in-1608
unfolding op_of
returns-in-1608 c = rw c.in-1608.is

pub returns-in-1672 : goal.returns-in-1672
unfolding op_of
returns-in-1672 c = rw c.in-1672.is

pub returns-in-1928 : goal.returns-in-1928
unfolding op_of
returns-in-1928 c = rw c.in-1928.is

pub returns-in_default : goal.returns-in_default
unfolding op_of
returns-in_default c = outside (op_at 4) 8 64 32 (column 8 elevens) refl _ (c.args.code / 64) (search rules) (search rules) c.in_default.in_default-own.rest
