-- `encodings::sums` meets its contract: each arm's code is its row's, and no row has another code of this column.
-- Assumes nothing.
use borrow.Author.Rules.{rules}
use mathlib.Core.Path.{refl}
use Prim.Native.Nat.{◌/◌}
use Rattle.encodings.specs.Encodings.{elevens, op_of, op_at}
use Rattle.encodings.proofs.Arms.{outside, column}
use Rattle.encodings.proofs.sums.Goals as goal

pub returns-in-0 : goal.returns-in-0
unfolding op_of
returns-in-0 c = rw c.in-0.is

pub returns-in-64 : goal.returns-in-64
unfolding op_of
returns-in-64 c = rw c.in-64.is

pub returns-in-128 : goal.returns-in-128
unfolding op_of
returns-in-128 c = rw c.in-128.is

pub returns-in-384 : goal.returns-in-384
unfolding op_of
returns-in-384 c = rw c.in-384.is

pub returns-in-512 : goal.returns-in-512
unfolding op_of
returns-in-512 c = rw c.in-512.is

pub returns-in-576 : goal.returns-in-576
unfolding op_of
returns-in-576 c = rw c.in-576.is

pub returns-in-640 : goal.returns-in-640
unfolding op_of
returns-in-640 c = rw c.in-640.is

pub returns-in-768 : goal.returns-in-768
unfolding op_of
returns-in-768 c = rw c.in-768.is

pub returns-in-832 : goal.returns-in-832
unfolding op_of
returns-in-832 c = rw c.in-832.is

pub returns-in-896 : goal.returns-in-896
unfolding op_of
returns-in-896 c = rw c.in-896.is

pub returns-in-1024 : goal.returns-in-1024
unfolding op_of
returns-in-1024 c = rw c.in-1024.is

pub returns-in-1088 : goal.returns-in-1088
unfolding op_of
returns-in-1088 c = rw c.in-1088.is

pub returns-in-1152 : goal.returns-in-1152
unfolding op_of
returns-in-1152 c = rw c.in-1152.is

pub returns-in-1408 : goal.returns-in-1408
unfolding op_of
returns-in-1408 c = rw c.in-1408.is

pub returns-in-1536 : goal.returns-in-1536
unfolding op_of
returns-in-1536 c = rw c.in-1536.is

pub returns-in-1600 : goal.returns-in-1600
unfolding op_of
returns-in-1600 c = rw c.in-1600.is

pub returns-in-1664 : goal.returns-in-1664
unfolding op_of
returns-in-1664 c = rw c.in-1664.is

pub returns-in-1792 : goal.returns-in-1792
unfolding op_of
returns-in-1792 c = rw c.in-1792.is

pub returns-in-1856 : goal.returns-in-1856
unfolding op_of
returns-in-1856 c = rw c.in-1856.is

pub returns-in-1920 : goal.returns-in-1920
unfolding op_of
returns-in-1920 c = rw c.in-1920.is

pub returns-in_default : goal.returns-in_default
unfolding op_of
returns-in_default c = outside (op_at 4) 0 64 32 (column 0 elevens) refl _ (c.args.code / 64) (search rules) (search rules) c.in_default.in_default-own.rest
