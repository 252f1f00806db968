-- `encodings::indexed` meets its contract: each arm's code is its row's, and no row has another code.
-- Assumes nothing.
use borrow.Author.Rules.{rules}
use mathlib.Core.Path.{refl}
use Prim.Native.Nat.{◌*◌}
use Rattle.encodings.specs.Encodings.{indexes, op_of, op_at}
use Rattle.encodings.proofs.Arms.{outside, numbers}
use Rattle.encodings.proofs.indexed.Goals as goal

pub returns-in-6 : goal.returns-in-6
unfolding op_of
returns-in-6 c = rw c.in-6.is

pub returns-in-38 : goal.returns-in-38
unfolding op_of
returns-in-38 c = rw c.in-38.is

pub returns-in-7 : goal.returns-in-7
unfolding op_of
returns-in-7 c = rw c.in-7.is

pub returns-in-39 : goal.returns-in-39
unfolding op_of
returns-in-39 c = rw c.in-39.is

pub returns-in-71 : goal.returns-in-71
unfolding op_of
returns-in-71 c = rw c.in-71.is

pub returns-in-103 : goal.returns-in-103
unfolding op_of
returns-in-103 c = rw c.in-103.is

pub returns-in-359 : goal.returns-in-359
unfolding op_of
returns-in-359 c = rw c.in-359.is

pub returns-in-135 : goal.returns-in-135
unfolding op_of
returns-in-135 c = rw c.in-135.is

pub returns-in-167 : goal.returns-in-167
unfolding op_of
returns-in-167 c = rw c.in-167.is

pub returns-in-199 : goal.returns-in-199
unfolding op_of
returns-in-199 c = rw c.in-199.is

pub returns-in-231 : goal.returns-in-231
unfolding op_of
returns-in-231 c = rw c.in-231.is

pub returns-in-487 : goal.returns-in-487
unfolding op_of
returns-in-487 c = rw c.in-487.is

pub returns-in_default : goal.returns-in_default
unfolding op_of
returns-in_default c = outside (λ n. op_at 31 (2 * n)) 0 1 1024 (numbers indexes) refl _ c.args.code (search rules) (search rules) c.in_default.in_default-own.rest
