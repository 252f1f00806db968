-- `encodings::four` meets its contract: the low six bits tell the column of a code.
-- Assumes nothing.
use borrow.Author.Rules.{rules}
use mathlib.Core.Path.{◌∙◌}
use Rattle.encodings.specs.Encodings.{op_of}
use Rattle.encodings.proofs.Words.{in_column, in_none}
use Rattle.encodings.proofs.four.Goals as goal

pub sums-requires : goal.sums-requires
unfolding op_of
sums-requires c = search rules

pub extremes-requires : goal.extremes-requires
unfolding op_of
extremes-requires c = search rules

pub shifts-requires : goal.shifts-requires
unfolding op_of
shifts-requires c = search rules

pub compares-requires : goal.compares-requires
unfolding op_of
compares-requires c = search rules

pub products-requires : goal.products-requires
unfolding op_of
products-requires c = search rules

pub merges-requires : goal.merges-requires
unfolding op_of
merges-requires c = search rules

pub packs-requires : goal.packs-requires
unfolding op_of
packs-requires c = search rules

pub returns-in-0 : goal.returns-in-0
unfolding op_of
returns-in-0 c = c.sums.ensures

pub returns-in-2 : goal.returns-in-2
unfolding op_of
returns-in-2 c = c.extremes.ensures

pub returns-in-4 : goal.returns-in-4
unfolding op_of
returns-in-4 c = c.shifts.ensures

pub returns-in-6 : goal.returns-in-6
unfolding op_of
returns-in-6 c = c.compares.ensures ∙ in_column _ 6 (search rules) c.in-6.is

pub returns-in-8 : goal.returns-in-8
unfolding op_of
returns-in-8 c = c.products.ensures

pub returns-in-12 : goal.returns-in-12
unfolding op_of
returns-in-12 c = c.merges.ensures

pub returns-in-14 : goal.returns-in-14
unfolding op_of
returns-in-14 c = c.packs.ensures

pub returns-in-32 : goal.returns-in-32
unfolding op_of
returns-in-32 c = in_column _ 32 (search rules) c.in-32.is

pub returns-in-33 : goal.returns-in-33
unfolding op_of
returns-in-33 c = in_column _ 33 (search rules) c.in-33.is

pub returns-in-34 : goal.returns-in-34
unfolding op_of
returns-in-34 c = in_column _ 34 (search rules) c.in-34.is

pub returns-in-36 : goal.returns-in-36
unfolding op_of
returns-in-36 c = in_column _ 36 (search rules) c.in-36.is

pub returns-in-37 : goal.returns-in-37
unfolding op_of
returns-in-37 c = in_column _ 37 (search rules) c.in-37.is

pub returns-in-38 : goal.returns-in-38
unfolding op_of
returns-in-38 c = in_column _ 38 (search rules) c.in-38.is

pub returns-in-39 : goal.returns-in-39
unfolding op_of
returns-in-39 c = in_column _ 39 (search rules) c.in-39.is

pub returns-in-40 : goal.returns-in-40
unfolding op_of
returns-in-40 c = in_column _ 40 (search rules) c.in-40.is

pub returns-in-41 : goal.returns-in-41
unfolding op_of
returns-in-41 c = in_column _ 41 (search rules) c.in-41.is

pub returns-in-42 : goal.returns-in-42
unfolding op_of
returns-in-42 c = in_column _ 42 (search rules) c.in-42.is

pub returns-in-43 : goal.returns-in-43
unfolding op_of
returns-in-43 c = in_column _ 43 (search rules) c.in-43.is

pub returns-in-44 : goal.returns-in-44
unfolding op_of
returns-in-44 c = in_column _ 44 (search rules) c.in-44.is

pub returns-in_default : goal.returns-in_default
unfolding op_of
returns-in_default c = in_none _ (search rules) c.in_default.in_default-own.rest
