-- `encodings::operation` meets its contract: the primary tells what the operation depends on.
-- Assumes nothing.
use mathlib.Core.Path.{◌∙◌}
use Rattle.encodings.proofs.Words.{of_primary, of_31, of_14, of_others}
use Rattle.encodings.proofs.operation.Goals as goal

pub returns-in-4 : goal.returns-in-4
returns-in-4 c = c.four.ensures ∙ of_primary 4 _ c.in-4.is

pub returns-in-31 : goal.returns-in-31
returns-in-31 c = c.indexed.ensures ∙ of_31 _ c.in-31.is

pub returns-in-14 : goal.returns-in-14
returns-in-14 c = of_14 _ c.in-14.is

pub returns-in_default : goal.returns-in_default
returns-in_default c = of_others _ c.in_default.in_default-own.rest.0.0.1 c.in_default.in_default-own.rest.0.1 c.in_default.in_default-own.rest.1
