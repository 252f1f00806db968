-- `machine::Machine::run` meets its contract: each test is one of the definition's, in its order.
use Rattle.machine.specs.Runs.{run_of}
use Rattle.control.specs.Answers.{number_of}
use Rattle.std.proofs.Common.{refl, ap}
use borrow.Author.Tests.{le-leb, lt-leb}
use Rattle.machine.proofs.Machine.run.Goals as goal

pub returns-then-not-well_placed : goal.returns-then-not-well_placed
unfolding run_of
returns-then-not-well_placed c = rw (← c.well_placed.ensures, c.if-not-well_placed.true)
    (record { number = ap number_of c.kept.ensures.0; count = c.kept.ensures.1; place = c.kept.ensures.2; m = c.kept.ensures.3; mem = refl })

pub returns-then-code-gt16384 : goal.returns-then-code-gt16384
unfolding run_of
returns-then-code-gt16384 c = rw (← c.well_placed.ensures, c.if-not-well_placed.false, lt-leb _ _ c.if-code-gt16384.true)
    (record { number = ap number_of c.kept-then-code-gt16384.ensures.0; count = c.kept-then-code-gt16384.ensures.1; place = c.kept-then-code-gt16384.ensures.2; m = c.kept-then-code-gt16384.ensures.3; mem = refl })

pub returns-then-code-place : goal.returns-then-code-place
unfolding run_of
returns-then-code-place c = rw (← c.well_placed.ensures, c.if-not-well_placed.false, le-leb _ _ c.if-code-gt16384.false, lt-leb _ _ c.if-code-place.true)
    (record { number = ap number_of c.kept-then-code-place.ensures.0; count = c.kept-then-code-place.ensures.1; place = c.kept-then-code-place.ensures.2; m = c.kept-then-code-place.ensures.3; mem = refl })

pub returns : goal.returns
unfolding run_of
returns c = rw (← c.well_placed.ensures, c.if-not-well_placed.false, le-leb _ _ c.if-code-gt16384.false, le-leb _ _ c.if-code-place.false) c.steps-r.ensures
