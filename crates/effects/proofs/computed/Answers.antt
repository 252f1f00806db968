-- `effects::computed` meets its contract: of a compare that sets CR6, and of every other instruction.
-- Assumes nothing.
use lib.ListN.{length}
use mathlib.Core.Path.{◌≡◌, sym, ◌∙◌}
use Rattle.effects.proofs.Compared.{left_compared, left_computed}
use borrow.Author.Rules.{rules}
use Rattle.effects.proofs.computed.Goals as goal

pub returns-then-records : goal.returns-then-records
returns-then-records c = let s = c in
    let x = c.vector in
    let long : length x.result ≡ 16 = search rules in
    left_compared s.args.op s.args.w s.args.v.now _ s.args.flags _ _ x.result long x.ensures
    (sym c.records.ensures ∙ c.if-records.true)
    c.compute-marks.ensures
    (rw (← c.marked.ensures) c.recorded.ensures)

pub returns : goal.returns
returns c = let s = c in
    left_computed s.args.op s.args.w s.args.v.now _ s.args.flags _ _ (sym c.records.ensures ∙ c.if-records.false) c.compute-marks-2.ensures c.marked-2.ensures
