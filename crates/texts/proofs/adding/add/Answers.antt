-- `add` meets its contract: what is overwritten is put there.
use Rattle.std.proofs.Common.{◌+◌, ◌-◌, refl, arith, length}
use Rattle.lines.proofs.Copying.{over}
use Rattle.texts.proofs.adding.add.Goals as goal

pub returns-clause-adds : goal.returns-clause-adds
returns-clause-adds c =
    let a = c.args in
    record { end = refl; buffer = over a.out.now a.at (a.at + length a.text.now - a.at) c.copy_from_slice.new.self a.text.now (omega arith) (omega arith) c.copy_from_slice.ensures.after }
