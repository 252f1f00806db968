-- `vector::parts::saturated_halves` meets its contract. Assumes nothing.
use Rattle.vector.proofs.Exact.{narrow_fits, saturates}
use Rattle.vector.proofs.parts.saturated_halves.Goals as goal

pub overflow_cast-low : goal.overflow_cast-low
overflow_cast-low c = narrow_fits c.args.z c.requires.0 c.requires.1

pub returns : goal.returns
returns c = rw (c.with_marks.ensures, c.of_halves.ensures) (saturates c.args.z c.requires.0 c.requires.1)
