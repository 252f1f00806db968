-- `part_name` meets its contract: the four bytes are those that the random source gave.
use Rattle.files.proofs.part_name.Goals as goal

pub returns : goal.returns
returns g c = record { beside = (c.fill_bytes.new.buf, c.fill_bytes.auto.buf, c.in_ok-format.ensures.ok) }
