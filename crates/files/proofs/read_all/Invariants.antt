-- `read_all` meets its contract: what stands at the front is what the reader gave, and where the room is not full the input is at its end; what the
-- room may still grow by is the measure.
use Rattle.std.proofs.Common.{take, ◌-◌, ◌<◌, ◌≤◌, vec_len}
use Rattle.std.specs.Io.KnownBytes.{Consumes, IsAtEnd}
use Rattle.files.proofs.read_all.Given as goal

abbrev pub invariant-loop-n : goal.invariant-loop-n
invariant-loop-n g l =
    (l.n ≤ vec_len l.bytes) × (vec_len l.bytes ≤ l.limit)
    × Consumes (g.R.Read.remaining l.initial.reader) (g.R.Read.remaining l.reader) (take l.n l.bytes.items)
    × (l.n < vec_len l.bytes → IsAtEnd (g.R.Read.remaining l.reader))

abbrev pub decreases-loop-n : goal.decreases-loop-n
decreases-loop-n g l = l.limit - vec_len l.bytes
