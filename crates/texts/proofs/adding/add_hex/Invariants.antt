-- `add_hex` meets its contract: the hex of the bytes before is added.
use Rattle.std.proofs.Common.{◌≡◌, length, take}
use Rattle.texts.specs.Texts.{hex_of}
use Rattle.texts.specs.Writing.{Adds}
use Rattle.texts.proofs.adding.add_hex.Given as goal

abbrev pub invariant-loop-b : goal.invariant-loop-b
invariant-loop-b l = (length l.out ≡ length l.initial.out) × Adds l.initial.out l.at (hex_of (take l.b-index l.bytes)) l.end l.out
