-- the text of `Hex` is its definition: so far the bytes before are written.
use Rattle.std.proofs.Common.{take}
use Rattle.std.specs.Fmt.{HasWritten, IsPlainFormatter}
use Rattle.texts.specs.Texts.{hex_of}
use Rattle.texts.proofs.HexDisplay.fmt.Given as goal

abbrev pub invariant-loop-b : goal.invariant-loop-b
invariant-loop-b g l = IsPlainFormatter l.initial.f → HasWritten g.W.Write.write_str_gives l.initial.f (hex_of (take l.b-index l.bytes)) l.f
