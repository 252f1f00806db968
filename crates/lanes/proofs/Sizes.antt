-- Each size of a lane is a width. Assumes nothing.
use Rattle.std.proofs.Common.{◌^◌, refl, arith}
use Rattle.lanes.specs.declared.Size.{Size}
use Rattle.lanes.specs.declared.Size.TheVariants.{Byte, Half, Word}
use Rattle.lanes.specs.Operations.{width_of}
use Rattle.lanes.specs.Width.{Width}

pub width_of_lem : (s : Size) → Width (width_of s) (2 ^ width_of s)
width_of_lem Byte = record { some = omega arith; most = omega arith; power = refl; wide = omega arith; small = omega arith; even = refl }
width_of_lem Half = record { some = omega arith; most = omega arith; power = refl; wide = omega arith; small = omega arith; even = refl }
width_of_lem Word = record { some = omega arith; most = omega arith; power = refl; wide = omega arith; small = omega arith; even = refl }
