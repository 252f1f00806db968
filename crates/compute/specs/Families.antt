-- What the families of instructions compute, by the width and the sign of their lanes. Assumes nothing.
use Rattle.std.specs.Prelude.{List, ℕ}
use Rattle.lanes.specs.declared.Size.{Size}
use Rattle.encodings.specs.declared.ops.Sign.{Sign}
use Rattle.encodings.specs.declared.ops.Sign.TheVariants.{Unsigned, Signed}
use Rattle.lanes.specs.declared.Marked.{Marked}
use Rattle.lanes.specs.declared.Op.{Op}
use Rattle.lanes.specs.declared.Op.TheVariants.{SumBytesU, SumBytesS, SumHalvesS, MulSumBytesU, MulSumHalvesU, MulSumHalvesS}
use Rattle.lanes.specs.declared.Size.TheVariants.{Byte, Half, Word}
use Rattle.lanes.specs.Integer.{signed, modulo, sat_u, sat_s}
use Rattle.lanes.specs.Operations.{applied}
use Rattle.packing.specs.Resized.{unsigned, packed, unpacked_high, unpacked_low}

-- the operation for unsigned lanes, or the one for signed lanes
abbrev pub by_sign : Sign → Op → Op → Op
by_sign Unsigned u s = u
by_sign Signed u s = s

-- bytes with no mark
abbrev pub unclipped : List ℕ → Marked
unclipped v = record { bytes = v; marks = 0 }

-- products of lanes of that width; of words there are none
abbrev pub products : Size → Op → List ℕ → List ℕ → Marked
products Byte o a b = applied Half o a b b
products Half o a b = applied Word o a b b
products Word o a b = unclipped a

-- sums within each word: vsum4ubs, vsum4sbs, vsum4shs
abbrev pub quarter_sums : Size → Sign → List ℕ → List ℕ → Marked
quarter_sums Byte Unsigned a b = applied Word SumBytesU a b b
quarter_sums Byte Signed a b = applied Word SumBytesS a b b
quarter_sums Half Unsigned a b = unclipped a
quarter_sums Half Signed a b = applied Word SumHalvesS a b b
quarter_sums Word s a b = unclipped a

-- sums of products within each word: vmsumubm, vmsumuhm, vmsumshm
abbrev pub product_sums : Size → Sign → List ℕ → List ℕ → List ℕ → Marked
product_sums Byte Unsigned a b c = applied Word MulSumBytesU a b c
product_sums Byte Signed a b c = unclipped a
product_sums Half Unsigned a b c = applied Word MulSumHalvesU a b c
product_sums Half Signed a b c = applied Word MulSumHalvesS a b c
product_sums Word s a b c = unclipped a

-- packs of lanes of that width, modulo: vpkuhum, vpkuwum
abbrev pub packs_modulo : Size → List ℕ → List ℕ → Marked
packs_modulo Byte a b = unclipped a
packs_modulo Half a b = unclipped (packed Half Byte unsigned modulo a b).bytes
packs_modulo Word a b = unclipped (packed Word Half unsigned modulo a b).bytes

-- saturating packs of lanes of that width and that sign, to lanes of the second sign; none makes signed lanes of unsigned ones
abbrev pub packs_saturated : Size → Sign → Sign → List ℕ → List ℕ → Marked
packs_saturated Byte s t a b = unclipped a
packs_saturated Half Unsigned Unsigned a b = packed Half Byte unsigned sat_u a b
packs_saturated Half Unsigned Signed a b = unclipped a
packs_saturated Half Signed Unsigned a b = packed Half Byte signed sat_u a b
packs_saturated Half Signed Signed a b = packed Half Byte signed sat_s a b
packs_saturated Word Unsigned Unsigned a b = packed Word Half unsigned sat_u a b
packs_saturated Word Unsigned Signed a b = unclipped a
packs_saturated Word Signed Unsigned a b = packed Word Half signed sat_u a b
packs_saturated Word Signed Signed a b = packed Word Half signed sat_s a b

-- unpacks of lanes of that width
abbrev pub unpacks_high : Size → List ℕ → Marked
unpacks_high Byte b = unclipped (unpacked_high Byte Half b)
unpacks_high Half b = unclipped (unpacked_high Half Word b)
unpacks_high Word b = unclipped b

abbrev pub unpacks_low : Size → List ℕ → Marked
unpacks_low Byte b = unclipped (unpacked_low Byte Half b)
unpacks_low Half b = unclipped (unpacked_low Half Word b)
unpacks_low Word b = unclipped b
