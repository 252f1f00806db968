-- Document 01, "Encodings", line by line and in its order: five sections, by the bits that tell an instruction, and in them a row an instruction.
-- Assumes nothing.
use Rattle.std.specs.Prelude.{ℕ, ◌+◌, ◌*◌, ◌^◌, List, [], ◌∷◌, eqb, Option, Some, None}
use Rattle.encodings.specs.Bits.{bits, pick}
use Rattle.lanes.specs.declared.Size.TheVariants.{Byte, Half, Word}
use Rattle.encodings.specs.declared.ops.Sign.TheVariants.{Unsigned, Signed}
use Rattle.encodings.specs.declared.ops.Op.{Op}
use Rattle.encodings.specs.declared.ops.Op.TheVariants.{AddMod, AddCarry, AddSat, SubMod, SubCarry, SubSat, Max, Min, Average, Rotate, ShiftLeft, ShiftRight, ShiftAlgebraic, ShiftWholeLeft, ShiftWholeRight, ShiftBytesLeft, ShiftBytesRight, And, AndNot, Or, Xor, Nor, FromStatus, ToStatus, MulOdd, MulEven, SumQuarter, SumHalf, SumAll, MergeHigh, MergeLow, Splat, SplatImmediate, PackMod, PackSat, UnpackHigh, UnpackLow, CompareEqual, CompareGreater, MulHighAdd, MulHighRoundAdd, MulLowAdd, MulSum, MulSumMixed, MulSumSat, Select, Permute, ShiftPair, LoadShiftLeft, LoadShiftRight, LoadElement, LoadLine, StoreElement, StoreLine, AddImmediate}

-- What tells an instruction: under primary 4 its low eleven bits, of a compare the low ten, of a form with four operands the low six; under
-- primary 31 bits 21 to 30; addi its primary alone.
pub data Form : Type 0 where
  eleven : Form
  ten : Form
  six : Form
  indexed : Form
  alone : Form

abbrev pub primary : Form → ℕ
primary eleven = 4
primary ten = 4
primary six = 4
primary indexed = 31
primary alone = 14

-- those bits of the word w
abbrev pub code : Form → ℕ → ℕ
code eleven w = bits 21 31 w
code ten w = bits 22 31 w
code six w = bits 26 31 w
code indexed w = bits 21 30 w
code alone w = bits 0 5 w

pub record Row : Type 0 where
  pub number : ℕ
  pub op : Op

abbrev pub row : ℕ → Op → Row
row n o = record { number = n; op = o }

-- primary 4, low eleven bits
abbrev pub elevens : List Row
elevens =
    -- add modulo; carry; saturating
    row 0 (AddMod Byte) ∷  -- vaddubm
    row 64 (AddMod Half) ∷  -- vadduhm
    row 128 (AddMod Word) ∷  -- vadduwm
    row 384 AddCarry ∷  -- vaddcuw
    row 512 (AddSat Byte Unsigned) ∷  -- vaddubs
    row 576 (AddSat Half Unsigned) ∷  -- vadduhs
    row 640 (AddSat Word Unsigned) ∷  -- vadduws
    row 768 (AddSat Byte Signed) ∷  -- vaddsbs
    row 832 (AddSat Half Signed) ∷  -- vaddshs
    row 896 (AddSat Word Signed) ∷  -- vaddsws
    -- subtract: each of these plus 1024
    row 1024 (SubMod Byte) ∷  -- vsububm
    row 1088 (SubMod Half) ∷  -- vsubuhm
    row 1152 (SubMod Word) ∷  -- vsubuwm
    row 1408 SubCarry ∷  -- vsubcuw
    row 1536 (SubSat Byte Unsigned) ∷  -- vsububs
    row 1600 (SubSat Half Unsigned) ∷  -- vsubuhs
    row 1664 (SubSat Word Unsigned) ∷  -- vsubuws
    row 1792 (SubSat Byte Signed) ∷  -- vsubsbs
    row 1856 (SubSat Half Signed) ∷  -- vsubshs
    row 1920 (SubSat Word Signed) ∷  -- vsubsws
    -- max
    row 2 (Max Byte Unsigned) ∷  -- vmaxub
    row 66 (Max Half Unsigned) ∷  -- vmaxuh
    row 130 (Max Word Unsigned) ∷  -- vmaxuw
    row 258 (Max Byte Signed) ∷  -- vmaxsb
    row 322 (Max Half Signed) ∷  -- vmaxsh
    row 386 (Max Word Signed) ∷  -- vmaxsw
    -- min: each plus 512
    row 514 (Min Byte Unsigned) ∷  -- vminub
    row 578 (Min Half Unsigned) ∷  -- vminuh
    row 642 (Min Word Unsigned) ∷  -- vminuw
    row 770 (Min Byte Signed) ∷  -- vminsb
    row 834 (Min Half Signed) ∷  -- vminsh
    row 898 (Min Word Signed) ∷  -- vminsw
    -- average: the max code plus 1024
    row 1026 (Average Byte Unsigned) ∷  -- vavgub
    row 1090 (Average Half Unsigned) ∷  -- vavguh
    row 1154 (Average Word Unsigned) ∷  -- vavguw
    row 1282 (Average Byte Signed) ∷  -- vavgsb
    row 1346 (Average Half Signed) ∷  -- vavgsh
    row 1410 (Average Word Signed) ∷  -- vavgsw
    -- rotate; shift left; right; right algebraic; of the whole register
    row 4 (Rotate Byte) ∷  -- vrlb
    row 68 (Rotate Half) ∷  -- vrlh
    row 132 (Rotate Word) ∷  -- vrlw
    row 260 (ShiftLeft Byte) ∷  -- vslb
    row 324 (ShiftLeft Half) ∷  -- vslh
    row 388 (ShiftLeft Word) ∷  -- vslw
    row 516 (ShiftRight Byte) ∷  -- vsrb
    row 580 (ShiftRight Half) ∷  -- vsrh
    row 644 (ShiftRight Word) ∷  -- vsrw
    row 772 (ShiftAlgebraic Byte) ∷  -- vsrab
    row 836 (ShiftAlgebraic Half) ∷  -- vsrah
    row 900 (ShiftAlgebraic Word) ∷  -- vsraw
    row 452 ShiftWholeLeft ∷  -- vsl
    row 708 ShiftWholeRight ∷  -- vsr
    row 1036 ShiftBytesLeft ∷  -- vslo
    row 1100 ShiftBytesRight ∷  -- vsro
    -- logic; the status word
    row 1028 And ∷  -- vand
    row 1092 AndNot ∷  -- vandc
    row 1156 Or ∷  -- vor
    row 1220 Xor ∷  -- vxor
    row 1284 Nor ∷  -- vnor
    row 1540 FromStatus ∷  -- mfvscr
    row 1604 ToStatus ∷  -- mtvscr
    -- multiply odd
    row 8 (MulOdd Byte Unsigned) ∷  -- vmuloub
    row 72 (MulOdd Half Unsigned) ∷  -- vmulouh
    row 264 (MulOdd Byte Signed) ∷  -- vmulosb
    row 328 (MulOdd Half Signed) ∷  -- vmulosh
    -- multiply even: each plus 512
    row 520 (MulEven Byte Unsigned) ∷  -- vmuleub
    row 584 (MulEven Half Unsigned) ∷  -- vmuleuh
    row 776 (MulEven Byte Signed) ∷  -- vmulesb
    row 840 (MulEven Half Signed) ∷  -- vmulesh
    -- sums across
    row 1544 (SumQuarter Byte Unsigned) ∷  -- vsum4ubs
    row 1800 (SumQuarter Byte Signed) ∷  -- vsum4sbs
    row 1608 (SumQuarter Half Signed) ∷  -- vsum4shs
    row 1672 SumHalf ∷  -- vsum2sws
    row 1928 SumAll ∷  -- vsumsws
    -- merge high; low
    row 12 (MergeHigh Byte) ∷  -- vmrghb
    row 76 (MergeHigh Half) ∷  -- vmrghh
    row 140 (MergeHigh Word) ∷  -- vmrghw
    row 268 (MergeLow Byte) ∷  -- vmrglb
    row 332 (MergeLow Half) ∷  -- vmrglh
    row 396 (MergeLow Word) ∷  -- vmrglw
    -- splat; splat immediate
    row 524 (Splat Byte) ∷  -- vspltb
    row 588 (Splat Half) ∷  -- vsplth
    row 652 (Splat Word) ∷  -- vspltw
    row 780 (SplatImmediate Byte) ∷  -- vspltisb
    row 844 (SplatImmediate Half) ∷  -- vspltish
    row 908 (SplatImmediate Word) ∷  -- vspltisw
    -- pack; unpack
    row 14 (PackMod Half) ∷  -- vpkuhum
    row 78 (PackMod Word) ∷  -- vpkuwum
    row 142 (PackSat Half Unsigned Unsigned) ∷  -- vpkuhus
    row 206 (PackSat Word Unsigned Unsigned) ∷  -- vpkuwus
    row 270 (PackSat Half Signed Unsigned) ∷  -- vpkshus
    row 334 (PackSat Word Signed Unsigned) ∷  -- vpkswus
    row 398 (PackSat Half Signed Signed) ∷  -- vpkshss
    row 462 (PackSat Word Signed Signed) ∷  -- vpkswss
    row 526 (UnpackHigh Byte) ∷  -- vupkhsb
    row 590 (UnpackHigh Half) ∷  -- vupkhsh
    row 654 (UnpackLow Byte) ∷  -- vupklsb
    row 718 (UnpackLow Half) ∷  -- vupklsh
    []

-- compares: primary 4, low ten bits; bit 21 is Rc
abbrev pub tens : List Row
tens =
    -- compare equal; greater
    row 6 (CompareEqual Byte) ∷  -- vcmpequb
    row 70 (CompareEqual Half) ∷  -- vcmpequh
    row 134 (CompareEqual Word) ∷  -- vcmpequw
    row 518 (CompareGreater Byte Unsigned) ∷  -- vcmpgtub
    row 582 (CompareGreater Half Unsigned) ∷  -- vcmpgtuh
    row 646 (CompareGreater Word Unsigned) ∷  -- vcmpgtuw
    row 774 (CompareGreater Byte Signed) ∷  -- vcmpgtsb
    row 838 (CompareGreater Half Signed) ∷  -- vcmpgtsh
    row 902 (CompareGreater Word Signed) ∷  -- vcmpgtsw
    []

-- primary 4, low six bits
abbrev pub sixes : List Row
sixes =
    row 32 MulHighAdd ∷  -- vmhaddshs
    row 33 MulHighRoundAdd ∷  -- vmhraddshs
    row 34 MulLowAdd ∷  -- vmladduhm
    row 36 (MulSum Byte Unsigned) ∷  -- vmsumubm
    row 37 MulSumMixed ∷  -- vmsummbm
    row 38 (MulSum Half Unsigned) ∷  -- vmsumuhm
    row 39 (MulSumSat Unsigned) ∷  -- vmsumuhs
    row 40 (MulSum Half Signed) ∷  -- vmsumshm
    row 41 (MulSumSat Signed) ∷  -- vmsumshs
    row 42 Select ∷  -- vsel
    row 43 Permute ∷  -- vperm
    row 44 ShiftPair ∷  -- vsldoi
    []

-- primary 31, bits 21 to 30
abbrev pub indexes : List Row
indexes =
    row 6 LoadShiftLeft ∷  -- lvsl
    row 38 LoadShiftRight ∷  -- lvsr
    row 7 (LoadElement Byte) ∷  -- lvebx
    row 39 (LoadElement Half) ∷  -- lvehx
    row 71 (LoadElement Word) ∷  -- lvewx
    row 103 LoadLine ∷  -- lvx
    row 359 LoadLine ∷  -- lvxl
    row 135 (StoreElement Byte) ∷  -- stvebx
    row 167 (StoreElement Half) ∷  -- stvehx
    row 199 (StoreElement Word) ∷  -- stvewx
    row 231 StoreLine ∷  -- stvx
    row 487 StoreLine ∷  -- stvxl
    []

-- primary 14
abbrev pub alones : List Row
alones =
    row 14 AddImmediate ∷  -- addi
    []

pub record Section : Type 0 where
  pub form : Form
  pub rows : List Row

abbrev pub section : Form → List Row → Section
section f rs = record { form = f; rows = rs }

abbrev pub sections : List Section
sections = section eleven elevens ∷ section ten tens ∷ section six sixes ∷ section indexed indexes ∷ section alone alones ∷ []

-- the operation of the first row with the number n, and o where there is none
abbrev pub find : Option Op → ℕ → List Row → Option Op
find o n [] = o
find o n (r ∷ rs) = pick (eqb n r.number) (Some r.op) (find o n rs)

-- the operation of the word w: that of the row with its code in a section of its primary, and none where there is no such row. That no two
-- rows claim one word, so that their order does not matter, is `unique` of proofs/Unique.
abbrev pub look : List Section → ℕ → Option Op
look [] w = None
look (s ∷ ss) w = pick (eqb (bits 0 5 w) (primary s.form)) (find (look ss w) (code s.form w) s.rows) (look ss w)

unfoldable pub op_of : ℕ → Option Op
op_of w = look sections w

-- the operation of the word with the primary p, the last bits n and else zeros
abbrev pub op_at : ℕ → ℕ → Option Op
op_at p n = op_of (p * 2 ^ 26 + n)
