-- A word taken apart: document 01, "Encodings", its fields.
-- Assumes nothing.
use Rattle.std.specs.Prelude.{ℕ, not, eqb, Option}
use Rattle.std.specs.Option.{option_map_or}
use Rattle.encodings.specs.Bits.{bits}
use Rattle.encodings.specs.Encodings.{op_of}
use Rattle.encodings.specs.declared.ops.Op.{Op}
use Rattle.decode.specs.Reserved.{any_of, without}
use Rattle.decode.specs.Traits.{reserved_of}
use Rattle.decode.specs.declared.reserved.Run.{Run}
use Rattle.decode.specs.declared.reserved.Run.TheVariants.{Empty}
use Rattle.decode.specs.declared.Decoded.{Decoded}

-- the reserved bits of an operation; none where there is no instruction
abbrev pub run_in : Option Op → Run
run_in o = option_map_or reserved_of o Empty

-- the reserved bits of a word
abbrev pub run_of : ℕ → Run
run_of w = run_in (op_of w)

abbrev pub decode_of : ℕ → Decoded
decode_of w =
    record {
      op = op_of w;
      stray = any_of (run_of w) w;
      d = bits 6 10 w;
      a = bits 11 15 w;
      b = bits 16 20 w;
      c = bits 21 25 w;
      rc = not (eqb (bits 21 21 w) 0);
      count = bits 22 25 w;
      imm = bits 16 31 w;
    }

abbrev pub cleared_of : ℕ → ℕ
cleared_of w = without (run_of w) w
