-- The fields of every word have their sizes.
-- Assumes nothing.
use Rattle.std.proofs.Common.{ℕ, arith}
use Rattle.decode.specs.Decode.{decode_of}
use Rattle.control.specs.Orders.{InFields}

pub decoded : (w : ℕ) → InFields (decode_of w)
decoded w = record { d = omega arith; a = omega arith; b = omega arith; c = omega arith; count = omega arith; imm = omega arith }
