-- Document 01, "Encodings", its reserved bits: runs of bits, whether a bit of a run is set, and a word without a run. Which operation has which
-- run is `reserved_of` of Traits.
-- Assumes nothing.
use Rattle.std.specs.Prelude.{ℕ, ◌-◌, ◌*◌, ◌^◌, Bool, not, eqb}
use Rattle.encodings.specs.Bits.{bits}
use Rattle.decode.specs.declared.reserved.Run.{Run}
use Rattle.decode.specs.declared.reserved.Run.TheVariants.{Empty, Last, BeforeCount, A, B, AB, DA, BeforeByteLane, BeforeHalfLane, BeforeWordLane}

-- the first bit and the last of a run
abbrev pub ends : Run → ℕ × ℕ
ends Empty = (32, 31)  -- none
ends Last = (31, 31)  -- the twelve under primary 31
ends BeforeCount = (21, 21)  -- vsldoi
ends A = (11, 15)  -- unpacks
ends B = (16, 20)  -- immediate splats
ends AB = (11, 20)  -- mfvscr
ends DA = (6, 15)  -- mtvscr
ends BeforeByteLane = (11, 11)  -- vspltb: the bits of A above its lane number
ends BeforeHalfLane = (11, 12)  -- vsplth
ends BeforeWordLane = (11, 13)  -- vspltw

-- the run's bits as a number
abbrev pub held : Run → ℕ → ℕ
held r w = bits (ends r).0 (ends r).1 w

abbrev pub any_of : Run → ℕ → Bool
any_of r w = not (eqb (held r w) 0)

abbrev pub without : Run → ℕ → ℕ
without r w = w - held r w * 2 ^ (31 - (ends r).1)
