-- Runs of reserved bits, each fact once for every run: a word without a run has zeros there, and its other bits stay.
-- Assumes nothing.
use mathlib.Core.Path.{◌≡◌, ◌∙◌, ap, sym}
use Prim.Native.Nat.{ℕ, ◌+◌, ◌-◌, ◌*◌, ◌/◌, ◌%◌, ◌^◌, ◌≤◌, ◌<◌}
use native.Mathlib.Nat.{add_assoc, zero-add, add-mul, mul_assoc, zero-mul, sub-zero, add-sub_cancel, div-add-mod', mod-add-div', mod-lt, div-eq_of_lt, div-div-eq-div-mul, mul-div_cancel, mul-mod_left, add-mul-div_right, add-mul-mod_self_right}
use native.Mathlib.Omega.{arith}
use lib.Pow.{pow-add, pow_pos}
use Rattle.encodings.specs.Bits.{bits}
use Rattle.decode.specs.Reserved.{ends, held, without}
use Rattle.decode.specs.declared.reserved.Run.{Run}
use Rattle.decode.specs.declared.reserved.Run.TheVariants.{Empty, Last, BeforeCount, A, B, AB, DA, BeforeByteLane, BeforeHalfLane, BeforeWordLane}

-- a number without s of its bits, those from m on: m and s are powers of two
module _ (m s : ℕ) (m-pos : 0 < m) (s-pos : 0 < s) (w : ℕ) where
  abbrev rest : ℕ
  rest = w - w / m % s * m

  parts : w % m + w / m / s * s * m + w / m % s * m ≡ w
  parts = rw (add_assoc, ← add-mul, div-add-mod' (w / m) s) (mod-add-div' w m)

  rest_is : rest ≡ w % m + w / m / s * s * m
  rest_is = ap (λ x. x - w / m % s * m) (sym parts) ∙ add-sub_cancel _ _

  whole : rest + w / m % s * m ≡ w
  whole = rw rest_is parts

  above : rest / m ≡ w / m / s * s
  above = rw (rest_is, add-mul-div_right (w % m) (w / m / s * s) m-pos, div-eq_of_lt (mod-lt w m-pos)) (zero-add _)

  zeros : rest / m % s ≡ 0
  zeros = rw above (mul-mod_left _ _)

  left : rest / (m * s) ≡ w / (m * s)
  left = sym (div-div-eq-div-mul rest m s) ∙ (rw above (mul-div_cancel _ s-pos) ∙ div-div-eq-div-mul w m s)

-- what is added left of some bits does not change them
added : (x h a b k u : ℕ) → u ≡ k + b + a → (x + h * 2 ^ u) / 2 ^ a % 2 ^ b ≡ x / 2 ^ a % 2 ^ b
added x h a b k u e =
    rw (e, pow-add 2 (k + b) a, pow-add 2 k b, ← mul_assoc, ← mul_assoc, add-mul-div_right x (h * 2 ^ k * 2 ^ b) (pow_pos a))
    (add-mul-mod_self_right _ _ _)

-- a run stands right of the primary, and its end is not before its start
pub record Placed (r : Run) : Type 0 where
  pub start : 6 ≤ (ends r).0
  pub order : (ends r).0 ≤ (ends r).1 + 1
  pub inside : (ends r).1 ≤ 31

pub placed : (r : Run) → Placed r
placed Empty = record { start = omega arith; order = omega arith; inside = omega arith }
placed Last = record { start = omega arith; order = omega arith; inside = omega arith }
placed BeforeCount = record { start = omega arith; order = omega arith; inside = omega arith }
placed A = record { start = omega arith; order = omega arith; inside = omega arith }
placed B = record { start = omega arith; order = omega arith; inside = omega arith }
placed AB = record { start = omega arith; order = omega arith; inside = omega arith }
placed DA = record { start = omega arith; order = omega arith; inside = omega arith }
placed BeforeByteLane = record { start = omega arith; order = omega arith; inside = omega arith }
placed BeforeHalfLane = record { start = omega arith; order = omega arith; inside = omega arith }
placed BeforeWordLane = record { start = omega arith; order = omega arith; inside = omega arith }

module _ (r : Run) (w : ℕ) where
  abbrev unit : ℕ
  unit = 2 ^ (31 - (ends r).1)

  abbrev size : ℕ
  size = 2 ^ ((ends r).1 + 1 - (ends r).0)

  pub none_left : held r (without r w) ≡ 0
  none_left = zeros unit size (pow_pos _) (pow_pos _) w

  pub unchanged : held r w ≡ 0 → without r w ≡ w
  unchanged e = rw (e, zero-mul) (sub-zero w)

  -- the bits left of the run, and those right of it
  pub left_of : (f l : ℕ) → l < (ends r).0 → bits f l (without r w) ≡ bits f l w
  left_of f l h =
      let p : Placed r = placed r in
      let e : 31 - l ≡ 31 - (ends r).1 + ((ends r).1 + 1 - (ends r).0) + ((ends r).0 - 1 - l) = omega arith in
      let split : (x : ℕ) → x / 2 ^ (31 - l) ≡ x / (unit * size) / 2 ^ ((ends r).0 - 1 - l) = λ x. rw (e, pow-add, pow-add, ← div-div-eq-div-mul x (unit * size)) in
      rw (split (without r w), left unit size (pow_pos _) (pow_pos _) w, split w)

  pub right_of : (f l : ℕ) → (ends r).1 < f → f ≤ l → l ≤ 31 → bits f l (without r w) ≡ bits f l w
  right_of f l h k i =
      sym
      (ap (bits f l) (sym (whole unit size (pow_pos _) (pow_pos _) w))
      ∙ added (without r w) (held r w) (31 - l) (l + 1 - f) (f - 1 - (ends r).1) (31 - (ends r).1) (omega arith))

lower : (w c : ℕ) → c ≤ w % 2048 → (w - c) % 2048 ≡ w % 2048 - c
lower w c h = omega arith

-- the low eleven bits are cleared as the word is
pub low : (r : Run) (w : ℕ) → without r w % 2048 ≡ without r (w % 2048)
low Empty w = omega arith
low Last w = let b : w % 2048 / 1 % 2 ≡ w / 1 % 2 = omega arith in rw b (lower w (w / 1 % 2 * 1) (omega arith))
low BeforeCount w = let b : w % 2048 / 1024 % 2 ≡ w / 1024 % 2 = omega arith in rw b (lower w (w / 1024 % 2 * 1024) (omega arith))
low A w = omega arith
low B w = omega arith
low AB w = omega arith
low DA w = omega arith
low BeforeByteLane w = omega arith
low BeforeHalfLane w = omega arith
low BeforeWordLane w = omega arith
