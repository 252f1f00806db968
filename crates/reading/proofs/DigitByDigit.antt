-- Digits read one by one: a turn of the loop, a character that is no digit, the end, and a value that is capped where it no longer fits.
-- Assumes nothing.
use Prim.Native.Nat.{ℕ, ◌+◌, ◌*◌, ◌≤◌, ◌<◌}
use mathlib.Core.Path.{◌≡◌, refl, ap, ◌∙◌}
use mathlib.Core.Bool.{Bool, true, false, cond}
use mathlib.Core.List.{List, [], ◌∷◌}
use native.Mathlib.Omega.{arith}
use native.Mathlib.Nat.{le-mul_of_pos_right, mul-le-mul}
use native.Mathlib.Numerals.{add-one}
use lib.ListN.{length, get_or, drop}
use lib.Seq.{drop-cons, drop-length}
use lib.Dec.{ltb}
use borrow.Author.Tests.{lt-ltb, le-ltb, ltb-true, ltb-false}
use Rattle.std.specs.Prelude.{Option, Some, None, Result, Ok, Err, SomeIff}
use Rattle.std.specs.Char.{digit_value}
use Rattle.reading.specs.declared.numbers.NumberError.{NumberError}
use Rattle.reading.specs.declared.numbers.NumberError.TheVariants.{NoNumber, TooLarge}
use Rattle.reading.specs.Numbers.{digit_of, capped_of, digits_of, is_hex}

module _ (base : ℕ) where
  -- a value that does not fit never does again
  grown : (v d : ℕ) → 1 ≤ base → 4294967296 ≤ v → 4294967296 ≤ v * base + d
  grown v d p h = let e : v ≤ v * base = le-mul_of_pos_right v p in omega arith

  large : (l : List ℕ) (v w : ℕ) → 1 ≤ base → 4294967296 ≤ v → 4294967296 ≤ w → digits_of base v l ≡ digits_of base w l
  unfolding digits_of
  large [] v w p h k = rw (le-ltb v 4294967296 h, le-ltb w 4294967296 k)
  large (c ∷ l) v w p h k =
      ap (λ (x : Result ℕ NumberError). cond (ltb (digit_of c) base) x (Err NoNumber))
      (large l (v * base + digit_of c) (w * base + digit_of c) p (grown v (digit_of c) p h) (grown w (digit_of c) p k))

  capped_by : (b : Bool) (l : List ℕ) (v : ℕ) → 1 ≤ base → ltb v 4294967296 ≡ b → digits_of base v l ≡ digits_of base (cond b v 4294967296) l
  capped_by true l v p e = refl
  capped_by false l v p e = large l v 4294967296 p (ltb-false v 4294967296 e) (omega arith)

  pub capped : (l : List ℕ) (v : ℕ) → 1 ≤ base → digits_of base v l ≡ digits_of base (capped_of v) l
  unfolding capped_of
  capped l v p = capped_by (ltb v 4294967296) l v p refl

  pub more : (l : List ℕ) (v i : ℕ) → i < length l → digit_of (get_or l i 0) < base
      → digits_of base v (drop i l) ≡ digits_of base (v * base + digit_of (get_or l i 0)) (drop (i + 1) l)
  unfolding digits_of
  more l v i h d = rw (drop-cons l i 0 h, lt-ltb _ _ d, add-one)

  pub none : (l : List ℕ) (v i : ℕ) → i < length l → base ≤ digit_of (get_or l i 0) → digits_of base v (drop i l) ≡ Err NoNumber
  unfolding digits_of
  none l v i h d = rw (drop-cons l i 0 h, le-ltb _ _ d)

  pub end : (l : List ℕ) (v i : ℕ) → i ≡ length l → digits_of base v (drop i l) ≡ cond (ltb v 4294967296) (Ok v) (Err TooLarge)
  unfolding digits_of
  end l v i e = rw (e, drop-length l)

-- a value that is capped, times a base
pub product : (v base : ℕ) → v ≤ 4294967296 → base ≤ 16 → v * base ≤ 68719476736
product v base h k = mul-le-mul h k

-- where either value of a digit is below 16, std's is that of the definition
below : (c : ℕ) → digit_value c < 16 → digit_value c ≡ digit_of c
unfolding digit_of
below c h = grind arith

fits : (c : ℕ) → digit_of c < 16 → digit_value c ≡ digit_of c
unfolding digit_of
fits c h = grind arith

pub same_digit : (c b : ℕ) (r : Option ℕ) → b ≤ 16 → SomeIff r (digit_value c < b) (digit_value c) → SomeIff r (digit_of c < b) (digit_of c)
same_digit c b None h f = λ (k : digit_of c < b). f (let e = fits c (omega arith) in omega arith)
same_digit c b (Some x) h p = let e = below c (omega (arith, p.0)) in (omega (arith, p.0), p.1 ∙ e)

-- a text that begins with `0x` has two characters
both : (b c : Bool) → cond b c false ≡ true → b ≡ true
both true c e = refl
both false c e = e

pub hex_long : (t : List ℕ) → is_hex t ≡ true → 2 ≤ length t
hex_long t e = ltb-true 1 (length t) (both (ltb 1 (length t)) _ e)
