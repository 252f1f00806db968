-- What std makes of a number is what the definitions say: in decimal, in hex, in binary and as a bit; and of a word as bytes.
-- Assumes nothing.
use Rattle.std.proofs.Common.{ℕ, zero, suc, ◌+◌, ◌-◌, ◌*◌, ◌/◌, ◌%◌, ◌^◌, ◌≤◌, ◌<◌, ◌≡◌, refl, sym, ap, ◌∙◌, Bool, true, false, List, [], ◌∷◌, inl, inr, arith}
use Rattle.std.proofs.lemmas.Bool.{cases_lt}
use Rattle.std.proofs.lemmas.Fmt.{hex_byte}
use Rattle.std.specs.Fmt.{decimal, digits, digits_onto, padded_integral, format_spec, char_count}
use borrow.Author.Tests.{lt-ltb, le-ltb, eq-eqb, ne_eqb}
use lib.ListN.{drop, get_or}
use Rattle.std.specs.Int.{w32, to_be_bytes, from_bool}
use Rattle.texts.specs.Texts.{bytes_of, ten_digits, zeros_before, decimal_of, binary_of, bit_of, glyph, hex_of}

-- the last k digits of n, before others
abbrev last : ℕ → ℕ → List ℕ → List ℕ
last zero n acc = acc
last (suc k) n acc = last k (n / 10) ((48 + n % 10) ∷ acc)

-- the least number of more than k digits
abbrev power : ℕ → ℕ
power zero = 1
power (suc k) = 10 * power k

positive : (k : ℕ) → 1 ≤ power k
positive zero = omega arith
positive (suc k) = let h = positive k in omega arith

one : (n k : ℕ) (acc : List ℕ) → n < 10 → digits_onto (suc k) 10 false n acc ≡ (48 + n % 10) ∷ acc
one n k acc h = rw (eq-eqb (n / 10) 0 (omega arith), lt-ltb (n % 10) 10 (omega arith)) refl

more : (n k : ℕ) (acc : List ℕ) → 10 ≤ n → digits_onto (suc k) 10 false n acc ≡ digits_onto k 10 false (n / 10) ((48 + n % 10) ∷ acc)
more n k acc h = rw (ne_eqb (n / 10) 0 (λ (e : n / 10 ≡ 0). omega arith), lt-ltb (n % 10) 10 (omega arith)) refl

-- n has more than j digits, where j is not 0
abbrev Above : ℕ → ℕ → Type 0
Above zero n = Unit {0}
Above (suc j) n = power (suc j) ≤ n

above : (j n : ℕ) → power (suc j) ≤ n → Above j (n / 10)
above zero n l = tt
above (suc j) n l = omega arith

all : (j k n : ℕ) (acc : List ℕ) → Above j n → n < power (suc j) → digits_onto (suc (j + k)) 10 false n acc ≡ last (suc j) n acc
all zero k n acc l h = one n (0 + k) acc h
all (suc j) k n acc l h =
    let e : suc j + k ≡ suc (j + k) = omega arith in
    let p = positive j in
    more n (suc j + k) acc (omega arith) ∙ rw e (all j k (n / 10) ((48 + n % 10) ∷ acc) (above j n l) (omega arith))

-- a number of j + 1 digits
decimal_by : (j k n : ℕ) → j + k ≡ 63 → Above j n → n < power (suc j) → decimal n ≡ last (suc j) n []
unfolding digits
decimal_by j k n e l h = rw e at (all j k n [] l h)

ten : (n : ℕ) → ten_digits n ≡ last 10 n []
unfolding ten_digits
ten n =
    let e2 : n / 100 ≡ n / 10 / 10 = omega arith in
    let e3 : n / 1000 ≡ n / 10 / 10 / 10 = omega arith in
    let e4 : n / 10000 ≡ n / 10 / 10 / 10 / 10 = omega arith in
    let e5 : n / 100000 ≡ n / 10 / 10 / 10 / 10 / 10 = omega arith in
    let e6 : n / 1000000 ≡ n / 10 / 10 / 10 / 10 / 10 / 10 = omega arith in
    let e7 : n / 10000000 ≡ n / 10 / 10 / 10 / 10 / 10 / 10 / 10 = omega arith in
    let e8 : n / 100000000 ≡ n / 10 / 10 / 10 / 10 / 10 / 10 / 10 / 10 = omega arith in
    let e9 : n / 1000000000 ≡ n / 10 / 10 / 10 / 10 / 10 / 10 / 10 / 10 / 10 = omega arith in
    rw (e9, e8, e7, e6, e5, e4, e3, e2) refl

-- two functions that agree below a number
listed : (ℕ → List ℕ) → ℕ → List (List ℕ)
listed f zero = []
listed f (suc k) = f k ∷ listed f k

agree : (f g : ℕ → List ℕ) (k n : ℕ) → listed f k ≡ listed g k → n < k → f n ≡ g n
unfolding listed
agree f g zero n e h = elim h [ ]
agree f g (suc k) n e h = elim (cases_lt n k) [
  | inl less ↦ agree f g k n (ap (drop 1) e) less
  | inr last ↦ let i : n ≡ k = omega arith in rw i (ap (λ (x : List (List ℕ)). get_or x 0 []) e)
]

four : ℕ → List ℕ
four n = padded_integral (format_spec 32 0 4 4 (2 ^ 64 - 1)) false [] (digits 2 false n)

pub binary_is : (n : ℕ) → n < 16 → padded_integral (format_spec 32 0 4 4 (2 ^ 64 - 1)) false [] (digits 2 false n) ≡ binary_of n
unfolding padded_integral digits char_count binary_of listed four
binary_is n h = agree four binary_of 16 n refl h

-- of a number of more than four bits, the lowest four
pub low_bits_are : (n : ℕ) → padded_integral (format_spec 32 0 4 4 (2 ^ 64 - 1)) false [] (digits 2 false (n % 16)) ≡ binary_of n
unfolding binary_of
low_bits_are n =
    let e8 : n % 16 / 8 % 2 ≡ n / 8 % 2 = omega arith in
    let e4 : n % 16 / 4 % 2 ≡ n / 4 % 2 = omega arith in
    let e2 : n % 16 / 2 % 2 ≡ n / 2 % 2 = omega arith in
    let e1 : n % 16 % 2 ≡ n % 2 = omega arith in
    rw (← e8, ← e4, ← e2, ← e1) (binary_is (n % 16) (omega arith))

pub bit_is : (b : Bool) → decimal (from_bool b) ≡ bit_of b
unfolding digits
bit_is true = refl
bit_is false = refl

pub hex_is : (n : ℕ) → n < 256 → padded_integral (format_spec 32 0 4 2 (2 ^ 64 - 1)) false [] (digits 16 false n) ≡ hex_of (n ∷ [])
unfolding glyph
hex_is n h = hex_byte false n h

shown : (n z j : ℕ) → zeros_before n ≡ z → drop z (last 10 n []) ≡ last (suc j) n [] → decimal n ≡ last (suc j) n [] → decimal n ≡ decimal_of n
unfolding decimal_of
shown n z j e f d = d ∙ sym f ∙ rw (e, ten n) refl

pub decimal_is : (n : ℕ) → n < 4294967296 → decimal n ≡ decimal_of n
unfolding zeros_before
decimal_is n h = elim (cases_lt n 10) [
  | inl b0 ↦ shown n 9 0 (rw (lt-ltb n 10 b0) refl) refl (decimal_by 0 63 n refl tt b0)
  | inr a0 ↦ elim (cases_lt n 100) [
    | inl b1 ↦ shown n 8 1 (rw (le-ltb n 10 a0, lt-ltb n 100 b1) refl) refl (decimal_by 1 62 n refl a0 b1)
    | inr a1 ↦ elim (cases_lt n 1000) [
      | inl b2 ↦ shown n 7 2 (rw (le-ltb n 10 a0, le-ltb n 100 a1, lt-ltb n 1000 b2) refl) refl (decimal_by 2 61 n refl a1 b2)
      | inr a2 ↦ elim (cases_lt n 10000) [
        | inl b3 ↦ shown n 6 3 (rw (le-ltb n 10 a0, le-ltb n 100 a1, le-ltb n 1000 a2, lt-ltb n 10000 b3) refl) refl (decimal_by 3 60 n refl a2 b3)
        | inr a3 ↦ elim (cases_lt n 100000) [
          | inl b4 ↦ shown n 5 4 (rw (le-ltb n 10 a0, le-ltb n 100 a1, le-ltb n 1000 a2, le-ltb n 10000 a3, lt-ltb n 100000 b4) refl) refl (decimal_by 4 59 n refl a3 b4)
          | inr a4 ↦ elim (cases_lt n 1000000) [
            | inl b5 ↦ shown n 4 5 (rw (le-ltb n 10 a0, le-ltb n 100 a1, le-ltb n 1000 a2, le-ltb n 10000 a3, le-ltb n 100000 a4, lt-ltb n 1000000 b5) refl) refl (decimal_by 5 58 n refl a4 b5)
            | inr a5 ↦ elim (cases_lt n 10000000) [
              | inl b6 ↦ shown n 3 6 (rw (le-ltb n 10 a0, le-ltb n 100 a1, le-ltb n 1000 a2, le-ltb n 10000 a3, le-ltb n 100000 a4, le-ltb n 1000000 a5, lt-ltb n 10000000 b6) refl) refl (decimal_by 6 57 n refl a5 b6)
              | inr a6 ↦ elim (cases_lt n 100000000) [
                | inl b7 ↦ shown n 2 7 (rw (le-ltb n 10 a0, le-ltb n 100 a1, le-ltb n 1000 a2, le-ltb n 10000 a3, le-ltb n 100000 a4, le-ltb n 1000000 a5, le-ltb n 10000000 a6, lt-ltb n 100000000 b7) refl) refl (decimal_by 7 56 n refl a6 b7)
                | inr a7 ↦ elim (cases_lt n 1000000000) [
                  | inl b8 ↦ shown n 1 8 (rw (le-ltb n 10 a0, le-ltb n 100 a1, le-ltb n 1000 a2, le-ltb n 10000 a3, le-ltb n 100000 a4, le-ltb n 1000000 a5, le-ltb n 10000000 a6, le-ltb n 100000000 a7, lt-ltb n 1000000000 b8) refl) refl (decimal_by 8 55 n refl a7 b8)
                  | inr a8 ↦ shown n 0 9 (rw (le-ltb n 10 a0, le-ltb n 100 a1, le-ltb n 1000 a2, le-ltb n 10000 a3, le-ltb n 100000 a4, le-ltb n 1000000 a5, le-ltb n 10000000 a6, le-ltb n 100000000 a7, le-ltb n 1000000000 a8) refl) refl (decimal_by 9 54 n refl a8 (omega arith))
                ]
              ]
            ]
          ]
        ]
      ]
    ]
  ]
]

pub word_is : (n : ℕ) → n < 4294967296 → to_be_bytes w32 n ≡ bytes_of n
unfolding bytes_of
word_is n h = let e : n / 16777216 % 256 ≡ n / 16777216 = omega arith in rw e refl
