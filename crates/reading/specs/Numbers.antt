-- Numbers of 32 bits as text: decimal, or hex after `0x`. A text is the list of its ASCII codes.
-- Assumes nothing.
use Rattle.std.specs.Prelude.{ℕ, ◌+◌, ◌-◌, ◌*◌, Bool, false, cond, List, [], ◌∷◌, length, get_or, drop, eqb, ltb, Result, Ok, Err, codes}
use Rattle.reading.specs.declared.numbers.NumberError.{NumberError}
use Rattle.reading.specs.declared.numbers.NumberError.TheVariants.{NoNumber, TooLarge}

-- what a digit stands for: `0` to `9`, `A` to `F`, `a` to `f`; 16 where it is none
unfoldable pub digit_of : ℕ → ℕ
digit_of c =
    cond (ltb c 48) 16 (cond (ltb c 58) (c - 48) (cond (ltb c 65) 16 (cond (ltb c 71) (c - 55) (cond (ltb c 97) 16 (cond (ltb c 103) (c - 87) 16)))))

-- from 2^32 on every value is too large, and 2^32 stands for it
unfoldable pub capped_of : ℕ → ℕ
capped_of v = cond (ltb v 4294967296) v 4294967296

-- the digits that are left, after the value v of those before: each is below the base, and the value fits 32 bits
unfoldable pub digits_of : ℕ → ℕ → List ℕ → Result ℕ NumberError
digits_of base v [] = cond (ltb v 4294967296) (Ok v) (Err TooLarge)
digits_of base v (c ∷ cs) = cond (ltb (digit_of c) base) (digits_of base (v * base + digit_of c) cs) (Err NoNumber)

-- at least one digit
abbrev pub some_digits : ℕ → List ℕ → Result ℕ NumberError
some_digits base l = cond (eqb (length l) 0) (Err NoNumber) (digits_of base 0 l)

-- whether a text begins with `0x`
abbrev pub is_hex : List ℕ → Bool
is_hex text = cond (ltb 1 (length text)) (cond (eqb (get_or text 0 0) 48) (eqb (get_or text 1 0) 120) false) false

unfoldable pub read_of : List ℕ → Result ℕ NumberError
read_of text = cond (is_hex text) (some_digits 16 (drop 2 text)) (some_digits 10 text)

-- what is told of a text that is none
abbrev pub message_of : NumberError → List ℕ
message_of NoNumber = codes "no number; it is decimal, or hex after 0x"
message_of TooLarge = codes "does not fit 32 bits"
