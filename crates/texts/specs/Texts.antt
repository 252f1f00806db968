-- The lines that the programs print: document 01, "Examples to hold against the rules", its last paragraph. A text is the list of its ASCII codes.
-- Assumes nothing.
use Rattle.std.specs.Prelude.{ℕ, ◌+◌, ◌/◌, ◌%◌, Bool, cond, List, [], ◌∷◌, ◌++◌, drop, ltb}

-- a digit below 16: `0` to `9`, then `a` to `f`
unfoldable pub glyph : ℕ → ℕ
glyph d = cond (ltb d 10) (48 + d) (87 + d)

-- the ten decimal digits of a number of 32 bits
unfoldable pub ten_digits : ℕ → List ℕ
ten_digits n =
    (48 + n / 1000000000 % 10) ∷ (48 + n / 100000000 % 10) ∷ (48 + n / 10000000 % 10) ∷ (48 + n / 1000000 % 10) ∷ (48 + n / 100000 % 10)
    ∷ (48 + n / 10000 % 10) ∷ (48 + n / 1000 % 10) ∷ (48 + n / 100 % 10) ∷ (48 + n / 10 % 10) ∷ (48 + n % 10) ∷ []

-- how many of them are zeros in front; the last digit always stays
unfoldable pub zeros_before : ℕ → ℕ
zeros_before n =
    cond (ltb n 10) 9 (cond (ltb n 100) 8 (cond (ltb n 1000) 7 (cond (ltb n 10000) 6 (cond (ltb n 100000) 5
    (cond (ltb n 1000000) 4 (cond (ltb n 10000000) 3 (cond (ltb n 100000000) 2 (cond (ltb n 1000000000) 1 0))))))))

-- a number in decimal
unfoldable pub decimal_of : ℕ → List ℕ
decimal_of n = drop (zeros_before n) (ten_digits n)

-- a bit as one digit
abbrev pub bit_of : Bool → List ℕ
bit_of b = cond b 49 48 ∷ []

-- a number of four bits in binary
unfoldable pub binary_of : ℕ → List ℕ
binary_of n = (48 + n / 8 % 2) ∷ (48 + n / 4 % 2) ∷ (48 + n / 2 % 2) ∷ (48 + n % 2) ∷ []

-- bytes in hex
abbrev pub hex_of : List ℕ → List ℕ
hex_of [] = []
hex_of (b ∷ bs) = glyph (b / 16) ∷ glyph (b % 16) ∷ hex_of bs

-- the bytes of a word
unfoldable pub bytes_of : ℕ → List ℕ
bytes_of n = n / 16777216 ∷ n / 65536 % 256 ∷ n / 256 % 256 ∷ n % 256 ∷ []

-- the bytes of words
abbrev pub word_bytes : List ℕ → List ℕ
word_bytes [] = []
word_bytes (w ∷ ws) = w / 16777216 ∷ w / 65536 % 256 ∷ w / 256 % 256 ∷ w % 256 ∷ word_bytes ws

-- "answer "
abbrev pub answer_label : List ℕ
answer_label = 97 ∷ 110 ∷ 115 ∷ 119 ∷ 101 ∷ 114 ∷ 32 ∷ []

-- " steps "
abbrev pub steps_label : List ℕ
steps_label = 32 ∷ 115 ∷ 116 ∷ 101 ∷ 112 ∷ 115 ∷ 32 ∷ []

-- " place "
abbrev pub place_label : List ℕ
place_label = 32 ∷ 112 ∷ 108 ∷ 97 ∷ 99 ∷ 101 ∷ 32 ∷ []

-- " sat "
abbrev pub sat_label : List ℕ
sat_label = 32 ∷ 115 ∷ 97 ∷ 116 ∷ 32 ∷ []

-- " nj "
abbrev pub nj_label : List ℕ
nj_label = 32 ∷ 110 ∷ 106 ∷ 32 ∷ []

-- " cr6 "
abbrev pub cr6_label : List ℕ
cr6_label = 32 ∷ 99 ∷ 114 ∷ 54 ∷ 32 ∷ []

-- answer, steps, place, sat, nj, cr6
unfoldable pub report_line : ℕ → ℕ → ℕ → Bool → Bool → ℕ → List ℕ
report_line number count at s n c =
    answer_label ++ decimal_of number ++ steps_label ++ decimal_of count ++ place_label ++ decimal_of at
    ++ sat_label ++ bit_of s ++ nj_label ++ bit_of n ++ cr6_label ++ binary_of c ++ 10 ∷ []

-- vector n: its number after `v`, and its bytes in hex
unfoldable pub vector_line : ℕ → List ℕ → List ℕ
vector_line n bytes = (118 ∷ []) ++ decimal_of n ++ (32 ∷ []) ++ hex_of bytes ++ 10 ∷ []

-- general register n: its number after `r`, and its bytes in hex
unfoldable pub general_line : ℕ → ℕ → List ℕ
general_line n x = (114 ∷ []) ++ decimal_of n ++ (32 ∷ []) ++ hex_of (bytes_of x) ++ 10 ∷ []
