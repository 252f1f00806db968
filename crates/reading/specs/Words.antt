-- Raw bytes as words, the most significant byte first: document 01, "Examples to hold against the rules", its last paragraph.
-- Assumes nothing.
use Rattle.std.specs.Prelude.{ℕ, ◌+◌, ◌*◌, ◌/◌, ◌%◌, Bool, false, cond, ◌≡◌, List, [], ◌∷◌, length, eqb, leb, Option, Some, None}
use Rattle.lines.specs.Lines.{put}

-- four bytes as a word
abbrev pub word_of : ℕ → ℕ → ℕ → ℕ → ℕ
word_of a b c d = a * 16777216 + b * 65536 + c * 256 + d

-- bytes as words, four by four; up to three bytes at the end make none
unfoldable pub words_of : List ℕ → List ℕ
words_of [] = []
words_of (a ∷ []) = []
words_of (a ∷ b ∷ []) = []
words_of (a ∷ b ∷ c ∷ []) = []
words_of (a ∷ b ∷ c ∷ d ∷ rest) = word_of a b c d ∷ words_of rest

-- whether the bytes are whole words, and no more than a list has places
abbrev pub whole : List ℕ → List ℕ → Bool
whole bytes code = cond (eqb (length bytes % 4) 0) (leb (length bytes / 4) (length code)) false

-- what reading them leaves: the words at the start of the list, and their number; or the list as it was, and none
pub record Fills (bytes before : List ℕ) (r : Option ℕ) (after : List ℕ) : Type 0 where
  pub count : r ≡ cond (whole bytes before) (Some (length bytes / 4)) None
  pub code : after ≡ cond (whole bytes before) (put before 0 (words_of bytes)) before
