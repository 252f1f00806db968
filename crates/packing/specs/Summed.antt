-- Sums across words. Document 01, "Lane rules": vsum2sws and vsumsws. Assumes nothing.
use Rattle.std.specs.Prelude.{ℕ, ◌^◌, cond, List, eqb, ℤ, ◌+ℤ◌}
use Rattle.lanes.specs.declared.Lane.{Lane}
use Rattle.lanes.specs.declared.Marked.{Marked}
use Rattle.lanes.specs.declared.Size.TheVariants.{Word}
use Rattle.lanes.specs.Integer.{signed, sat_s, plain}
use Rattle.packing.specs.Resized.{vector_of, lane_at}

-- word j of v, signed
abbrev pub signed_word : List ℕ → ℕ → ℤ
signed_word v j = signed (2 ^ 32) (lane_at Word v j)

-- the words 1 and 3, and zero in the others
abbrev pub odd_words : Lane → Lane → Marked
odd_words p q = vector_of Word (λ j. cond (eqb j 1) p (cond (eqb j 3) q (plain 0)))

-- the sums of two words of a and a word of b
abbrev pub sum_of_two : List ℕ → List ℕ → Marked
sum_of_two a b =
    odd_words (sat_s (2 ^ 32) (signed_word a 0 +ℤ signed_word a 1 +ℤ signed_word b 1)) (sat_s (2 ^ 32) (signed_word a 2 +ℤ signed_word a 3 +ℤ signed_word b 3))

-- the sum of all words of a and the last of b
abbrev pub sum_of_all : List ℕ → List ℕ → Marked
sum_of_all a b =
    odd_words (plain 0) (sat_s (2 ^ 32) (signed_word a 0 +ℤ signed_word a 1 +ℤ signed_word a 2 +ℤ signed_word a 3 +ℤ signed_word b 3))
