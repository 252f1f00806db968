-- Words of bytes, four by four: how many there are, and the one at each place.
-- Assumes nothing.
use Rattle.std.proofs.Common.{ℕ, zero, suc, ◌+◌, ◌*◌, ◌/◌, ◌%◌, ◌≤◌, ◌<◌, ◌≡◌, refl, sym, ap, ◌∙◌, true, false, List, [], ◌∷◌, ◌++◌, Some, None, arith, length, take, drop}
use borrow.Author.Tests.{eq-eqb, le-leb}
use native.Mathlib.Numerals.{add-one}
use lib.ListN.{get_or, set}
use lib.Seq.{take_all, paste, paste-suc, sets, sets-eq}
use Rattle.std.specs.Int.{w32, from_be_bytes}
use Rattle.std.specs.Simd.{first_chunks}
use Rattle.lines.specs.Lines.{put}
use Rattle.reading.specs.Words.{words_of, whole, Fills}

pub words_long : (l : List ℕ) → length (words_of l) ≡ length l / 4
unfolding words_of
words_long [] = refl
words_long (a ∷ []) = refl
words_long (a ∷ b ∷ []) = refl
words_long (a ∷ b ∷ c ∷ []) = refl
words_long (a ∷ b ∷ c ∷ d ∷ rest) = let e = words_long rest in omega arith

-- the word at place i is made of the four bytes at place i
pub word_at : (l : List ℕ) (k i : ℕ) → i < k → 4 * k ≤ length l → get_or (words_of l) i 0 ≡ from_be_bytes w32 (get_or (first_chunks 4 k l) i [])
unfolding words_of
word_at l zero i h m = elim h [ ]
word_at [] (suc k) i h m = absurd (omega arith)
word_at (a ∷ []) (suc k) i h m = absurd (omega arith)
word_at (a ∷ b ∷ []) (suc k) i h m = absurd (omega arith)
word_at (a ∷ b ∷ c ∷ []) (suc k) i h m = absurd (omega arith)
word_at (a ∷ b ∷ c ∷ d ∷ rest) (suc k) zero h m = omega arith
word_at (a ∷ b ∷ c ∷ d ∷ rest) (suc k) (suc i) h m = word_at rest k i (omega arith) (omega arith)

-- a turn puts the next word
pub turn : (d : List ℕ) (at : ℕ) (w x : List ℕ) (i v : ℕ) → at + i < length d → i < length w → x ≡ paste d at w i → v ≡ get_or w i 0
    → set x (at + i) v ≡ paste d at w (i + 1)
turn d at w x i v h k e f = rw (e, f, add-one) (paste-suc d at w i 0 h k)

-- what a reading leaves, once n words have their places; and a refusal
pub taken : (b d x : List ℕ) (n : ℕ) → length b % 4 ≡ 0 → n ≡ length b / 4 → n ≤ length d → x ≡ paste d 0 (words_of b) n → Fills b d (Some n) x
unfolding put
taken b d x n u m h e =
    let w : List ℕ = words_of b in
    let long = words_long b in
    let k : n ≡ length w = omega arith in
    let all : whole b d ≡ true = rw (eq-eqb _ _ u) (le-leb _ _ (omega arith)) in
    let p : x ≡ sets d 0 w = e
    ∙ ap (λ (j : ℕ). take j w ++ drop (0 + j) d) k
    ∙ ap (λ (y : List ℕ). y ++ drop (0 + length w) d) (take_all (length w) w (omega arith))
    ∙ sym (sets-eq w d 0 (omega arith)) in
    record { count = rw (all, m) refl; code = rw all p }

pub refused : (b d : List ℕ) → whole b d ≡ false → Fills b d None d
refused b d w = record { count = rw w refl; code = rw w refl }
