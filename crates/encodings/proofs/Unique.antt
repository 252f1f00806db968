-- No two rows claim one word.
-- Assumes nothing.
use mathlib.Core.Path.{◌≡◌, refl}
use mathlib.Core.Bool.{Bool, true}
use mathlib.Core.List.{List, [], ◌∷◌}
use Prim.Native.Nat.{ℕ, ◌+◌, ◌*◌, ◌%◌, ◌^◌, ◌≤◌, ◌<◌}
use native.Mathlib.Omega.{arith}
use lib.Dec.{eqb, leb}
use borrow.Author.Tests.{leb-true, ne_eqb}
use Rattle.encodings.specs.Bits.{bits, pick}
use Rattle.encodings.specs.Encodings.{Row, Section, primary, code, sections}
use Rattle.encodings.proofs.Table.{agree}
use Rattle.encodings.proofs.Words.{core, same_primary, same_code, by_primary}

-- how many of the rows have the number n
abbrev having : ℕ → List Row → ℕ
having n [] = 0
having n (r ∷ rs) = pick (eqb n r.number) 1 0 + having n rs

-- how many rows claim the word w: those of its primary that have its code
abbrev pub claims : List Section → ℕ → ℕ
claims [] w = 0
claims (s ∷ ss) w = pick (eqb (bits 0 5 w) (primary s.form)) (having (code s.form w) s.rows) 0 + claims ss w

same_claims : (ss : List Section) (w : ℕ) → claims ss (core w) ≡ claims ss w
same_claims [] w = refl
same_claims (s ∷ ss) w = rw (same_primary w, same_code s.form w, same_claims ss w)

abbrev fits : ℕ → ℕ → Bool
fits p n = leb (claims sections (p * 2 ^ 26 + n)) 1

by_four : (n : ℕ) → n < 2048 → fits 4 n ≡ true
by_four = agree (fits 4) (λ n. true) 2048 refl

by_thirty_one : (n : ℕ) → n < 2048 → fits 31 n ≡ true
by_thirty_one = agree (fits 31) (λ n. true) 2048 refl

-- what holds of each word of a primary with zeros outside its low eleven bits holds of its every word
carry : (p w : ℕ) → bits 0 5 w ≡ p → ((n : ℕ) → n < 2048 → fits p n ≡ true) → leb (claims sections w) 1 ≡ true
carry p w h f = rw (← same_claims sections w, h) (f (w % 2048) (omega arith))

pub unique : (w : ℕ) → claims sections w ≤ 1
unique w =
    leb-true _ _
    (by_primary w (λ h. carry 4 w h by_four) (λ h. carry 31 w h by_thirty_one) (λ h. rw h) (λ a b c. rw (ne_eqb _ _ a, ne_eqb _ _ b, ne_eqb _ _ c)))
