-- The last arm of a `match` on codes: what is none of the codes has no row.
-- Assumes nothing.
use mathlib.Core.Path.{◌≡◌, ◌∙◌, sym, refl}
use mathlib.Core.Bool.{Bool, true, false}
use mathlib.Core.List.{List, [], ◌∷◌}
use Prim.Native.Nat.{ℕ, ◌+◌, ◌*◌, ◌%◌, ◌<◌}
use lib.Dec.{eqb}
use borrow.Author.Tests.{ne_eqb}
use Rattle.encodings.specs.Bits.{pick}
use Rattle.encodings.specs.Encodings.{Row}
use Rattle.encodings.specs.declared.ops.Op.{Op}
use Rattle.std.specs.Prelude.{Option, None}
use Rattle.encodings.proofs.Table.{listed, agree}

-- the numbers of the rows, and of those rows whose low six bits are j
abbrev pub numbers : List Row → List ℕ
numbers [] = []
numbers (r ∷ rs) = r.number ∷ numbers rs

abbrev pub column : ℕ → List Row → List ℕ
column j [] = []
column j (r ∷ rs) = pick (eqb (r.number % 64) j) (r.number ∷ column j rs) (column j rs)

abbrev pub among : ℕ → List ℕ → Bool
among n [] = false
among n (k ∷ ks) = pick (eqb n k) true (among n ks)

module _ (n : ℕ) where
  -- the last arm's fact, `.rest`: `acc` is what was known before these codes
  abbrev pub Rest : Type 0 → List ℕ → Type 0
  Rest acc [] = acc
  Rest acc (k ∷ ks) = Rest (acc × (n ≡ k → ⊥)) ks

  first : (acc : Type 0) (ks : List ℕ) → Rest acc ks → acc
  first acc [] h = h
  first acc (k ∷ ks) h = (first (acc × (n ≡ k → ⊥)) ks h).0

  from : (acc : Type 0) (ks : List ℕ) → Rest acc ks → among n ks ≡ false
  from acc [] h = refl
  from acc (k ∷ ks) h = rw (ne_eqb n k (first (acc × (n ≡ k → ⊥)) ks h).1) (from (acc × (n ≡ k → ⊥)) ks h)

  pub none : (ks : List ℕ) → Rest Unit ks → among n ks ≡ false
  none ks h = from Unit ks h

-- f where it is given one of the codes
abbrev pub only : List ℕ → (ℕ → Option Op) → ℕ → Option Op
only ks f n = pick (among n ks) (f n) None

module _ (f : ℕ → Option Op) (j step size : ℕ) (ks : List ℕ) where
  -- at the numbers j, j + step, .. the codes are all that f knows
  pub outside : listed (λ i. f (i * step + j)) 0 size ≡ listed (λ i. only ks f (i * step + j)) 0 size →
      (n i : ℕ) → i < size → i * step + j ≡ n → Rest n Unit ks → None ≡ f n
  outside e n i h at r =
      sym (rw at at (agree (λ i. f (i * step + j)) (λ i. only ks f (i * step + j)) size e i h) ∙ rw (none n ks r))
