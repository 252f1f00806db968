-- Two rules whose values are listed from 0 on: where antt computes equal lists, the rules agree at each place.
-- Assumes nothing.
use mathlib.Core.Path.{◌≡◌, ◌∙◌, ap, sym}
use mathlib.Core.List.{List, [], ◌∷◌}
use Prim.Native.Nat.{ℕ, zero, suc, ◌+◌, ◌<◌}
use native.Mathlib.Nat.{add-zero, zero-add, add-suc, suc-add, le_of_suc-le-suc, not-suc-le-zero}
use lib.ListN.{get_or}

-- the rule's values at n places from i
abbrev pub listed : {A : Type 0} → (ℕ → A) → ℕ → ℕ → List A
listed f i zero = []
listed f i (suc n) = f i ∷ listed f (suc i) n

module _ {A : Type 0} (d : A) (f : ℕ → A) where
  from : (n i k : ℕ) → k < n → get_or (listed f i n) k d ≡ f (i + k)
  from zero i k h = absurd (not-suc-le-zero h)
  from (suc n) i zero h = ap f (sym (add-zero i))
  from (suc n) i (suc k) h = from n (suc i) k (le_of_suc-le-suc h) ∙ ap f (suc-add i k ∙ sym (add-suc i k))

  at : (n k : ℕ) → k < n → get_or (listed f 0 n) k d ≡ f k
  at n k h = from n 0 k h ∙ ap f (zero-add k)

pub agree : {A : Type 0} (f g : ℕ → A) (n : ℕ) → listed f 0 n ≡ listed g 0 n → (k : ℕ) → k < n → f k ≡ g k
agree f g n e k h = sym (at (f 0) f n k h) ∙ (ap (λ l. get_or l k (f 0)) e ∙ at (f 0) g n k h)
