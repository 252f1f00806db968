-- A comparison of four words is true of all where the four bits of its mask are ones. Assumes nothing.
use Rattle.std.proofs.Common.{◌≡◌, ℕ, List, ◌%◌, ◌^◌, Bool, true, false, ◌&&◌, cond, eqb, [], ◌∷◌, map, refl}
use lib.Lanes.{mask_l, top, zip2}
use Rattle.lanes.specs.declared.Size.TheVariants.{Word}
use Rattle.lanes.specs.Numbers.{number_at}
use Rattle.lanes.specs.Summary.{all_are}
use Rattle.lanes.specs.Words.{word_from}
use Rattle.lanes.specs.Placed.{lanes_of}

four : (p q r t : Bool) → eqb (mask_l (map (top 31) (cond p 4294967295 0 ∷ cond q 4294967295 0 ∷ cond r 4294967295 0 ∷ cond t 4294967295 0 ∷ [])) % 2 ^ 64) 15 ≡ (p && q && r && t)
four true true true true = refl
four true true true false = refl
four true true false t = at t
  where
    at : (t : Bool) → eqb (mask_l (map (top 31) (4294967295 ∷ 4294967295 ∷ 0 ∷ cond t 4294967295 0 ∷ [])) % 2 ^ 64) 15 ≡ false
    at true = refl
    at false = refl
four true false r t = at r t
  where
    at : (r t : Bool) → eqb (mask_l (map (top 31) (4294967295 ∷ 0 ∷ cond r 4294967295 0 ∷ cond t 4294967295 0 ∷ [])) % 2 ^ 64) 15 ≡ false
    at true true = refl
    at true false = refl
    at false true = refl
    at false false = refl
four false q r t = at q r t
  where
    at : (q r t : Bool) → eqb (mask_l (map (top 31) (0 ∷ cond q 4294967295 0 ∷ cond r 4294967295 0 ∷ cond t 4294967295 0 ∷ [])) % 2 ^ 64) 15 ≡ false
    at true true true = refl
    at true true false = refl
    at true false true = refl
    at true false false = refl
    at false true true = refl
    at false true false = refl
    at false false true = refl
    at false false false = refl

pub four_words : (k : ℕ) (v : List ℕ) → eqb (mask_l (map (top 31) (zip2 (λ a b. cond (eqb a b) 4294967295 0) (lanes_of Word v) (k ∷ k ∷ k ∷ k ∷ []))) % 2 ^ 64) 15 ≡ all_are k v
unfolding number_at
four_words k v = four (eqb (word_from v 0) k) (eqb (word_from v 4) k) (eqb (word_from v 8) k) (eqb (word_from v 12) k)
