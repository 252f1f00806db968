-- Bytes that are named by the low bits of others. Assumes nothing.
use Rattle.std.proofs.Common.{◌≡◌, ℕ, suc, ◌+◌, ◌-◌, ◌*◌, ◌/◌, ◌%◌, ◌<◌, ◌≤◌, zero, Bool, true, false, cond, ltb, List, [], ◌∷◌, map, length, bit_and, refl, sym, subst, ◌∙◌, arith, ltb-true, ltb-false}
use Rattle.std.proofs.lemmas.Bool.{lt-leb}
use Rattle.std.proofs.lemmas.Nat.{and_le_r, and_mask}
use Rattle.std.proofs.lemmas.Simd.{SwzOk-from_below, swz_l, zip2_splat, pick_l_whole, pick_l-range_with_len, get_or-chunk, length-chunk}
use Rattle.std.proofs.lemmas.List.FromFn.{get_or-map-range_with_len, length-map-range_with_len}
use Rattle.std.proofs.Math.Nat.{zero-add}
use Rattle.std.specs.List.{range_with_len}
use lib.ListN.{get_or, replicate, length-map}
use lib.Lanes.{Each1, zip2, sel_l, top, pick_l, chunk}
use mir.Syntax.{w8}
use borrow.Rule.Simd.Moves.{SwzOk}
use Rattle.moves.specs.Chosen.{places, byte_of, permuted}

low : (xs : List ℕ) → Each1 (λ j. j < 16) (map (λ x. bit_and x 15) xs)
low [] = tt
low (x ∷ xs) = (omega (arith, and_le_r x 15), low xs)

read : (v : List ℕ) (xs : List ℕ) (i : ℕ) → i + length xs ≤ 16 → swz_l w8 16 v i (map (λ x. bit_and x 15) xs) ≡ map (λ x. get_or v (bit_and x 15) 0) xs
read v [] i h = refl
read v (x ∷ xs) i h =
    let s : suc (length xs) ≡ length xs + 1 = omega arith in
    let l : i < 16 = omega arith in
    let a : 16 * (i / 16) + bit_and x 15 ≡ bit_and x 15 = omega arith in
    let b : bit_and x 15 < 128 = omega (arith, and_le_r x 15) in
    let r = read v xs (suc i) (omega arith) in
    rw (lt-leb 128 (bit_and x 15) b, a, r) refl

module _ (k : List ℕ) (e : length k ≡ 16) where
  masked : zip2 bit_and k (replicate 16 15) ≡ map (λ x. bit_and x 15) k
  masked = zip2_splat bit_and k 16 15 e

  pub named-ok : SwzOk w8 16 16 0 (zip2 bit_and k (replicate 16 15))
  named-ok = rw masked (SwzOk-from_below w8 16 1 16 0 (map (λ x. bit_and x 15) k) (omega arith) (omega (arith, length-map k (λ x. bit_and x 15))) (low k))

  pub named-is : (v : List ℕ) → swz_l w8 16 v 0 (zip2 bit_and k (replicate 16 15)) ≡ map (λ x. get_or v (bit_and x 15) 0) k
  named-is v = rw masked (read v k 0 (omega arith))

-- the choice between two vectors
chosen : (a b : List ℕ) (x : ℕ) (t : Bool) → ltb (x % 32) 16 ≡ t → cond (top 7 (cond (ltb (bit_and x 31) 16) 255 0)) (get_or a (bit_and x 15) 0) (get_or b (bit_and x 15) 0) ≡ byte_of a b (x % 32)
chosen a b x true h =
    let l = ltb-true (x % 32) 16 h in
    let e : x % 16 ≡ x % 32 = omega arith in
    rw (and_mask x 4, and_mask x 5, h, e) refl
chosen a b x false h =
    let l = ltb-false (x % 32) 16 h in
    let e : x % 16 ≡ x % 32 - 16 = omega arith in
    rw (and_mask x 4, and_mask x 5, h, e) refl

module _ (a b : List ℕ) where
  by_five_bits : List ℕ → List ℕ
  by_five_bits c = sel_l (map (top 7) (map (λ x. cond (ltb (bit_and x 31) 16) 255 0) c)) (map (λ x. get_or a (bit_and x 15) 0) c) (map (λ x. get_or b (bit_and x 15) 0) c)

  each : (xs : List ℕ) → by_five_bits xs ≡ map (λ x. byte_of a b (x % 32)) xs
  unfolding by_five_bits
  each [] = refl
  each (x ∷ xs) = λ i. chosen a b x (ltb (x % 32) 16) refl i ∷ each xs i

  abbrev less : ℕ → ℕ → ℕ
  less x y = cond (ltb x y) 255 0

  pub permuted-is : (c : List ℕ) → length c ≡ 16 → sel_l (map (top 7) (zip2 less (zip2 bit_and c (replicate 16 31)) (replicate 16 16))) (map (λ x. get_or a (bit_and x 15) 0) c) (map (λ x. get_or b (bit_and x 15) 0) c) ≡ permuted a b c
  unfolding by_five_bits
  permuted-is c e =
      subst (λ (u : List ℕ). sel_l (map (top 7) (zip2 less (zip2 bit_and u (replicate 16 31)) (replicate 16 16))) (map (λ x. get_or a (bit_and x 15) 0) u) (map (λ x. get_or b (bit_and x 15) 0) u) ≡ permuted a b u) (pick_l_whole 0 c 16 e)
      (each (pick_l 0 c (range_with_len 0 16)))

-- sixteen entries of a table, from k on, where entry j of n is f j
module _ (f : ℕ → ℕ) (n k : ℕ) (room : k + 16 ≤ n) where
  entries : List ℕ
  entries = chunk k (n - k) (map f (range_with_len 0 n))

  entry : (j : ℕ) → j < 16 → get_or entries j 0 ≡ f (k + j)
  unfolding entries
  entry j h =
      get_or-chunk k (n - k) (map f (range_with_len 0 n)) j 0 (omega arith) ∙ get_or-map-range_with_len f 0 n (k + j) (k + j) 0 (omega arith) (zero-add (k + j))

  in_turn : (m i : ℕ) → i + m ≤ 16 → places m i (λ j. get_or entries j 0) ≡ places m i (λ j. f (k + j))
  in_turn zero i h = refl
  in_turn (suc m) i h =
      let e = entry i (omega arith) in
      let r = in_turn m (suc i) (omega arith) in
      λ t. e t ∷ r t

  pub table-from : chunk 0 16 (chunk k (n - k) (map f (range_with_len 0 n))) ≡ places 16 0 (λ j. f (k + j))
  unfolding entries
  table-from =
      let xs = map f (range_with_len 0 n) in
      let l : length xs ≡ n = length-map-range_with_len f 0 n in
      sym (pick_l-range_with_len 0 (chunk k (n - k) xs) 0 16 (omega (arith, length-chunk k (n - k) xs (omega arith)))) ∙ in_turn 16 0 (omega arith)
