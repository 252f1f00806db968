-- An operation on words does not care for their order: for every f on words, and every order of the four. Assumes nothing.
use Rattle.std.proofs.Common.{◌≡◌, ℕ, zero, suc, ◌+◌, ◌*◌, ◌^◌, ◌<◌, ◌↔◌, List, ap, ◌∙◌, subst, arith}
use Rattle.lanes.specs.declared.Marked.{Marked}
use Rattle.lanes.specs.Words.{MarkedWord, word_from, bytes_of, joined, wordwise}
use Rattle.lanes.specs.Order.{Bytes, Order, reordered, at_place}

pub four : (P : ℕ → Type 0) → P 0 → P 1 → P 2 → P 3 → (j : ℕ) → j < 4 → P j
four P a b c d zero h = a
four P a b c d (suc zero) h = b
four P a b c d (suc (suc zero)) h = c
four P a b c d (suc (suc (suc zero))) h = d
four P a b c d (suc (suc (suc (suc j)))) h = absurd (omega arith)

-- a word of four words
module _ {a b c d : ℕ} (ha : a < 2 ^ 32) (hb : b < 2 ^ 32) (hc : c < 2 ^ 32) (hd : d < 2 ^ 32) where
  word_0 : word_from (bytes_of a b c d) 0 ≡ a
  unfolding word_from bytes_of
  word_0 = omega arith

  word_1 : word_from (bytes_of a b c d) 4 ≡ b
  unfolding word_from bytes_of
  word_1 = omega arith

  word_2 : word_from (bytes_of a b c d) 8 ≡ c
  unfolding word_from bytes_of
  word_2 = omega arith

  word_3 : word_from (bytes_of a b c d) 12 ≡ d
  unfolding word_from bytes_of
  word_3 = omega arith

-- word j of the words g 0 to g 3
pub word_of : (g : ℕ → ℕ) → ((j : ℕ) → g j < 2 ^ 32) → (j : ℕ) → j < 4 → word_from (bytes_of (g 0) (g 1) (g 2) (g 3)) (4 * j) ≡ g j
word_of g s =
    four (λ j. word_from (bytes_of (g 0) (g 1) (g 2) (g 3)) (4 * j) ≡ g j)
    (word_0 (s 0) (s 1) (s 2) (s 3))
    (word_1 (s 0) (s 1) (s 2) (s 3))
    (word_2 (s 0) (s 1) (s 2) (s 3))
    (word_3 (s 0) (s 1) (s 2) (s 3))

pub word_lt : (v : List ℕ) (k : ℕ) → Bytes v → word_from v k < 2 ^ 32
unfolding word_from
word_lt v k h = omega (arith, h k, h (k + 1), h (k + 2), h (k + 3))

-- what stands at place j of a reordered vector
row : (p : ℕ → ℕ) (v : List ℕ) → Bytes v → (j : ℕ) → j < 4 → word_from (reordered p v) (4 * j) ≡ word_from v (4 * p j)
row p v h = word_of (λ j. word_from v (4 * p j)) (λ j. word_lt v (4 * p j) h)

module _ (n : ℕ) (f : ℕ → ℕ → ℕ → MarkedWord) (p : ℕ → ℕ) (a b c : List ℕ) (ha : Bytes a) (hb : Bytes b) (hc : Bytes c) where
  -- the words of the operands reordered, the words of the result are reordered
  pub reorder : wordwise n f (reordered p a) (reordered p b) (reordered p c)
      ≡ joined n (at_place f a b c (p 0)) (at_place f a b c (p 1)) (at_place f a b c (p 2)) (at_place f a b c (p 3))
  reorder =
      let A = row p a ha in
      let B = row p b hb in
      let C = row p c hc in
      rw (
        A 0 (omega arith),
        A 1 (omega arith),
        A 2 (omega arith),
        A 3 (omega arith),
        B 0 (omega arith),
        B 1 (omega arith),
        B 2 (omega arith),
        B 3 (omega arith),
        C 0 (omega arith),
        C 1 (omega arith),
        C 2 (omega arith),
        C 3 (omega arith),
      )

  -- the same of its bytes, said by the reordered result
  pub reordered-bytes : Order p → ((x y z : ℕ) → (f x y z).value < 2 ^ 32)
      → (wordwise n f (reordered p a) (reordered p b) (reordered p c)).bytes ≡ reordered p (wordwise n f a b c).bytes
  unfolding joined
  reordered-bytes o small =
      let at : (j : ℕ) → j < 4 → word_from (wordwise n f a b c).bytes (4 * p j) ≡ (at_place f a b c (p j)).value
      = λ j l. word_of (λ i. (at_place f a b c i).value) (λ i. small _ _ _) (p j) (o.into j l) in
      ap (λ (v : Marked). v.bytes) reorder ∙ rw (at 0 (omega arith), at 1 (omega arith), at 2 (omega arith), at 3 (omega arith))

  -- what holds of every word's result holds of every word's result in the new order, and the other way round
  pub every : (Q : MarkedWord → Type 0) → Order p → ((j : ℕ) → j < 4 → Q (at_place f a b c j)) ↔ ((j : ℕ) → j < 4 → Q (at_place f a b c (p j)))
  every Q o = (
    λ h j l. h (p j) (o.into j l),
    λ h k l. subst (λ (i : ℕ). Q (at_place f a b c i)) (o.onto k l).2 (h (o.onto k l).0 (o.onto k l).1),
  )
