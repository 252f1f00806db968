-- A slide reads two vectors that stand side by side; it is the vperm whose places count from the slide's first byte, and a slide to the left into
-- zeros is one that starts behind zeros. Assumes nothing.
use Rattle.std.proofs.Common.{◌≡◌, ℕ, zero, suc, ◌+◌, ◌-◌, ◌%◌, ◌<◌, ◌≤◌, Bool, true, false, ltb, List, ◌∷◌, ◌++◌, length, refl, sym, ap, ◌∙◌, append-nil, arith, mod-eq_of_lt, ltb-true, ltb-false, le-ltb}
use Rattle.std.proofs.lemmas.Simd.{pick_l-range_with_len, get_or-chunk, length-chunk, get_or-replicate}
use Rattle.std.proofs.lemmas.List.{drop_all, get_or_past}
use lib.ListN.{get_or, get_or-append, length-append}
use lib.Seq.{get_or-append-add, take_at, drop-drop}
use lib.Lanes.{chunk}
use borrow.Rule.Slice.PartMut.{put_mid}
use Rattle.moves.specs.Chosen.{places, byte_of, permuted}
use Rattle.slides.specs.Slid.{slid, zeros}

-- a byte of the two
byte : (a b : List ℕ) (p : ℕ) → length a ≡ 16 → (t : Bool) → ltb p 16 ≡ t → get_or (a ++ b) p 0 ≡ byte_of a b p
byte a b p n true h =
    let l = ltb-true p 16 h in
    rw h (get_or-append a b 0 p (omega arith))
byte a b p n false h =
    let l = ltb-false p 16 h in
    let e : p ≡ length a + (p - 16) = omega arith in
    rw h (ap (λ i. get_or (a ++ b) i 0) e ∙ get_or-append-add a b (p - 16) 0)

module _ (a b : List ℕ) (k : ℕ) (n : length a ≡ 16) (m : length b ≡ 16) (room : k ≤ 16) where
  from_k : List ℕ
  from_k = chunk k (32 - k) (a ++ b)

  entry : (j : ℕ) → j < 16 → get_or from_k j 0 ≡ byte_of a b (k + j)
  unfolding from_k
  entry j h = get_or-chunk k (32 - k) (a ++ b) j 0 (omega arith) ∙ byte a b (k + j) n (ltb (k + j) 16) refl

  in_turn : (c i : ℕ) → i + c ≤ 16 → places c i (λ j. get_or from_k j 0) ≡ places c i (λ j. byte_of a b (k + j))
  in_turn zero i h = refl
  in_turn (suc c) i h =
      let e = entry i (omega arith) in
      let r = in_turn c (suc i) (omega arith) in
      λ t. e t ∷ r t

  side_by_side : chunk 0 16 (chunk k (32 - k) (a ++ b)) ≡ slid a b k
  unfolding from_k
  side_by_side =
      let l : length (a ++ b) ≡ 32 = omega (arith, length-append a b) in
      sym (pick_l-range_with_len 0 (chunk k (32 - k) (a ++ b)) 0 16 (omega (arith, length-chunk k (32 - k) (a ++ b) (omega arith)))) ∙ in_turn 16 0 (omega arith)

  -- the two as they are written: a before zeros z, then b over the second half
  pub slide-is : (z s t : List ℕ) → length z ≡ 16 → s ≡ a → t ≡ b → chunk 0 16 (chunk k (32 - k) (put_mid 16 16 (s ++ z) t)) ≡ slid a b k
  slide-is z s t q e f =
      let whole : put_mid 16 16 (a ++ z) b ≡ a ++ b = rw (take_at a z 16 (omega arith))
      (ap (λ l. a ++ (b ++ l)) (drop-drop 16 16 (a ++ z) ∙ drop_all 32 (a ++ z) (omega (arith, length-append a z))) ∙ ap (λ l. a ++ l) (append-nil b)) in
      rw (e, f, whole) side_by_side

-- vsldoi is the vperm by what lvsl leaves
module _ (a b : List ℕ) (n : ℕ) where
  each : (k i : ℕ) → n + i + k ≤ 32 → places k i (λ j. byte_of a b ((n + j) % 32)) ≡ places k i (λ j. byte_of a b (n + j))
  each zero i h = refl
  each (suc k) i h =
      let e : (n + i) % 32 ≡ n + i = mod-eq_of_lt (omega arith) in
      let r = each k (suc i) (omega arith) in
      λ t. byte_of a b (e t) ∷ r t

  pub slid-is : {c : List ℕ} → c ≡ places 16 0 (λ i. n + i) → n ≤ 16 → permuted a b c ≡ slid a b n
  slid-is e h = ap (permuted a b) e ∙ each 16 0 (omega arith)

zero-at : (p : ℕ) → p < 16 → get_or zeros p 0 ≡ 0
zero-at p h = get_or-replicate 16 p 0 0 h

-- zeros after v, seen from sixteen places before it
module _ (v : List ℕ) (n : length v ≡ 16) where
  behind : (p : ℕ) → p < 32 → (t : Bool) → ltb p 16 ≡ t → byte_of zeros v (16 + p) ≡ byte_of v zeros p
  behind p h true e =
      let a : 16 + p - 16 ≡ p = omega arith in
      rw (e, le-ltb (16 + p) 16 (omega arith), a) refl
  behind p h false e =
      let l = ltb-false p 16 e in
      let a : 16 + p - 16 ≡ p = omega arith in
      rw (e, le-ltb (16 + p) 16 (omega arith), a) (get_or_past v p 0 (omega (arith, n)) ∙ sym (zero-at (p - 16) (omega arith)))

  behind-all : (k m i : ℕ) → k + i + m ≤ 32 → places m i (λ j. byte_of zeros v (16 + k + j)) ≡ places m i (λ j. byte_of v zeros (k + j))
  behind-all k zero i h = refl
  behind-all k (suc m) i h =
      let a : 16 + k + i ≡ 16 + (k + i) = omega arith in
      let e = ap (byte_of zeros v) a ∙ behind (k + i) (omega arith) (ltb (k + i) 16) refl in
      let r = behind-all k m (suc i) (omega arith) in
      λ t. e t ∷ r t

  pub slid-left : (k : ℕ) → k ≤ 16 → slid zeros v (16 + k) ≡ slid v zeros k
  slid-left k h = behind-all k 16 0 (omega arith)
