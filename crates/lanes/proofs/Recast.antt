-- The bytes of lanes that are numbers, and the lanes of bytes: what `from_le_bytes` and `to_le_bytes` give, lane by lane. Assumes nothing.
use Rattle.std.proofs.Common.{◌≡◌, ℕ, zero, suc, ◌+◌, ◌*◌, ◌/◌, ◌%◌, ◌^◌, ◌<◌, List, [], ◌∷◌, ◌++◌, length, sym, refl, ap, ◌∙◌, subst, arith, Fits, pow_pos, mod-lt}
use lib.ListN.{get_or}
use lib.Lanes.{Each1, number_l, digits_l, pick_l}
use mir.Syntax.{Width, w8, w16, w32}
use mir.Val.{Val, bits}
use denote.Array.{each}
use denote.Plain.{UInt}
use denote.Shadow.{shadow}
use borrow.Author.Rules.{elem_Fits}
use Rattle.std.specs.List.{range_with_len}
use Rattle.std.proofs.lemmas.Simd.{pick_l_whole}
use Rattle.lanes.specs.declared.Size.TheVariants.{Byte, Half, Word}
use Rattle.lanes.specs.Numbers.{number_at}
use Rattle.lanes.specs.Order.{Bytes}
use Rattle.lanes.specs.Words.{word_from}
use Rattle.lanes.specs.Placed.{lanes_of, laid}

-- a list of n elements, written out
pub written_out : (P : List ℕ → Type 0) (n : ℕ) (v : List ℕ) → length v ≡ n → P (pick_l 0 v (range_with_len 0 n)) → P v
written_out P n v e = subst P (pick_l_whole 0 v n e)

-- a lane of two bytes, and of four, before the lanes r
module _ (n r : ℕ) {l : List ℕ} (e : digits_l (2 ^ 16) n r ≡ l) where
  pub half : {x y : ℕ} → x < 256 → y < 256 → digits_l (2 ^ 16) (suc n) (y + 256 * (x + 256 * r)) ≡ (x * 2 ^ 8 + y) ∷ l
  half {x} {y} h k =
      let a : (y + 256 * (x + 256 * r)) % 2 ^ 16 ≡ x * 2 ^ 8 + y = omega arith in
      let b : (y + 256 * (x + 256 * r)) / 2 ^ 16 ≡ r = omega arith in
      rw (a, b) (ap (λ (t : List ℕ). (x * 2 ^ 8 + y) ∷ t) e)

module _ (n r : ℕ) {l : List ℕ} (e : digits_l (2 ^ 32) n r ≡ l) where
  pub word : {x y z t : ℕ} → x < 256 → y < 256 → z < 256 → t < 256 → digits_l (2 ^ 32) (suc n) (t + 256 * (z + 256 * (y + 256 * (x + 256 * r)))) ≡ (x * 2 ^ 24 + y * 2 ^ 16 + z * 2 ^ 8 + t) ∷ l
  word {x} {y} {z} {t} h k i j =
      let a : (t + 256 * (z + 256 * (y + 256 * (x + 256 * r)))) % 2 ^ 32 ≡ x * 2 ^ 24 + y * 2 ^ 16 + z * 2 ^ 8 + t = omega arith in
      let b : (t + 256 * (z + 256 * (y + 256 * (x + 256 * r)))) / 2 ^ 32 ≡ r = omega arith in
      rw (a, b) (ap (λ (s : List ℕ). (x * 2 ^ 24 + y * 2 ^ 16 + z * 2 ^ 8 + t) ∷ s) e)

-- the bytes of a lane of two bytes, and of four, the lowest first
module _ (n r : ℕ) {l : List ℕ} (e : digits_l 256 n r ≡ l) where
  pub of_half : {x : ℕ} → x < 2 ^ 16 → digits_l 256 (suc (suc n)) (x + 2 ^ 16 * r) ≡ x % 256 ∷ x / 2 ^ 8 % 256 ∷ l
  of_half {x} h =
      let a : (x + 2 ^ 16 * r) % 256 ≡ x % 256 = omega arith in
      let b : (x + 2 ^ 16 * r) / 256 % 256 ≡ x / 2 ^ 8 % 256 = omega arith in
      let c : (x + 2 ^ 16 * r) / 256 / 256 ≡ r = omega arith in
      rw (a, b, c) (ap (λ (t : List ℕ). x % 256 ∷ x / 2 ^ 8 % 256 ∷ t) e)

  pub of_word : {x : ℕ} → x < 2 ^ 32 → digits_l 256 (suc (suc (suc (suc n)))) (x + 2 ^ 32 * r) ≡ x % 256 ∷ x / 2 ^ 8 % 256 ∷ x / 2 ^ 16 % 256 ∷ x / 2 ^ 24 % 256 ∷ l
  of_word {x} h =
      let a : (x + 2 ^ 32 * r) % 256 ≡ x % 256 = omega arith in
      let b : (x + 2 ^ 32 * r) / 256 % 256 ≡ x / 2 ^ 8 % 256 = omega arith in
      let c : (x + 2 ^ 32 * r) / 256 / 256 % 256 ≡ x / 2 ^ 16 % 256 = omega arith in
      let d : (x + 2 ^ 32 * r) / 256 / 256 / 256 % 256 ≡ x / 2 ^ 24 % 256 = omega arith in
      let f : (x + 2 ^ 32 * r) / 256 / 256 / 256 / 256 ≡ r = omega arith in
      rw (a, b, c, d, f) (ap (λ (t : List ℕ). x % 256 ∷ x / 2 ^ 8 % 256 ∷ x / 2 ^ 16 % 256 ∷ x / 2 ^ 24 % 256 ∷ t) e)

-- sixteen bytes as halves and as words, and back, each lane with its bytes turned round
abbrev pub turned_2 : List ℕ
turned_2 = 1 ∷ 0 ∷ 3 ∷ 2 ∷ 5 ∷ 4 ∷ 7 ∷ 6 ∷ 9 ∷ 8 ∷ 11 ∷ 10 ∷ 13 ∷ 12 ∷ 15 ∷ 14 ∷ []

abbrev pub turned_4 : List ℕ
turned_4 = 3 ∷ 2 ∷ 1 ∷ 0 ∷ 7 ∷ 6 ∷ 5 ∷ 4 ∷ 11 ∷ 10 ∷ 9 ∷ 8 ∷ 15 ∷ 14 ∷ 13 ∷ 12 ∷ []

-- what an array of bytes is known by
pub in_array : (v : List ℕ) (us : List Val) → shadow (each ℕ (UInt w8).own_val v us) → Bytes v
in_array v us p i = (elem_Fits w8 w8 v us i p tt).fits

pub below : (w : Width) (v : List ℕ) → Each1 (Fits w) v → (i : ℕ) → get_or v i 0 < 2 ^ bits w
below w [] h i = pow_pos (bits w)
below w (x ∷ v) h zero = h.0.fits
below w (x ∷ v) h (suc i) = below w v h.1 i

module _ (v : List ℕ) where
  pub as_bytes : length v ≡ 16 → v ≡ lanes_of Byte v
  unfolding number_at
  as_bytes e = sym (pick_l_whole 0 v 16 e)

  pub as_halves : length v ≡ 16 → Bytes v → digits_l (2 ^ 16) 8 (number_l 256 (pick_l 0 (v ++ v) turned_2)) ≡ lanes_of Half v
  unfolding number_at
  as_halves e b =
      written_out (λ (u : List ℕ). digits_l (2 ^ 16) 8 (number_l 256 (pick_l 0 (u ++ u) turned_2)) ≡ lanes_of Half u) 16 v e
      (half 7 _ (half 6 _ (half 5 _ (half 4 _ (half 3 _ (half 2 _ (half 1 _ (half 0 0 refl (b 14) (b 15)) (b 12) (b 13)) (b 10) (b 11)) (b 8) (b 9)) (b 6) (b 7)) (b 4) (b 5)) (b 2) (b 3)) (b 0) (b 1))

  pub as_words : length v ≡ 16 → Bytes v → digits_l (2 ^ 32) 4 (number_l 256 (pick_l 0 (v ++ v) turned_4)) ≡ lanes_of Word v
  unfolding number_at word_from
  as_words e b =
      written_out (λ (u : List ℕ). digits_l (2 ^ 32) 4 (number_l 256 (pick_l 0 (u ++ u) turned_4)) ≡ lanes_of Word u) 16 v e
      (word 3 _ (word 2 _ (word 1 _ (word 0 0 refl (b 12) (b 13) (b 14) (b 15)) (b 8) (b 9) (b 10) (b 11)) (b 4) (b 5) (b 6) (b 7)) (b 0) (b 1) (b 2) (b 3))

  -- and back
  pub bytes_as_they_are : length v ≡ 16 → Each1 (Fits w8) v → v ≡ laid Byte v
  bytes_as_they_are e f = small v f
    where
      small : (u : List ℕ) → Each1 (Fits w8) u → u ≡ laid Byte u
      small [] h = refl
      small (x ∷ u) h =
          let l : x < 256 = h.0.fits in
          let a : x ≡ x % 256 = omega arith in
          λ i. a i ∷ small u h.1 i

  pub of_halves : length v ≡ 8 → Each1 (Fits w16) v → pick_l 0 (digits_l 256 16 (number_l (2 ^ 16) v) ++ digits_l 256 16 (number_l (2 ^ 16) v)) turned_2 ≡ laid Half v
  of_halves e f =
      let b : (i : ℕ) → get_or v i 0 < 2 ^ 16 = below w16 v f in
      written_out (λ (u : List ℕ). pick_l 0 (digits_l 256 16 (number_l (2 ^ 16) u) ++ digits_l 256 16 (number_l (2 ^ 16) u)) turned_2 ≡ laid Half u) 8 v e
      (ap (λ (l : List ℕ). pick_l 0 (l ++ l) turned_2) (of_half 14 _ (of_half 12 _ (of_half 10 _ (of_half 8 _ (of_half 6 _ (of_half 4 _ (of_half 2 _ (of_half 0 0 refl (b 7)) (b 6)) (b 5)) (b 4)) (b 3)) (b 2)) (b 1)) (b 0)))

  pub of_words : length v ≡ 4 → Each1 (Fits w32) v → pick_l 0 (digits_l 256 16 (number_l (2 ^ 32) v) ++ digits_l 256 16 (number_l (2 ^ 32) v)) turned_4 ≡ laid Word v
  of_words e f =
      let b : (i : ℕ) → get_or v i 0 < 2 ^ 32 = below w32 v f in
      written_out (λ (u : List ℕ). pick_l 0 (digits_l 256 16 (number_l (2 ^ 32) u) ++ digits_l 256 16 (number_l (2 ^ 32) u)) turned_4 ≡ laid Word u) 4 v e
      (ap (λ (l : List ℕ). pick_l 0 (l ++ l) turned_4) (of_word 12 _ (of_word 8 _ (of_word 4 _ (of_word 0 0 refl (b 3)) (b 2)) (b 1)) (b 0)))

  -- the bits of words, through their bytes
  pub bits_again : length v ≡ 4 → Each1 (Fits w32) v → digits_l (2 ^ 32) 4 (number_l 256 (digits_l 256 16 (number_l (2 ^ 32) v))) ≡ v
  bits_again e f =
      let b : (i : ℕ) → get_or v i 0 < 2 ^ 32 = below w32 v f in
      let r : (x : ℕ) → x < 2 ^ 32 → x / 2 ^ 24 % 256 * 2 ^ 24 + x / 2 ^ 16 % 256 * 2 ^ 16 + x / 2 ^ 8 % 256 * 2 ^ 8 + x % 256 ≡ x = λ x h. omega arith in
      let l : (x : ℕ) → x % 256 < 256 = λ x. mod-lt x (omega arith) in
      written_out (λ (u : List ℕ). digits_l (2 ^ 32) 4 (number_l 256 (digits_l 256 16 (number_l (2 ^ 32) u))) ≡ u) 4 v e
      (ap (λ (t : List ℕ). digits_l (2 ^ 32) 4 (number_l 256 t)) (of_word 12 _ (of_word 8 _ (of_word 4 _ (of_word 0 0 refl (b 3)) (b 2)) (b 1)) (b 0))
      ∙ (word 3 _ (word 2 _ (word 1 _ (word 0 0 refl (l (get_or v 3 0 / 2 ^ 24)) (l (get_or v 3 0 / 2 ^ 16)) (l (get_or v 3 0 / 2 ^ 8)) (l (get_or v 3 0))) (l (get_or v 2 0 / 2 ^ 24)) (l (get_or v 2 0 / 2 ^ 16)) (l (get_or v 2 0 / 2 ^ 8)) (l (get_or v 2 0))) (l (get_or v 1 0 / 2 ^ 24)) (l (get_or v 1 0 / 2 ^ 16)) (l (get_or v 1 0 / 2 ^ 8)) (l (get_or v 1 0))) (l (get_or v 0 0 / 2 ^ 24)) (l (get_or v 0 0 / 2 ^ 16)) (l (get_or v 0 0 / 2 ^ 8)) (l (get_or v 0 0)))
      ∙ (λ i. r (get_or v 0 0) (b 0) i ∷ r (get_or v 1 0) (b 1) i ∷ r (get_or v 2 0) (b 2) i ∷ r (get_or v 3 0) (b 3) i ∷ []))

  -- and of halves
  pub halves_again : length v ≡ 8 → Each1 (Fits w16) v → digits_l (2 ^ 16) 8 (number_l 256 (digits_l 256 16 (number_l (2 ^ 16) v))) ≡ v
  halves_again e f =
      let b : (i : ℕ) → get_or v i 0 < 2 ^ 16 = below w16 v f in
      let r : (x : ℕ) → x < 2 ^ 16 → x / 2 ^ 8 % 256 * 2 ^ 8 + x % 256 ≡ x = λ x h. omega arith in
      let l : (x : ℕ) → x % 256 < 256 = λ x. mod-lt x (omega arith) in
      written_out (λ (u : List ℕ). digits_l (2 ^ 16) 8 (number_l 256 (digits_l 256 16 (number_l (2 ^ 16) u))) ≡ u) 8 v e
      (ap (λ (t : List ℕ). digits_l (2 ^ 16) 8 (number_l 256 t)) (of_half 14 _ (of_half 12 _ (of_half 10 _ (of_half 8 _ (of_half 6 _ (of_half 4 _ (of_half 2 _ (of_half 0 0 refl (b 7)) (b 6)) (b 5)) (b 4)) (b 3)) (b 2)) (b 1)) (b 0))
      ∙ (half 7 _ (half 6 _ (half 5 _ (half 4 _ (half 3 _ (half 2 _ (half 1 _ (half 0 0 refl (l (get_or v 7 0 / 2 ^ 8)) (l (get_or v 7 0))) (l (get_or v 6 0 / 2 ^ 8)) (l (get_or v 6 0))) (l (get_or v 5 0 / 2 ^ 8)) (l (get_or v 5 0))) (l (get_or v 4 0 / 2 ^ 8)) (l (get_or v 4 0))) (l (get_or v 3 0 / 2 ^ 8)) (l (get_or v 3 0))) (l (get_or v 2 0 / 2 ^ 8)) (l (get_or v 2 0))) (l (get_or v 1 0 / 2 ^ 8)) (l (get_or v 1 0))) (l (get_or v 0 0 / 2 ^ 8)) (l (get_or v 0 0)))
      ∙ (λ i. r (get_or v 0 0) (b 0) i ∷ r (get_or v 1 0) (b 1) i ∷ r (get_or v 2 0) (b 2) i ∷ r (get_or v 3 0) (b 3) i ∷ r (get_or v 4 0) (b 4) i ∷ r (get_or v 5 0) (b 5) i ∷ r (get_or v 6 0) (b 6) i ∷ r (get_or v 7 0) (b 7) i ∷ []))
