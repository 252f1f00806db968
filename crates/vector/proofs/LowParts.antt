-- The low part of a lane with its sign, and the sums of signed words: what the shared functions give. Assumes nothing.
use Rattle.std.proofs.Common.{◌≡◌, ℕ, zero, suc, ◌+◌, ◌-◌, ◌%◌, ◌^◌, ◌<◌, Bool, true, false, cond, ltb, leb, ◌+ℤ◌, ◌-ℤ◌, pos, List, [], ◌∷◌, map, length, bit_and, bit_xor, of_z, refl, ap, ◌∙◌, arith, mod-lt, ltb-true, ltb-false, Fits}
use native.Mathlib.Nat.{suc_inj, suc-ne-zero}
use lib.Lanes.{Each1, zip2, mask_l, pick_l, sel_l}
use lib.ListN.{get_or, replicate}
use mir.Syntax.{w16, w32}
use Rattle.std.specs.List.{range_with_len}
use Rattle.std.proofs.lemmas.Nat.{and_mask}
use Rattle.lanes.specs.declared.Lane.{Lane}
use Rattle.lanes.specs.declared.Size.TheVariants.{Word}
use Rattle.lanes.specs.Integer.{signed, sat_s}
use Rattle.lanes.specs.Operations.{lane_op}
use Rattle.lanes.specs.Placed.{laid, placed}
use Rattle.lanes.proofs.Bridge.{same_marked, few}
use Rattle.lanes.proofs.Recast.{written_out, below}
use Rattle.lanes.proofs.Signed.{minus_below}
use Rattle.vector.proofs.Masks.{on}
use Rattle.vector.proofs.Sums.{summed_s, out_sum, add_sat_s}

-- a sum, its low bits, and a difference, at every lane
lanes-by : (m s l : ℕ) (f : ℕ → ℕ) → ((x : ℕ) → (bit_and ((x + s) % m) l + (m - s)) % m ≡ f x) → (xs : List ℕ) (n : ℕ) → length xs ≡ n
    → zip2 (λ a b. (a + (m - b)) % m) (zip2 bit_and (zip2 (λ a b. (a + b) % m) xs (replicate n s)) (replicate n l)) (replicate n s) ≡ map f xs
lanes-by m s l f e [] n h = refl
lanes-by m s l f e (x ∷ xs) zero h = absurd (suc-ne-zero (length xs) h)
lanes-by m s l f e (x ∷ xs) (suc n) h = λ i. e x i ∷ lanes-by m s l f e xs n (suc_inj h) i

byte_of_half : (x : ℕ) (t : Bool) → ltb (x % 256) 128 ≡ t → (bit_and ((x + 128) % 65536) 255 + (65536 - 128)) % 65536 ≡ of_z w16 (cond t (pos (x % 256)) (pos (x % 256) -ℤ pos 256))
byte_of_half x true e = rw (and_mask ((x + 128) % 65536) 8) (omega (arith, ltb-true (x % 256) 128 e))
byte_of_half x false e = rw (and_mask ((x + 128) % 65536) 8, minus_below (x % 256) 256 (mod-lt x (omega arith))) (omega (arith, ltb-false (x % 256) 128 e))

byte_of_word : (x : ℕ) (t : Bool) → ltb (x % 256) 128 ≡ t → (bit_and ((x + 128) % 4294967296) 255 + (4294967296 - 128)) % 4294967296 ≡ of_z w32 (cond t (pos (x % 256)) (pos (x % 256) -ℤ pos 256))
byte_of_word x true e = rw (and_mask ((x + 128) % 4294967296) 8) (omega (arith, ltb-true (x % 256) 128 e))
byte_of_word x false e = rw (and_mask ((x + 128) % 4294967296) 8, minus_below (x % 256) 256 (mod-lt x (omega arith))) (omega (arith, ltb-false (x % 256) 128 e))

half_of_word : (x : ℕ) (t : Bool) → ltb (x % 65536) 32768 ≡ t → (bit_and ((x + 32768) % 4294967296) 65535 + (4294967296 - 32768)) % 4294967296 ≡ of_z w32 (cond t (pos (x % 65536)) (pos (x % 65536) -ℤ pos 65536))
half_of_word x true e = rw (and_mask ((x + 32768) % 4294967296) 16) (omega (arith, ltb-true (x % 65536) 32768 e))
half_of_word x false e = rw (and_mask ((x + 32768) % 4294967296) 16, minus_below (x % 65536) 65536 (mod-lt x (omega arith))) (omega (arith, ltb-false (x % 65536) 32768 e))

module _ (xs : List ℕ) where
  pub bytes_of_halves : length xs ≡ 8 → zip2 (λ a b. (a + (65536 - b)) % 65536) (zip2 bit_and (zip2 (λ a b. (a + b) % 65536) xs (replicate 8 128)) (replicate 8 255)) (replicate 8 128) ≡ map (λ x. of_z w16 (signed (2 ^ 8) (x % 2 ^ 8))) xs
  unfolding signed
  bytes_of_halves = lanes-by 65536 128 255 (λ x. of_z w16 (cond (ltb (x % 256) 128) (pos (x % 256)) (pos (x % 256) -ℤ pos 256))) (λ x. byte_of_half x (ltb (x % 256) 128) refl) xs 8

  pub bytes_of_words : length xs ≡ 4 → zip2 (λ a b. (a + (4294967296 - b)) % 4294967296) (zip2 bit_and (zip2 (λ a b. (a + b) % 4294967296) xs (replicate 4 128)) (replicate 4 255)) (replicate 4 128) ≡ map (λ x. of_z w32 (signed (2 ^ 8) (x % 2 ^ 8))) xs
  unfolding signed
  bytes_of_words = lanes-by 4294967296 128 255 (λ x. of_z w32 (cond (ltb (x % 256) 128) (pos (x % 256)) (pos (x % 256) -ℤ pos 256))) (λ x. byte_of_word x (ltb (x % 256) 128) refl) xs 4

  pub halves_of_words : length xs ≡ 4 → zip2 (λ a b. (a + (4294967296 - b)) % 4294967296) (zip2 bit_and (zip2 (λ a b. (a + b) % 4294967296) xs (replicate 4 32768)) (replicate 4 65535)) (replicate 4 32768) ≡ map (λ x. of_z w32 (signed (2 ^ 16) (x % 2 ^ 16))) xs
  unfolding signed
  halves_of_words = lanes-by 4294967296 32768 65535 (λ x. of_z w32 (cond (ltb (x % 65536) 32768) (pos (x % 65536)) (pos (x % 65536) -ℤ pos 65536))) (λ x. half_of_word x (ltb (x % 65536) 32768) refl) xs 4

summed : (x y : ℕ) → x < 2 ^ 32 → y < 2 ^ 32 → ◌≡◌ {A = Lane} (record { value = summed_s Word x y; clipped = on Word (out_sum Word x y) }) (sat_s (2 ^ 32) (signed (2 ^ 32) x +ℤ signed (2 ^ 32) y))
unfolding lane_op
summed x y h k = (add_sat_s Word).agrees x y 0 h k (omega arith)

-- a signed sum at four lanes, as the code has it
abbrev tops : List ℕ
tops = replicate 4 2147483648

abbrev added : List ℕ → List ℕ → List ℕ
added = zip2 (λ a b. (a + b) % 4294967296)

abbrev minus_l : List ℕ → List ℕ
minus_l ys = zip2 (λ a b. cond (leb a b) 4294967295 0) tops ys

abbrev out_l : List ℕ → List ℕ → List ℕ
out_l xs ys = zip2 bit_xor (zip2 (λ a b. cond (ltb a b) 4294967295 0) (added (added xs ys) tops) (added xs tops)) (minus_l ys)

abbrev chosen_l : List ℕ → List ℕ → List ℕ
chosen_l xs ys = sel_l (map (on Word) (out_l xs ys)) (sel_l (map (on Word) (minus_l ys)) tops (replicate 4 2147483647)) (added xs ys)

module _ (xs ys : List ℕ) (e : length xs ≡ 4) (f : length ys ≡ 4) (h : Each1 (Fits w32) xs) (k : Each1 (Fits w32) ys) where
  pub sums_of_words : record { bytes = laid Word (chosen_l xs ys); marks = mask_l (map (on Word) (out_l xs ys)) % 2 ^ 64 % 2 ^ 32 } ≡ placed Word (zip2 (λ x y. sat_s (2 ^ 32) (signed (2 ^ 32) x +ℤ signed (2 ^ 32) y)) xs ys)
  sums_of_words =
      let a : (i : ℕ) → get_or xs i 0 < 2 ^ 32 = below w32 xs h in
      let b : (i : ℕ) → get_or ys i 0 < 2 ^ 32 = below w32 ys k in
      let at = λ (i : ℕ). summed (get_or xs i 0) (get_or ys i 0) (a i) (b i) in
      written_out (λ (u : List ℕ). record { bytes = laid Word (chosen_l u ys); marks = mask_l (map (on Word) (out_l u ys)) % 2 ^ 64 % 2 ^ 32 } ≡ placed Word (zip2 (λ x y. sat_s (2 ^ 32) (signed (2 ^ 32) x +ℤ signed (2 ^ 32) y)) u ys)) 4 xs e
      (written_out (λ (w : List ℕ). (let u = pick_l 0 xs (range_with_len 0 4) in record { bytes = laid Word (chosen_l u w); marks = mask_l (map (on Word) (out_l u w)) % 2 ^ 64 % 2 ^ 32 } ≡ placed Word (zip2 (λ x y. sat_s (2 ^ 32) (signed (2 ^ 32) x +ℤ signed (2 ^ 32) y)) u w))) 4 ys f
      (same_marked refl (few (map (on Word) (out_l (pick_l 0 xs (range_with_len 0 4)) (pick_l 0 ys (range_with_len 0 4)))) (omega arith))
      ∙ ap (placed Word) (λ i. at 0 i ∷ at 1 i ∷ at 2 i ∷ at 3 i ∷ [])))
