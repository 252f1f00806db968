-- The laws of packs and unpacks, over the size of a lane. Assumes nothing.
use Rattle.std.proofs.Common.{◌≡◌, ℕ, zero, suc, ◌+◌, ◌-◌, ◌*◌, ◌/◌, ◌%◌, ◌^◌, ◌<◌, Bool, true, false, cond, ltb, List, [], ◌∷◌, map, length, ℤ, pos, ◌-ℤ◌, refl, sym, ap, ◌∙◌, arith, mod-lt, mod-eq_of_lt, pow_pos, ltb-true, ltb-false, lt-ltb, le-ltb}
use native.Mathlib.Nat.{add-zero, mul-zero}
use lib.Lanes.{zip2, sel_l, top}
use lib.ListN.{get_or, replicate}
use mir.Syntax.{w8}
use Rattle.lanes.specs.declared.Lane.{Lane}
use Rattle.lanes.specs.declared.Size.{Size}
use Rattle.lanes.specs.declared.Size.TheVariants.{Byte, Half, Word}
use Rattle.lanes.specs.Integer.{signed, bits_of, modulo, saturated, plain}
use Rattle.lanes.specs.Operations.{width_of}
use Rattle.lanes.specs.Order.{Bytes}
use Rattle.lanes.specs.Placed.{lane_before, laid, placed}
use Rattle.lanes.proofs.Biased.{taken}
use Rattle.lanes.proofs.Bridge.{modulus, number-lt, same_marked}
use Rattle.lanes.proofs.Signed.{by_bias, minus_above, minus_below}
use Rattle.lanes.proofs.Sizes.{width_of_lem}
use Rattle.packing.specs.Resized.{bytes_before, bytes_of_lanes, vector_of, lane_of_both, count, unsigned, packed, within}
use Rattle.packing.proofs.Clamped.{read-truth}

-- the lanes g j, and the vector that they make
abbrev pub lanes_by : ℕ → ℕ → (ℕ → Lane) → List Lane
lanes_by zero j g = []
lanes_by (suc n) j g = g j ∷ lanes_by n (suc j) g

same_lane : (s : Size) (x : ℕ) → x < modulus s → {r r' : List ℕ} → r ≡ r' → lane_before s x r ≡ bytes_before s x r'
same_lane Byte x h e =
    let a : x % 256 ≡ x = mod-eq_of_lt h in
    λ i. a i ∷ e i
same_lane Half x h e =
    let a : x / 2 ^ 8 % 256 ≡ x / 2 ^ 8 = omega arith in
    λ i. a i ∷ x % 256 ∷ e i
same_lane Word x h e =
    let a : x / 2 ^ 24 % 256 ≡ x / 2 ^ 24 = omega arith in
    λ i. a i ∷ x / 2 ^ 16 % 256 ∷ x / 2 ^ 8 % 256 ∷ x % 256 ∷ e i

module _ (s : Size) (g : ℕ → Lane) (h : (j : ℕ) → (g j).value < modulus s) where
  bytes-by : (n j : ℕ) → laid s (map (λ l. l.value) (lanes_by n j g)) ≡ bytes_of_lanes s n j g
  bytes-by zero j = refl
  bytes-by (suc n) j = same_lane s (g j).value (h j) (bytes-by n (suc j))

pub vector-of : (s : Size) (g : ℕ → Lane) → ((j : ℕ) → (g j).value < modulus s) → placed s (lanes_by (count s) 0 g) ≡ vector_of s g
unfolding vector_of
vector-of Byte g h = same_marked (bytes-by Byte g h 16 0) (omega arith)
vector-of Half g h = same_marked (bytes-by Half g h 8 0) (omega arith)
vector-of Word g h = same_marked (bytes-by Word g h 4 0) (omega arith)

-- the lanes of two vectors, and a lane that was moved
cond-lt : {m : ℕ} (t : Bool) {x y : ℕ} → x < m → y < m → cond t x y < m
cond-lt true h k = h
cond-lt false h k = k

both-lt : (s : Size) (a b : List ℕ) → Bytes a → Bytes b → (j : ℕ) → lane_of_both s a b j < modulus s
both-lt s a b ha hb j = cond-lt (ltb j (count s)) (number-lt s a ha _) (number-lt s b hb _)

within-lt : (s : Size) (lo hi y : ℕ) → (within (modulus s) lo hi y).value < modulus s
unfolding within
within-lt s lo hi y = mod-lt _ (pow_pos (width_of s))

within-is : (m c q : ℕ) → 0 < m → c ≡ m * q → (lo hi y : ℕ) {z : ℤ} → pos y -ℤ pos c ≡ z → within m lo hi y ≡ saturated (pos lo -ℤ pos c) (pos hi -ℤ pos c) m z
unfolding within
within-is m c q some multiple lo hi y e = taken m c q some multiple lo hi y e

unbiased : (t x : ℕ) → x < t → pos ((x + 0) % t) -ℤ pos 0 ≡ pos x
unbiased t x h = rw (add-zero x, mod-eq_of_lt h) (minus_above x 0 (omega arith) ∙ ap pos (omega arith))

-- a pack of signed lanes is done with half of the source's range as the bias, and one of unsigned lanes with none
module _ (s d : Size) (a b : List ℕ) (ha : Bytes a) (hb : Bytes b) (lo hi : ℕ) where
  abbrev taken_with : ℕ → ℕ → Lane
  taken_with bias j = within (modulus d) lo hi ((lane_of_both s a b j + bias) % modulus s)

  pub signed_pack : (q : ℕ) → modulus s / 2 ≡ modulus d * q
      → placed d (lanes_by (count d) 0 (taken_with (modulus s / 2)))
      ≡ vector_of d (λ j. saturated (pos lo -ℤ pos (modulus s / 2)) (pos hi -ℤ pos (modulus s / 2)) (modulus d) (signed (modulus s) (lane_of_both s a b j)))
  signed_pack q e =
      vector-of d (taken_with (modulus s / 2)) (λ j. within-lt d lo hi _)
      ∙ (λ i. vector_of d (λ j. within-is (modulus d) (modulus s / 2) q (pow_pos (width_of d)) e lo hi _ (by_bias (modulus s) (lane_of_both s a b j) (both-lt s a b ha hb j) (width_of_lem s).even) i))

  pub unsigned_pack : placed d (lanes_by (count d) 0 (taken_with 0)) ≡ vector_of d (λ j. saturated (pos lo -ℤ pos 0) (pos hi -ℤ pos 0) (modulus d) (pos (lane_of_both s a b j)))
  unsigned_pack =
      vector-of d (taken_with 0) (λ j. within-lt d lo hi _)
      ∙ (λ i. vector_of d (λ j. within-is (modulus d) 0 0 (pow_pos (width_of d)) (sym (mul-zero (modulus d))) lo hi _ (unbiased (modulus s) (lane_of_both s a b j) (both-lt s a b ha hb j)) i))

-- the lower halves of lanes
pub modulo_pack : (s d : Size) (a b : List ℕ) → laid d (map (λ l. l.value) (lanes_by (count d) 0 (λ j. plain (lane_of_both s a b j % modulus d)))) ≡ (packed s d unsigned modulo a b).bytes
unfolding modulo
modulo_pack s d a b = ap (λ m. m.bytes) (vector-of d (λ j. plain (lane_of_both s a b j % modulus d)) (λ j. mod-lt _ (pow_pos (width_of d))))

-- the copies of a byte's sign, as code makes them
abbrev pub sign : ℕ → ℕ
sign x = cond (ltb x 128) 0 255

pub signs-are : (n : ℕ) (v : List ℕ) → length v ≡ n → sel_l (map (top 7) (zip2 (λ a b. cond (ltb a b) 255 0) v (replicate n 128))) (replicate n 0) (replicate n 255) ≡ map sign v
signs-are zero [] e = refl
signs-are zero (x ∷ v) e = absurd (omega (arith, e))
signs-are (suc n) [] e = absurd (omega (arith, e))
signs-are (suc n) (x ∷ v) e =
    let a = read-truth w8 (ltb x 128) in
    let r = signs-are n v (omega (arith, e)) in
    λ i. cond (a i) 0 255 ∷ r i

-- the sign extended: m is 2 to the width, m' to the new width, and p is all ones above the old
module _ (m m' p x : ℕ) (h : x < m) (wider : m' ≡ p + m) where
  widen_by : (t : Bool) → ltb x (m / 2) ≡ t → bits_of m' (cond t (pos x) (pos x -ℤ pos m)) ≡ cond t 0 p + x
  widen_by true e =
      let l : x < m' = omega arith in
      rw (mod-eq_of_lt l) (omega arith)
  widen_by false e =
      let l : m - suc x < m' = omega arith in
      rw (minus_below x m h, mod-eq_of_lt l) (omega arith)

  widen : bits_of m' (signed m x) ≡ cond (ltb x (m / 2)) 0 p + x
  unfolding signed
  widen = widen_by (ltb x (m / 2)) refl

-- a byte as a half, and a half as a word
record Wider (t : Bool) (x y v : ℕ) : Type 0 where
  first : cond t 0 255 ≡ v / 2 ^ 24
  second : cond t 0 255 ≡ v / 2 ^ 16 % 2 ^ 8
  third : x ≡ v / 2 ^ 8 % 2 ^ 8
  fourth : y ≡ v % 2 ^ 8

wider_half : (t : Bool) (x : ℕ) → x < 256 → (cond t 0 255 ≡ (cond t 0 65280 + x) / 2 ^ 8) × (x ≡ (cond t 0 65280 + x) % 2 ^ 8)
wider_half true x h = (omega arith, omega arith)
wider_half false x h = (omega arith, omega arith)

wider_word : (t : Bool) (x y : ℕ) → x < 256 → y < 256 → Wider t x y (cond t 0 (2 ^ 32 - 2 ^ 16) + (x * 2 ^ 8 + y))
wider_word true x y h k = record { first = omega arith; second = omega arith; third = omega arith; fourth = omega arith }
wider_word false x y h k = record { first = omega arith; second = omega arith; third = omega arith; fourth = omega arith }

same_sign : (t : Bool) (x y : ℕ) → y < 256 → ltb x 128 ≡ t → ltb (x * 2 ^ 8 + y) (2 ^ 15) ≡ t
same_sign true x y h e = lt-ltb (x * 2 ^ 8 + y) (2 ^ 15) (omega (arith, ltb-true x 128 e))
same_sign false x y h e = le-ltb (x * 2 ^ 8 + y) (2 ^ 15) (omega (arith, ltb-false x 128 e))

module _ (v : List ℕ) (h : Bytes v) where
  abbrev signed_bytes : ℕ → ℕ → List ℕ
  signed_bytes zero k = []
  signed_bytes (suc n) k = sign (get_or v k 0) ∷ get_or v k 0 ∷ signed_bytes n (k + 1)

  abbrev wider_bytes : ℕ → ℕ → List ℕ
  wider_bytes zero k = []
  wider_bytes (suc n) k = bytes_before Half (bits_of (2 ^ 16) (signed (2 ^ 8) (get_or v k 0))) (wider_bytes n (k + 1))

  pub bytes-wider : (n k : ℕ) → signed_bytes n k ≡ wider_bytes n k
  bytes-wider zero k = refl
  bytes-wider (suc n) k =
      let x : ℕ = get_or v k 0 in
      let p = wider_half (ltb x 128) x (h k) in
      let w = sym (widen 256 65536 65280 x (h k) refl) in
      let r = bytes-wider n (k + 1) in
      λ i. (p.0 ∙ ap (λ (n : ℕ). n / 2 ^ 8) w) i ∷ (p.1 ∙ ap (λ (n : ℕ). n % 2 ^ 8) w) i ∷ r i

  abbrev signed_halves : ℕ → ℕ → List ℕ
  signed_halves zero k = []
  signed_halves (suc n) k = sign (get_or v k 0) ∷ sign (get_or v k 0) ∷ get_or v k 0 ∷ get_or v (k + 1) 0 ∷ signed_halves n (k + 2)

  abbrev wider_halves : ℕ → ℕ → List ℕ
  wider_halves zero k = []
  wider_halves (suc n) k = bytes_before Word (bits_of (2 ^ 32) (signed (2 ^ 16) (get_or v k 0 * 2 ^ 8 + get_or v (k + 1) 0))) (wider_halves n (k + 2))

  pub halves-wider : (n k : ℕ) → signed_halves n k ≡ wider_halves n k
  halves-wider zero k = refl
  halves-wider (suc n) k =
      let x : ℕ = get_or v k 0 in
      let y : ℕ = get_or v (k + 1) 0 in
      let l : x * 2 ^ 8 + y < 2 ^ 16 = omega (arith, h k, h (k + 1)) in
      let p = wider_word (ltb x 128) x y (h k) (h (k + 1)) in
      let w = ap (λ (t : Bool). cond t 0 (2 ^ 32 - 2 ^ 16) + (x * 2 ^ 8 + y)) (sym (same_sign (ltb x 128) x y (h (k + 1)) refl)) ∙ sym (widen (2 ^ 16) (2 ^ 32) (2 ^ 32 - 2 ^ 16) (x * 2 ^ 8 + y) l refl) in
      let r = halves-wider n (k + 2) in
      λ i. (p.first ∙ ap (λ (n : ℕ). n / 2 ^ 24) w) i ∷ (p.second ∙ ap (λ (n : ℕ). n / 2 ^ 16 % 2 ^ 8) w) i ∷ (p.third ∙ ap (λ (n : ℕ). n / 2 ^ 8 % 2 ^ 8) w) i ∷ (p.fourth ∙ ap (λ (n : ℕ). n % 2 ^ 8) w) i ∷ r i
