-- From a lane to the vector, once for every operation and every width: what agrees with an operation at each lane makes the vector that the operation makes. Assumes nothing.
use Rattle.std.proofs.Common.{◌≡◌, ℕ, zero, suc, ◌+◌, ◌*◌, ◌/◌, ◌%◌, ◌^◌, ◌<◌, ◌≤◌, length, Bool, false, List, [], ◌∷◌, map, refl, ap, ◌∙◌, arith}
use lib.ListN.{get_or}
use lib.Lanes.{mask_l}
use lib.Pow.{pow_mono}
use native.Mathlib.Nat.{lt_of_lt_of_le}
use Rattle.std.proofs.lemmas.Simd.{mask_l-lt}
use Rattle.lanes.specs.declared.Lane.{Lane}
use Rattle.lanes.specs.declared.Marked.{Marked}
use Rattle.lanes.specs.declared.Op.{Op}
use Rattle.lanes.specs.declared.Size.{Size}
use Rattle.lanes.specs.declared.Size.TheVariants.{Byte, Half, Word}
use Rattle.lanes.specs.Numbers.{bytes_in, number_at}
use Rattle.lanes.specs.Operations.{lane_op, width_of, word_op, applied}
use Rattle.lanes.specs.Order.{Bytes}
use Rattle.lanes.specs.Placed.{Holds, laid, lanes_from, lanes_of, placed}
use Rattle.lanes.specs.Words.{MarkedWord, none, word_from, bytes_of, push, joined}
use Rattle.lanes.proofs.Below.{below}
use Rattle.lanes.proofs.Sizes.{width_of_lem}

-- f at the lanes of three vectors
abbrev pub zip3 : {A : Type 0} → (ℕ → ℕ → ℕ → A) → List ℕ → List ℕ → List ℕ → List A
zip3 f [] ys zs = []
zip3 f (x ∷ xs) [] zs = []
zip3 f (x ∷ xs) (y ∷ ys) [] = []
zip3 f (x ∷ xs) (y ∷ ys) (z ∷ zs) = f x y z ∷ zip3 f xs ys zs

abbrev pub modulus : Size → ℕ
modulus s = 2 ^ width_of s

-- a lane that code computes, without a mark and with one; and that such lanes are those of the operation
abbrev pub value : (ℕ → ℕ → ℕ → ℕ) → ℕ → ℕ → ℕ → Lane
value g x y z = record { value = g x y z; clipped = false }

abbrev pub lane : (ℕ → ℕ → ℕ → ℕ) → (ℕ → ℕ → ℕ → Bool) → ℕ → ℕ → ℕ → Lane
lane g k x y z = record { value = g x y z; clipped = k x y z }

abbrev pub Agrees : Size → Op → (ℕ → ℕ → ℕ → Lane) → Type 0
Agrees s op f = (x y z : ℕ) → x < modulus s → y < modulus s → z < modulus s → f x y z ≡ lane_op op (width_of s) (modulus s) x y z

pub number-lt : (s : Size) (v : List ℕ) → Bytes v → (k : ℕ) → number_at s v k < modulus s
unfolding number_at word_from
number-lt Byte v h k = h k
number-lt Half v h k = omega (arith, h k, h (k + 1))
number-lt Word v h k = omega (arith, h k, h (k + 1), h (k + 2), h (k + 3))

pub same_marked : {v v' : List ℕ} {k k' : ℕ} → v ≡ v' → k ≡ k' → ◌≡◌ {A = Marked} (record { bytes = v; marks = k }) (record { bytes = v'; marks = k' })
same_marked e f = rw (e, f)

infixr 5 ◌&◌
◌&◌ : {x y : ℕ} {xs ys : List ℕ} → x ≡ y → xs ≡ ys → x ∷ xs ≡ y ∷ ys
e & f = rw (e, f)

-- the lanes of a word
module _ (v : List ℕ) (h : Bytes v) (k : ℕ) where
  word_0 : word_from v k % 2 ^ 32 ≡ number_at Word v k
  unfolding number_at word_from
  word_0 = omega (arith, h k, h (k + 1), h (k + 2), h (k + 3))

  half_0 : word_from v k / 2 ^ 16 % 2 ^ 16 ≡ number_at Half v k
  unfolding number_at word_from
  half_0 = omega (arith, h k, h (k + 1), h (k + 2), h (k + 3))

  half_1 : word_from v k % 2 ^ 16 ≡ number_at Half v (k + 2)
  unfolding number_at word_from
  half_1 =
      let e : get_or v (k + 2 + 1) 0 ≡ get_or v (k + 3) 0 = ap (λ (i : ℕ). get_or v i 0) (omega arith) in
      omega (arith, h k, h (k + 1), h (k + 2), h (k + 3))

  byte_0 : word_from v k / 2 ^ 8 / 2 ^ 8 / 2 ^ 8 % 2 ^ 8 ≡ number_at Byte v k
  unfolding number_at word_from
  byte_0 = omega (arith, h k, h (k + 1), h (k + 2), h (k + 3))

  byte_1 : word_from v k / 2 ^ 8 / 2 ^ 8 % 2 ^ 8 ≡ number_at Byte v (k + 1)
  unfolding number_at word_from
  byte_1 = omega (arith, h k, h (k + 1), h (k + 2), h (k + 3))

  byte_2 : word_from v k / 2 ^ 8 % 2 ^ 8 ≡ number_at Byte v (k + 2)
  unfolding number_at word_from
  byte_2 = omega (arith, h k, h (k + 1), h (k + 2), h (k + 3))

  byte_3 : word_from v k % 2 ^ 8 ≡ number_at Byte v (k + 3)
  unfolding number_at word_from
  byte_3 = omega (arith, h k, h (k + 1), h (k + 2), h (k + 3))

-- the bytes of a word are those of its lanes, before any other bytes
module _ {r s : List ℕ} (e : r ≡ s) where
  of_one : {v : ℕ} → v < 2 ^ 32
      → v / 2 ^ 24 % 256 ∷ v / 2 ^ 16 % 256 ∷ v / 2 ^ 8 % 256 ∷ v % 256 ∷ r
      ≡ (0 * 2 ^ 32 + v) / 2 ^ 24 ∷ (0 * 2 ^ 32 + v) / 2 ^ 16 % 256 ∷ (0 * 2 ^ 32 + v) / 2 ^ 8 % 256 ∷ (0 * 2 ^ 32 + v) % 256 ∷ s
  of_one h = omega arith & omega arith & omega arith & omega arith & e

  of_two : {v w : ℕ} → v < 2 ^ 16 → w < 2 ^ 16
      → v / 2 ^ 8 % 256 ∷ v % 256 ∷ w / 2 ^ 8 % 256 ∷ w % 256 ∷ r
      ≡ ((0 * 2 ^ 16 + v) * 2 ^ 16 + w) / 2 ^ 24 ∷ ((0 * 2 ^ 16 + v) * 2 ^ 16 + w) / 2 ^ 16 % 256 ∷ ((0 * 2 ^ 16 + v) * 2 ^ 16 + w) / 2 ^ 8 % 256 ∷ ((0 * 2 ^ 16 + v) * 2 ^ 16 + w) % 256 ∷ s
  of_two h k = omega arith & omega arith & omega arith & omega arith & e

  of_four : {v w x y : ℕ} → v < 2 ^ 8 → w < 2 ^ 8 → x < 2 ^ 8 → y < 2 ^ 8
      → v % 256 ∷ w % 256 ∷ x % 256 ∷ y % 256 ∷ r
      ≡ ((((0 * 2 ^ 8 + v) * 2 ^ 8 + w) * 2 ^ 8 + x) * 2 ^ 8 + y) / 2 ^ 24 ∷ ((((0 * 2 ^ 8 + v) * 2 ^ 8 + w) * 2 ^ 8 + x) * 2 ^ 8 + y) / 2 ^ 16 % 256 ∷ ((((0 * 2 ^ 8 + v) * 2 ^ 8 + w) * 2 ^ 8 + x) * 2 ^ 8 + y) / 2 ^ 8 % 256 ∷ ((((0 * 2 ^ 8 + v) * 2 ^ 8 + w) * 2 ^ 8 + x) * 2 ^ 8 + y) % 256 ∷ s
  of_four h k i j = omega arith & omega arith & omega arith & omega arith & e

-- one, two and four lanes as a word
abbrev pub one : Lane → MarkedWord
one p = push (2 ^ 32) 0 none p

abbrev pub two : Lane → Lane → MarkedWord
two p q = push (2 ^ 16) 1 (push (2 ^ 16) 0 none p) q

abbrev pub four : Lane → Lane → Lane → Lane → MarkedWord
four p q r t = push (2 ^ 8) 3 (push (2 ^ 8) 2 (push (2 ^ 8) 1 (push (2 ^ 8) 0 none p) q) r) t

-- lanes that stand bytes apart, side by side as four words
module _ (f : ℕ → Lane) where
  of_words : ((k : ℕ) → (f k).value < 2 ^ 32) → placed Word (f 0 ∷ f 4 ∷ f 8 ∷ f 12 ∷ []) ≡ joined 1 (one (f 0)) (one (f 4)) (one (f 8)) (one (f 12))
  unfolding joined bytes_of push
  of_words h = same_marked (of_one (of_one (of_one (of_one refl (h 12)) (h 8)) (h 4)) (h 0)) (omega arith)

  of_halves : ((k : ℕ) → (f k).value < 2 ^ 16) → placed Half (f 0 ∷ f 2 ∷ f 4 ∷ f 6 ∷ f 8 ∷ f 10 ∷ f 12 ∷ f 14 ∷ []) ≡ joined 2 (two (f 0) (f 2)) (two (f 4) (f 6)) (two (f 8) (f 10)) (two (f 12) (f 14))
  unfolding joined bytes_of push
  of_halves h = same_marked (of_two (of_two (of_two (of_two refl (h 12) (h 14)) (h 8) (h 10)) (h 4) (h 6)) (h 0) (h 2)) (omega arith)

  of_bytes : ((k : ℕ) → (f k).value < 2 ^ 8) → placed Byte (f 0 ∷ f 1 ∷ f 2 ∷ f 3 ∷ f 4 ∷ f 5 ∷ f 6 ∷ f 7 ∷ f 8 ∷ f 9 ∷ f 10 ∷ f 11 ∷ f 12 ∷ f 13 ∷ f 14 ∷ f 15 ∷ [])
      ≡ joined 4 (four (f 0) (f 1) (f 2) (f 3)) (four (f 4) (f 5) (f 6) (f 7)) (four (f 8) (f 9) (f 10) (f 11)) (four (f 12) (f 13) (f 14) (f 15))
  unfolding joined bytes_of push
  of_bytes h =
      same_marked
      (of_four (of_four (of_four (of_four refl (h 12) (h 13) (h 14) (h 15)) (h 8) (h 9) (h 10) (h 11)) (h 4) (h 5) (h 6) (h 7)) (h 0) (h 1) (h 2) (h 3))
      (omega arith)

-- the marks of at most 16 lanes fit a number of 32 bits
pub few : (ms : List Bool) → length ms ≤ 16 → mask_l ms % 2 ^ 64 % 2 ^ 32 ≡ mask_l ms
few ms h =
    let l : mask_l ms < 2 ^ 16 = lt_of_lt_of_le (mask_l-lt ms) (pow_mono {j = 16} h) in
    omega arith

-- the operation at the lanes of a, b and c from byte k
unfoldable pub lane_at : Size → Op → List ℕ → List ℕ → List ℕ → ℕ → Lane
lane_at s op a b c k = lane_op op (width_of s) (modulus s) (number_at s a k) (number_at s b k) (number_at s c k)

module _ (op : Op) (a b c : List ℕ) (ha : Bytes a) (hb : Bytes b) (hc : Bytes c) where
  abbrev at : Size → ℕ → Lane
  at s k = lane_at s op a b c k

  at-lt : (s : Size) (k : ℕ) → (at s k).value < modulus s
  unfolding lane_at
  at-lt s k =
      below op (width_of s) (modulus s) (record { x = number_at s a k; y = number_at s b k; z = number_at s c k })
      (record { width = width_of_lem s; left = number-lt s a ha k; right = number-lt s b hb k; third = number-lt s c hc k })

  pub in_word : (k : ℕ) → word_op Word op (word_from a k) (word_from b k) (word_from c k) ≡ one (at Word k)
  unfolding lane_at
  in_word k = rw (word_0 a ha k, word_0 b hb k, word_0 c hc k)

  pub in_halves : (k : ℕ) → word_op Half op (word_from a k) (word_from b k) (word_from c k) ≡ two (at Half k) (at Half (k + 2))
  unfolding lane_at
  in_halves k = rw (half_0 a ha k, half_0 b hb k, half_0 c hc k, half_1 a ha k, half_1 b hb k, half_1 c hc k)

  pub in_bytes : (k : ℕ) → word_op Byte op (word_from a k) (word_from b k) (word_from c k)
      ≡ four (at Byte k) (at Byte (k + 1)) (at Byte (k + 2)) (at Byte (k + 3))
  unfolding lane_at
  in_bytes k =
      rw (
        byte_0 a ha k,
        byte_0 b hb k,
        byte_0 c hc k,
        byte_1 a ha k,
        byte_1 b hb k,
        byte_1 c hc k,
        byte_2 a ha k,
        byte_2 b hb k,
        byte_2 c hc k,
        byte_3 a ha k,
        byte_3 b hb k,
        byte_3 c hc k,
      )

  abbrev lanes-at : Size → ℕ → ℕ → List Lane
  lanes-at s zero k = []
  lanes-at s (suc n) k = at s k ∷ lanes-at s n (k + bytes_in s)

  side-by-side : (s : Size) → placed s (lanes-at s (16 / bytes_in s) 0) ≡ applied s op a b c
  side-by-side Word = rw (in_word 0, in_word 4, in_word 8, in_word 12) (of_words (at Word) (at-lt Word))
  side-by-side Half = rw (in_halves 0, in_halves 4, in_halves 8, in_halves 12) (of_halves (at Half) (at-lt Half))
  side-by-side Byte = rw (in_bytes 0, in_bytes 4, in_bytes 8, in_bytes 12) (of_bytes (at Byte) (at-lt Byte))

  zipped : (s : Size) (f : ℕ → ℕ → ℕ → Lane) → Agrees s op f → (n k : ℕ) → zip3 f (lanes_from s n k a) (lanes_from s n k b) (lanes_from s n k c) ≡ lanes-at s n k
  unfolding lane_at
  zipped s f e zero k = refl
  zipped s f e (suc n) k = λ i. e (number_at s a k) (number_at s b k) (number_at s c k) (number-lt s a ha k) (number-lt s b hb k) (number-lt s c hc k) i ∷ zipped s f e n (k + bytes_in s) i

  -- the bridge
  pub applied-is : (s : Size) (f : ℕ → ℕ → ℕ → Lane) → Agrees s op f → placed s (zip3 f (lanes_of s a) (lanes_of s b) (lanes_of s c)) ≡ applied s op a b c
  applied-is s f e = ap (placed s) (zipped s f e (16 / bytes_in s) 0) ∙ side-by-side s

  -- the same, where the marks were taken as the bits of a mask
  pub marked-is : (s : Size) (f : ℕ → ℕ → ℕ → Lane) → Agrees s op f → (let r = placed s (zip3 f (lanes_of s a) (lanes_of s b) (lanes_of s c)) in record { bytes = r.bytes; marks = r.marks % 2 ^ 64 % 2 ^ 32 }) ≡ applied s op a b c
  marked-is s f e = same_marked refl (few (map (λ l. l.clipped) (zip3 f (lanes_of s a) (lanes_of s b) (lanes_of s c))) (length-le s)) ∙ applied-is s f e
    where
      length-le : (s : Size) → length (map (λ l. l.clipped) (zip3 f (lanes_of s a) (lanes_of s b) (lanes_of s c))) ≤ 16
      length-le Byte = omega arith
      length-le Half = omega arith
      length-le Word = omega arith

-- f is the operation at a lane
pub record Law (s : Size) (op : Op) (f : ℕ → ℕ → ℕ → Lane) : Type 0 where
  pub agrees : Agrees s op f

-- so at the lanes that code has read
module _ {s : Size} {op : Op} {f : ℕ → ℕ → ℕ → Lane} (law : Law s op f) {a b c x y z : List ℕ} (ha : Holds s a x) (hb : Holds s b y) (hc : Holds s c z) where
  pub placed_three : placed s (zip3 f (lanes_of s a) (lanes_of s b) (lanes_of s c)) ≡ applied s op a b c
  placed_three = applied-is op a b c ha.bytes hb.bytes hc.bytes s f law.agrees

  pub on_three : laid s (map (λ l. l.value) (zip3 f (lanes_of s a) (lanes_of s b) (lanes_of s c))) ≡ (applied s op a b c).bytes
  on_three = ap (λ m. m.bytes) placed_three

  pub marked_on_three : (let r = placed s (zip3 f (lanes_of s a) (lanes_of s b) (lanes_of s c)) in record { bytes = r.bytes; marks = r.marks % 2 ^ 64 % 2 ^ 32 }) ≡ applied s op a b c
  marked_on_three = marked-is op a b c ha.bytes hb.bytes hc.bytes s f law.agrees

module _ {s : Size} {op : Op} {f : ℕ → ℕ → ℕ → Lane} (law : Law s op f) {a b x y : List ℕ} (ha : Holds s a x) (hb : Holds s b y) where
  pub placed_two : placed s (zip3 f (lanes_of s a) (lanes_of s b) (lanes_of s b)) ≡ applied s op a b b
  placed_two = placed_three law ha hb hb

  pub on_two : laid s (map (λ l. l.value) (zip3 f (lanes_of s a) (lanes_of s b) (lanes_of s b))) ≡ (applied s op a b b).bytes
  on_two = on_three law ha hb hb

  pub marked_on_two : (let r = placed s (zip3 f (lanes_of s a) (lanes_of s b) (lanes_of s b)) in record { bytes = r.bytes; marks = r.marks % 2 ^ 64 % 2 ^ 32 }) ≡ applied s op a b b
  marked_on_two = marked_on_three law ha hb hb
