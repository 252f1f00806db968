-- Bytes stay bytes: in a part of a list, in a list with a part replaced, and in what an operation gives.
-- Assumes nothing.
use Prim.Native.Nat.{ℕ, zero, suc, ◌+◌, ◌/◌, ◌%◌, ◌^◌, ◌<◌}
use mathlib.Core.Path.{◌≡◌, refl}
use mathlib.Core.Bool.{Bool, true, false, ◌&&◌, false≢true}
use mathlib.Core.List.{List, [], ◌∷◌}
use native.Mathlib.Omega.{arith}
use lib.ListN.{set, take, drop, replicate}
use lib.Seq.{get_or-drop}
use lib.Dec.{ltb}
use borrow.Author.Tests.{ltb-true}
use Rattle.lanes.specs.declared.Op.{Op}
use Rattle.lanes.specs.declared.Size.{Size}
use Rattle.lanes.specs.Words.{bytes_of, joined}
use Rattle.lanes.specs.Operations.{applied}
use Rattle.lanes.specs.Order.{Bytes}
use Rattle.lanes.proofs.Applied.{word_small}
use Rattle.lines.specs.Lines.{part, put}

-- a list that starts with a byte and goes on with bytes
first : (x : ℕ) (l : List ℕ) → x < 256 → Bytes l → Bytes (x ∷ l)
first x l a h zero = a
first x l a h (suc i) = h i

none : Bytes []
none i = omega arith

-- a list that is known
unfoldable pub small : List ℕ → Bool
small [] = true
small (x ∷ l) = ltb x 256 && small l

pub small_bytes : (l : List ℕ) → small l ≡ true → Bytes l
unfolding small
small_bytes [] e = none
small_bytes (x ∷ l) e = let b = both (ltb x 256) (small l) e in first x l (ltb-true x 256 b.0) (small_bytes l b.1)
  where
    both : (a b : Bool) → (a && b) ≡ true → (a ≡ true) × (b ≡ true)
    both true b h = (refl, h)
    both false b h = absurd (false≢true h)

take-bytes : (n : ℕ) (l : List ℕ) → Bytes l → Bytes (take n l)
take-bytes zero l h = none
take-bytes (suc n) [] h = none
take-bytes (suc n) (x ∷ l) h = first x (take n l) (h 0) (take-bytes n l (λ i. h (suc i)))

pub part_bytes : (l : List ℕ) (o n : ℕ) → Bytes l → Bytes (part l o n)
unfolding part
part_bytes l o n h = take-bytes n (drop o l) (λ i. rw (get_or-drop o l i 0) (h (o + i)))

set-bytes : (l : List ℕ) (o a : ℕ) → Bytes l → a < 256 → Bytes (set l o a)
set-bytes [] o a h k = none
set-bytes (x ∷ l) zero a h k = first a l k (λ i. h (suc i))
set-bytes (x ∷ l) (suc o) a h k = first x (set l o a) (h 0) (set-bytes l o a (λ i. h (suc i)) k)

pub put-bytes : (x l : List ℕ) (o : ℕ) → Bytes l → Bytes x → Bytes (put l o x)
unfolding put
put-bytes [] l o h k = h
put-bytes (a ∷ x) l o h k = put-bytes x (set l o a) (suc o) (set-bytes l o a h (k 0)) (λ i. k (suc i))

pub copies-bytes : (n i : ℕ) → i < 256 → Bytes (replicate n i)
copies-bytes zero i h = none
copies-bytes (suc n) i h = first i (replicate n i) h (copies-bytes n i h)

-- the bytes of a word before others, and of four words
abbrev before : ℕ → List ℕ → List ℕ
before a l = a / 2 ^ 24 ∷ a / 2 ^ 16 % 256 ∷ a / 2 ^ 8 % 256 ∷ a % 256 ∷ l

before-bytes : (a : ℕ) (l : List ℕ) → a < 2 ^ 32 → Bytes l → Bytes (before a l)
before-bytes a l k h zero = omega arith
before-bytes a l k h (suc zero) = omega arith
before-bytes a l k h (suc (suc zero)) = omega arith
before-bytes a l k h (suc (suc (suc zero))) = omega arith
before-bytes a l k h (suc (suc (suc (suc i)))) = h i

words-bytes : (a b c d : ℕ) → a < 2 ^ 32 → b < 2 ^ 32 → c < 2 ^ 32 → d < 2 ^ 32 → Bytes (bytes_of a b c d)
unfolding bytes_of
words-bytes a b c d h i j k =
    let last = before d [] in
    let third = before c last in
    before-bytes a (before b third) h (before-bytes b third i (before-bytes c last j (before-bytes d [] k none)))

pub applied-bytes : (s : Size) (o : Op) (a b c : List ℕ) → Bytes (applied s o a b c).bytes
unfolding joined
applied-bytes s o a b c = words-bytes _ _ _ _ (word_small s o _ _ _) (word_small s o _ _ _) (word_small s o _ _ _) (word_small s o _ _ _)
