-- Bytes that a reader gave, one read after another.
-- Assumes nothing.
use Rattle.std.proofs.Common.{ℕ, ◌+◌, ◌≤◌, arith, ◌≡◌, sym, ap, ◌∙◌, List, ◌++◌, Option, Some, None, append_assoc, length, take}
use Rattle.std.specs.Io.KnownBytes.{Consumes}
use borrow.Rule.Slice.PartMut.{put_mid, post_of}
use lib.Seq.{length-take-le, take_all, take-append-add, take-append-le}
use Rattle.std.proofs.lemmas.List.{take-take}

-- two readings are one of both
pub both : (a b c : Option (List ℕ)) (x y : List ℕ) → Consumes a b x → Consumes b c y → Consumes a c (x ++ y)
both None b c x y p q = tt
both (Some l) None c x y p q = elim p [ ]
both (Some l) (Some m) None x y p q = elim q [ ]
both (Some l) (Some m) (Some n) x y p q = p ∙ ap (λ (r : List ℕ). x ++ r) q ∙ sym (append_assoc x y n)

-- the first of what was there, and the first of what was read behind it
pub behind : (l y : List ℕ) (a k m : ℕ) → a ≤ length l → m ≤ length y → take (a + m) (put_mid a k l y) ≡ take a l ++ take m y
behind l y a k m h n =
    let e = length-take-le a l h in
    ap (λ (i : ℕ). take (i + m) (put_mid a k l y)) (sym e)
    ∙ take-append-add (take a l) (y ++ post_of a k l) m
    ∙ ap (λ (r : List ℕ). take a l ++ r) (take-append-le m y (post_of a k l) n)

-- the same where a Vec lent the list, so that its other places stand behind it
pub refilled : (l y r : List ℕ) (a k m i : ℕ) → a ≤ length l → m ≤ length y → a + m ≤ i → i ≤ length (put_mid a k l y)
    → take (a + m) (take i (put_mid a k l y ++ r)) ≡ take a l ++ take m y
refilled l y r a k m i h n p q =
    take-take (a + m) i (put_mid a k l y ++ r) p
    ∙ take-append-le (a + m) (put_mid a k l y) r (omega (arith, p, q))
    ∙ behind l y a k m h n

-- what was there stays in front where room is added behind it
pub grown : (l z : List ℕ) (a m : ℕ) → a ≤ length l → length l ≤ m → take a (take m l ++ z) ≡ take a l
grown l z a m h k = ap (λ (x : List ℕ). take a (x ++ z)) (take_all m l k) ∙ take-append-le a l z h
