-- Bytes as text and words as bytes, one by one; and text that is added to a text: the two as one.
-- Assumes nothing.
use Rattle.std.proofs.Common.{ℕ, zero, suc, ◌+◌, ◌*◌, ◌/◌, ◌%◌, ◌≤◌, ◌<◌, ◌≡◌, refl, ap, ◌∙◌, List, [], ◌∷◌, ◌++◌, append-nil, arith, length, length-append, take, drop}
use native.Mathlib.Nat.{add-zero, zero-add}
use lib.ListN.{get_or, set}
use lib.Seq.{sets, sets-eq, drop-length}
use Rattle.lines.specs.Lines.{part, put}
use Rattle.lines.proofs.Parts.{part_same}
use Rattle.texts.specs.Texts.{glyph, hex_of, bytes_of, word_bytes}
use Rattle.texts.specs.Writing.{Adds}

-- what is put in two parts
pub put-append : (x l y : List ℕ) (o : ℕ) → put (put l o x) (o + length x) y ≡ put l o (x ++ y)
unfolding put
put-append [] l y o = ap (λ (k : ℕ). sets l k y) (add-zero o)
put-append (a ∷ x) l y o =
    let e : o + length (a ∷ x) ≡ suc o + length x = omega arith in
    ap (λ (k : ℕ). sets (sets (set l o a) (suc o) x) k y) e ∙ put-append x (set l o a) y (suc o)

-- what is put over all of a list is all that is left
pub put_all : (d x : List ℕ) → length x ≡ length d → put d 0 x ≡ x
unfolding put
put_all d x e =
    sets-eq x d 0 (omega arith)
    ∙ ap (λ (k : ℕ). x ++ drop k d) (zero-add (length x) ∙ e)
    ∙ ap (λ (y : List ℕ). x ++ y) (drop-length d)
    ∙ append-nil x

-- no text
pub nothing : (l : List ℕ) (at : ℕ) → Adds l at [] at l
unfolding put
nothing l at = record { end = omega arith; buffer = refl }

-- one text after another
pub then : {a b c : List ℕ} {at r q : ℕ} {s t : List ℕ} → Adds a at s r b → Adds b r t q c → Adds a at (s ++ t) q c
then {a} {b} {c} {at} {r} {q} {s} {t} p n =
    record {
      end = let e = p.end in let f = n.end in let l = length-append s t in omega arith;
      buffer = n.buffer ∙ ap (λ (l : List ℕ). put l r t) p.buffer ∙ ap (λ (k : ℕ). put (put a at s) k t) p.end ∙ put-append s a t at;
    }

-- a text that is added at the start is what stands there
pub added : {a b : List ℕ} {n : ℕ} {s : List ℕ} → Adds a 0 s n b → n ≤ length a → take n b ≡ s
unfolding part
added {a} {b} {n} {s} p h =
    let e : n ≡ length s = omega (arith, p.end) in
    ap (λ (l : List ℕ). take n l) p.buffer ∙ ap (λ (k : ℕ). take k (put a 0 s)) e ∙ part_same a 0 s (omega arith)

-- the hex of one byte more
pub hex_more : (l : List ℕ) (i : ℕ) → i < length l → hex_of (take (i + 1) l) ≡ hex_of (take i l) ++ (glyph (get_or l i 0 / 16) ∷ glyph (get_or l i 0 % 16) ∷ [])
hex_more [] i h = absurd (omega arith)
hex_more (b ∷ l) zero h = refl
hex_more (b ∷ l) (suc i) h =
    let e : suc i + 1 ≡ suc (i + 1) = omega arith in
    rw e (ap (λ (x : List ℕ). glyph (b / 16) ∷ glyph (b % 16) ∷ x) (hex_more l i (omega arith)))

-- two digits for each byte
pub hex_long : (l : List ℕ) → length (hex_of l) ≡ 2 * length l
hex_long [] = refl
hex_long (b ∷ l) = let e = hex_long l in omega arith

-- the bytes of one word more
pub words_more : (l : List ℕ) (i : ℕ) → i < length l → word_bytes (take (i + 1) l) ≡ word_bytes (take i l) ++ bytes_of (get_or l i 0)
unfolding bytes_of
words_more [] i h = absurd (omega arith)
words_more (w ∷ l) zero h = refl
words_more (w ∷ l) (suc i) h =
    let e : suc i + 1 ≡ suc (i + 1) = omega arith in
    rw e (ap (λ (x : List ℕ). w / 16777216 ∷ w / 65536 % 256 ∷ w / 256 % 256 ∷ w % 256 ∷ x) (words_more l i (omega arith)))

-- four bytes for each word
pub words_long : (l : List ℕ) → length (word_bytes l) ≡ 4 * length l
words_long [] = refl
words_long (w ∷ l) = let e = words_long l in omega arith
