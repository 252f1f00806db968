-- Laws of `part` and `put`: lengths, a part that was put, a part that what was put does not reach; and of elements, byte by byte.
-- Assumes nothing.
use Prim.Native.Nat.{ℕ, suc, ◌+◌, ◌-◌, ◌≤◌, ◌<◌}
use mathlib.Core.Path.{◌≡◌, refl, sym, ap, ◌∙◌}
use mathlib.Core.List.{List, [], ◌∷◌, ◌++◌, append_assoc}
use native.Mathlib.Omega.{arith}
use native.Mathlib.Nat.{add-zero}
use lib.ListN.{length, get_or, set, take, drop, length-drop, get_or-replicate}
use lib.Seq.{length-take-le, take-append_seam, take-set-le, drop-set-lt, drop-set-add, drop_at, get_or-take, get_or-drop, sets-eq, length-sets}
use Rattle.lines.specs.Lines.{part, sixteen, put, zeros, loaded_of, stored_of, Counts}

-- what is put keeps the length, wherever it is put
pub put_long : (l : List ℕ) (o : ℕ) (x : List ℕ) → length (put l o x) ≡ length l
unfolding put
put_long l o x = length-sets l o x

pub part_long : (l : List ℕ) (o n : ℕ) → o + n ≤ length l → length (part l o n) ≡ n
unfolding part
part_long l o n h = length-take-le n (drop o l) (simp length-drop (omega arith))

pub loaded_long : (l : List ℕ) (o e n : ℕ) → length (loaded_of l o e n) ≡ 16
loaded_long l o e n = put_long zeros e (part l (o + e) n)

pub stored_long : (l : List ℕ) (o e n : ℕ) (x : List ℕ) → length (stored_of l o e n x) ≡ length l
stored_long l o e n x = put_long l (o + e) (part x e n)

-- a part that was put
pub part_same : (l : List ℕ) (o : ℕ) (x : List ℕ) → o + length x ≤ length l → part (put l o x) o (length x) ≡ x
unfolding part put
part_same l o x h =
    let r : List ℕ = drop (o + length x) l in
    ap (λ (y : List ℕ). take (length x) (drop o y)) (sets-eq x l o h ∙ append_assoc (take o l) x r)
    ∙ ap (take (length x)) (drop_at (take o l) (x ++ r) o (length-take-le o l (omega arith)))
    ∙ take-append_seam x r

pub sixteen_same : (l : List ℕ) (o : ℕ) (x : List ℕ) → length x ≡ 16 → o + 16 ≤ length l → sixteen (put l o x) o ≡ x
sixteen_same l o x e h = ap (part (put l o x) o) (sym e) ∙ part_same l o x (omega arith)

-- a part that ends before the place of what is put
set_before : (l : List ℕ) (o a p n : ℕ) → p + n ≤ o → part (set l o a) p n ≡ part l p n
unfolding part
set_before l o a p n h =
    let e : o ≡ p + (o - p) = omega arith in
    ap (λ (k : ℕ). take n (drop p (set l k a))) e ∙ ap (take n) (drop-set-add p l (o - p) a) ∙ take-set-le n (drop p l) (o - p) a (omega arith)

pub part_before : (x l : List ℕ) (o p n : ℕ) → p + n ≤ o → part (put l o x) p n ≡ part l p n
unfolding put
part_before [] l o p n h = refl
part_before (a ∷ x) l o p n h = part_before x (set l o a) (suc o) p n (omega arith) ∙ set_before l o a p n h

-- a part that starts after the end of what is put
pub part_after : (x l : List ℕ) (o p n : ℕ) → o + length x ≤ p → part (put l o x) p n ≡ part l p n
unfolding put part
part_after [] l o p n h = refl
part_after (a ∷ x) l o p n h = part_after x (set l o a) (suc o) p n (omega arith) ∙ ap (take n) (drop-set-lt p l o a (omega arith))

-- the same of bytes
part_at : (l : List ℕ) (o n i : ℕ) → i < n → get_or (part l o n) i 0 ≡ get_or l (o + i) 0
unfolding part
part_at l o n i h = get_or-take n (drop o l) i 0 h ∙ get_or-drop o l i 0

byte : (l : List ℕ) (k : ℕ) → get_or l k 0 ≡ get_or (part l k 1) 0 0
byte l k = sym (part_at l k 1 0 (omega arith) ∙ ap (λ (j : ℕ). get_or l j 0) (add-zero k))

pub at_same : (l : List ℕ) (o : ℕ) (x : List ℕ) (i : ℕ) → o + length x ≤ length l → i < length x → get_or (put l o x) (o + i) 0 ≡ get_or x i 0
at_same l o x i h k = sym (part_at (put l o x) o (length x) i k) ∙ ap (λ (y : List ℕ). get_or y i 0) (part_same l o x h)

pub at_before : (l : List ℕ) (o : ℕ) (x : List ℕ) (k : ℕ) → k < o → get_or (put l o x) k 0 ≡ get_or l k 0
at_before l o x k h = byte (put l o x) k ∙ ap (λ (y : List ℕ). get_or y 0 0) (part_before x l o k 1 (omega arith)) ∙ sym (byte l k)

pub at_after : (l : List ℕ) (o : ℕ) (x : List ℕ) (k : ℕ) → o + length x ≤ k → get_or (put l o x) k 0 ≡ get_or l k 0
at_after l o x k h = byte (put l o x) k ∙ ap (λ (y : List ℕ). get_or y 0 0) (part_after x l o k 1 h) ∙ sym (byte l k)

-- an element store: the bytes of the element are those of the register, and all others stay
module _ (l : List ℕ) (o e n : ℕ) (x : List ℕ) (in_memory : o + 16 ≤ length l) (in_line : e + n ≤ 16) (whole : length x ≡ 16) where
  pub stored_there : (i : ℕ) → i < n → get_or (stored_of l o e n x) (o + e + i) 0 ≡ get_or x (e + i) 0
  stored_there i h =
      let long = part_long x e n (omega arith) in
      at_same l (o + e) (part x e n) i (omega arith) (omega arith) ∙ part_at x e n i h

  pub stored_before : (k : ℕ) → k < o + e → get_or (stored_of l o e n x) k 0 ≡ get_or l k 0
  stored_before k h = at_before l (o + e) (part x e n) k h

  pub stored_after : (k : ℕ) → o + e + n ≤ k → get_or (stored_of l o e n x) k 0 ≡ get_or l k 0
  stored_after k h =
      let long = part_long x e n (omega arith) in
      at_after l (o + e) (part x e n) k (omega arith)

-- an element load: the bytes of the element are those of the line, and all others are zero
module _ (l : List ℕ) (o e n : ℕ) (in_memory : o + 16 ≤ length l) (in_line : e + n ≤ 16) where
  pub loaded_there : (i : ℕ) → i < n → get_or (loaded_of l o e n) (e + i) 0 ≡ get_or l (o + e + i) 0
  loaded_there i h =
      let long = part_long l (o + e) n (omega arith) in
      at_same zeros e (part l (o + e) n) i (omega arith) (omega arith) ∙ part_at l (o + e) n i h

  pub loaded_before : (k : ℕ) → k < e → get_or (loaded_of l o e n) k 0 ≡ 0
  loaded_before k h = at_before zeros e (part l (o + e) n) k h ∙ get_or-replicate 16 k 0 0 (omega arith)

  pub loaded_after : (k : ℕ) → e + n ≤ k → k < 16 → get_or (loaded_of l o e n) k 0 ≡ 0
  loaded_after k h b =
      let long = part_long l (o + e) n (omega arith) in
      at_after zeros e (part l (o + e) n) k (omega arith) ∙ get_or-replicate 16 k 0 0 b

-- a number that counts elements at the start
pub counts : (n : ℕ) (l : List ℕ) → n ≤ length l → Counts n l
counts n l h = (h, sym (length-take-le n l h))
