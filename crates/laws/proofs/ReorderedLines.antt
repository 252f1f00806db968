-- What f does to each line of a list, read and written at the place of a line: for every f that gives sixteen bytes.
-- Assumes nothing.
use Prim.Native.Nat.{ℕ, zero, suc, ◌+◌, ◌*◌, ◌/◌, ◌%◌, ◌≤◌, ◌<◌}
use mathlib.Core.Path.{◌≡◌, refl, sym, ap, ◌∙◌}
use mathlib.Core.List.{List, [], ◌∷◌, ◌++◌}
use native.Mathlib.Omega.{arith}
use native.Mathlib.Nat.{zero-add, suc-add}
use lib.ListN.{length, take, drop, length-append, length-drop, take-append-drop}
use lib.Seq.{sets, length-take-le, take_at, drop_at, drop-append-add, drop-drop}
use Rattle.lines.specs.Lines.{part, sixteen, put}
use Rattle.lanes.specs.Words.{bytes_of}
use Rattle.lanes.specs.Order.{reordered}
use Rattle.lines.proofs.Parts.{put_long}
use Rattle.laws.specs.Reorder.{each_line, reordered_lines}

-- what is put behind the first, behind a list, and in the place of one
past : (vs : List ℕ) (y : ℕ) (ys : List ℕ) (i : ℕ) → sets (y ∷ ys) (suc i) vs ≡ y ∷ sets ys i vs
past [] y ys i = refl
past (v ∷ vs) y ys i = past vs y _ (suc i)

behind : (a b x : List ℕ) (o : ℕ) → put (a ++ b) (length a + o) x ≡ a ++ put b o x
unfolding put
behind [] b x o = rw zero-add
behind (c ∷ a) b x o = rw suc-add (past x c (a ++ b) (length a + o) ∙ ap (λ (r : List ℕ). c ∷ r) (behind a b x o))

instead : (a b x : List ℕ) → length x ≡ length a → put (a ++ b) 0 x ≡ x ++ b
unfolding put
instead [] b [] e = refl
instead [] b (y ∷ x) e = absurd (omega arith)
instead (c ∷ a) b [] e = absurd (omega arith)
instead (c ∷ a) b (y ∷ x) e = past x y (a ++ b) 0 ∙ ap (λ (r : List ℕ). y ∷ r) (instead a b x (omega arith))

module _ (f : List ℕ → List ℕ) (keeps : (x : List ℕ) → length (f x) ≡ 16) where
  pub each_line_long : (n : ℕ) (l : List ℕ) → 16 * n ≤ length l → length (each_line f n l) ≡ length l
  unfolding each_line
  each_line_long zero l h = refl
  each_line_long (suc n) l h =
      let d = length-drop 16 l in
      let i = each_line_long n (drop 16 l) (omega arith) in
      length-append (f (take 16 l)) (each_line f n (drop 16 l)) ∙ omega (arith, keeps (take 16 l))

  -- reading a line
  pub each_line-sixteen : (n k : ℕ) (l : List ℕ) → 16 * n ≤ length l → k < n → sixteen (each_line f n l) (16 * k) ≡ f (sixteen l (16 * k))
  unfolding each_line part
  each_line-sixteen zero k l h b = absurd (omega arith)
  each_line-sixteen (suc n) zero l h b = take_at (f (take 16 l)) (each_line f n (drop 16 l)) 16 (keeps _)
  each_line-sixteen (suc n) (suc k) l h b =
      let d = length-drop 16 l in
      let e : 16 * suc k ≡ 16 + 16 * k = omega arith in
      let c : 16 * suc k ≡ length (f (take 16 l)) + 16 * k = omega (arith, keeps (take 16 l)) in
      ap (λ (i : ℕ). take 16 (drop i (f (take 16 l) ++ each_line f n (drop 16 l)))) c
      ∙ ap (take 16) (drop-append-add (f (take 16 l)) (each_line f n (drop 16 l)) (16 * k))
      ∙ each_line-sixteen n k (drop 16 l) (omega arith) (omega arith)
      ∙ ap (λ (r : List ℕ). f (take 16 r)) (drop-drop (16 * k) 16 l ∙ ap (λ (i : ℕ). drop i l) (sym e))

  -- writing a line
  pub each_line-put : (n k : ℕ) (l x : List ℕ) → 16 * n ≤ length l → k < n → length x ≡ 16 → each_line f n (put l (16 * k) x) ≡ put (each_line f n l) (16 * k) (f x)
  unfolding each_line
  each_line-put zero k l x h b e = absurd (omega arith)
  each_line-put (suc n) zero l x h b e =
      let t = length-take-le 16 l (omega arith) in
      let q : put l 0 x ≡ x ++ drop 16 l = ap (λ (r : List ℕ). put r 0 x) (sym (take-append-drop 16 l)) ∙ instead (take 16 l) (drop 16 l) x (e ∙ sym t) in
      rw (q, take_at x (drop 16 l) 16 e, drop_at x (drop 16 l) 16 e)
      (sym (instead (f (take 16 l)) (each_line f n (drop 16 l)) (f x) (keeps x ∙ sym (keeps (take 16 l)))))
  each_line-put (suc n) (suc k) l x h b e =
      let d = length-drop 16 l in
      let t = length-take-le 16 l (omega arith) in
      let a : 16 * suc k ≡ length (take 16 l) + 16 * k = omega arith in
      let c : 16 * suc k ≡ length (f (take 16 l)) + 16 * k = omega (arith, keeps (take 16 l)) in
      let q : put l (16 * suc k) x ≡ take 16 l ++ put (drop 16 l) (16 * k) x =
      ap (λ (r : List ℕ). put r (16 * suc k) x) (sym (take-append-drop 16 l))
      ∙ ap (λ (i : ℕ). put (take 16 l ++ drop 16 l) i x) a ∙ behind (take 16 l) (drop 16 l) x (16 * k) in
      ap (λ (r : List ℕ). f (take 16 r) ++ each_line f n (drop 16 r)) q
      ∙ ap (λ (r : List ℕ). f r ++ each_line f n (drop 16 (take 16 l ++ put (drop 16 l) (16 * k) x))) (take_at (take 16 l) (put (drop 16 l) (16 * k) x) 16 t)
      ∙ ap (λ (r : List ℕ). f (take 16 l) ++ each_line f n r) (drop_at (take 16 l) (put (drop 16 l) (16 * k) x) 16 t)
      ∙ ap (λ (r : List ℕ). f (take 16 l) ++ r) (each_line-put n k (drop 16 l) x (omega arith) (omega arith) e)
      ∙ sym (ap (λ (i : ℕ). put (f (take 16 l) ++ each_line f n (drop 16 l)) i (f x)) c ∙ behind (f (take 16 l)) (each_line f n (drop 16 l)) (f x) (16 * k))

-- the words of a line in another order are sixteen bytes
pub reordered_long : (p : ℕ → ℕ) (x : List ℕ) → length (reordered p x) ≡ 16
unfolding bytes_of
reordered_long p x = refl

-- a list whose lines are reordered: its length, a line read, a line written
module _ (p : ℕ → ℕ) where
  pub lines_long : (l : List ℕ) → length (reordered_lines p l) ≡ length l
  unfolding reordered_lines
  lines_long l = each_line_long (reordered p) (reordered_long p) (length l / 16) l (omega arith)

  pub lines_sixteen : (l : List ℕ) (o : ℕ) → o % 16 ≡ 0 → o + 16 ≤ length l → sixteen (reordered_lines p l) o ≡ reordered p (sixteen l o)
  unfolding reordered_lines
  lines_sixteen l o e h =
      let a : 16 * (o / 16) ≡ o = omega arith in
      rw a at (each_line-sixteen (reordered p) (reordered_long p) (length l / 16) (o / 16) l (omega arith) (omega arith))

  pub lines_put : (l x : List ℕ) (o : ℕ) → o % 16 ≡ 0 → o + 16 ≤ length l → length x ≡ 16
      → put (reordered_lines p l) o (reordered p x) ≡ reordered_lines p (put l o x)
  unfolding reordered_lines
  lines_put l x o e h k =
      let a : 16 * (o / 16) ≡ o = omega arith in
      sym (ap (λ (n : ℕ). each_line (reordered p) (n / 16) (put l o x)) (put_long l o x)
      ∙ (rw a at (each_line-put (reordered p) (reordered_long p) (length l / 16) (o / 16) l x (omega arith) (omega arith) k)))
