-- The words of thirty-two general registers are all that a reading of them leaves; and a list that is written part by part.
-- Assumes nothing.
use Rattle.std.proofs.Common.{ℕ, ◌+◌, ◌≤◌, ◌≡◌, refl, ap, ◌∙◌, true, List, ◌++◌, Option, arith, length, replicate}
use borrow.Rule.Slice.PartMut.{put_mid}
use Rattle.lines.specs.Lines.{put}
use Rattle.lines.proofs.Copying.{over}
use Rattle.lines.proofs.Parts.{put_long}
use Rattle.reading.specs.Words.{words_of, whole, Fills}
use Rattle.reading.proofs.ByFours.{words_long}
use Rattle.texts.proofs.Joined.{put-append, put_all}

pub thirty_two : (b after : List ℕ) (r : Option ℕ) → length b ≡ 128 → Fills b (replicate 32 0) r after → after ≡ words_of b
thirty_two b after r e f =
    let w : whole b (replicate 32 0) ≡ true = rw e refl in
    let l = words_long b in
    let n : length (words_of b) ≡ 32 = omega arith in
    rw w at f.code ∙ put_all (replicate 32 0) (words_of b) n

-- a list whose start is written: the k elements behind it are overwritten by s, which is x
pub next : (d : List ℕ) {e s : List ℕ} (at k : ℕ) (a x : List ℕ) → e ≡ put d 0 a → length a ≡ at → length x ≡ k → at + k ≤ length d → s ≡ x
    → put_mid at k e s ≡ put d 0 (a ++ x)
next d {e} {s} at k a x h l m w g =
    let long : length e ≡ length d = ap length h ∙ put_long d 0 a in
    let same : at ≡ 0 + length a = omega arith in
    over e at k s x (omega arith) m g
    ∙ ap (λ (y : List ℕ). put y at x) h
    ∙ ap (λ (j : ℕ). put (put d 0 a) j x) same
    ∙ put-append a d x 0
