-- A part of a list that is overwritten is what is put there.
-- Assumes nothing.
use Rattle.std.proofs.Common.{ℕ, ◌+◌, ◌≤◌, ◌≡◌, refl, sym, ap, ◌∙◌, arith, List, ◌++◌, length, take, drop}
use Rattle.std.proofs.lemmas.Slice.{put_mid-paste}
use borrow.Rule.Slice.PartMut.{put_mid}
use lib.Seq.{sets-eq, take_all}
use Rattle.lines.specs.Lines.{put}

-- k elements of d from place at on, overwritten by s, where s is x
pub over : (d : List ℕ) (at k : ℕ) (s x : List ℕ) → at + length x ≤ length d → length x ≡ k → s ≡ x → put_mid at k d s ≡ put d at x
unfolding put
over d at k s x h l e =
    put_mid-paste at k d s x (length x) e l refl
    ∙ ap (λ (y : List ℕ). take at d ++ y ++ drop (at + length x) d) (take_all (length x) x (omega arith))
    ∙ sym (sets-eq x d at h)
