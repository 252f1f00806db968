-- 'No lane clipped' does not depend on the order of the words, for every f on words of any number of lanes. Assumes nothing.
use Rattle.std.proofs.Common.{◌≡◌, ℕ, ◌+◌, ◌*◌, ◌^◌, ◌<◌, ◌≤◌, ◌↔◌, List, sym, ap, ◌∙◌, mul-le-mul_right, arith, pow_pos}
use Rattle.lanes.specs.declared.Marked.{Marked}
use Rattle.lanes.specs.Words.{MarkedWord, joined, wordwise}
use Rattle.lanes.specs.Order.{Bytes, Order, reordered, at_place}
use Rattle.lanes.proofs.Reorder.{four, reorder, every}

-- a sum with a positive factor is zero where both parts are
no_sum : (s x y : ℕ) → 0 < s → x + s * y ≡ 0 ↔ (x ≡ 0) × (y ≡ 0)
no_sum s x y h = (
  λ e. let some : y ≤ s * y = omega (arith, mul-le-mul_right {m = 1} {n = s} y h) in
      (omega arith, omega arith),
  λ e. rw (e.0, e.1) (omega arith),
)

-- no mark of four words, and no mark of any of them
module _ (n : ℕ) (g : ℕ → MarkedWord) where
  pub unmarked : (joined n (g 0) (g 1) (g 2) (g 3)).marks ≡ 0 ↔ ((j : ℕ) → j < 4 → (g j).marks ≡ 0)
  unfolding joined
  unmarked =
      let s = pow_pos n in
      let third = no_sum (2 ^ n) (g 2).marks (g 3).marks s in
      let second = no_sum (2 ^ n) (g 1).marks ((g 2).marks + 2 ^ n * (g 3).marks) s in
      let first = no_sum (2 ^ n) (g 0).marks ((g 1).marks + 2 ^ n * ((g 2).marks + 2 ^ n * (g 3).marks)) s in (
        λ e. let p = first.0 e in
            let q = second.0 p.1 in
            let r = third.0 q.1 in
            four (λ j. (g j).marks ≡ 0) p.0 q.0 r.0 r.1,
        λ h. first.1 (h 0 (omega arith), second.1 (h 1 (omega arith), third.1 (h 2 (omega arith), h 3 (omega arith)))),
      )

module _ (n : ℕ) (f : ℕ → ℕ → ℕ → MarkedWord) (p : ℕ → ℕ) (o : Order p) (a b c : List ℕ) (ha : Bytes a) (hb : Bytes b) (hc : Bytes c) where
  pub unclipped : (wordwise n f a b c).marks ≡ 0 ↔ (wordwise n f (reordered p a) (reordered p b) (reordered p c)).marks ≡ 0
  unclipped =
      let e = ap (λ (v : Marked). v.marks) (reorder n f p a b c ha hb hc) in
      let k = every n f p a b c ha hb hc (λ w. w.marks ≡ 0) o in (
        λ h. e ∙ (unmarked n (λ j. at_place f a b c (p j))).1 (k.0 ((unmarked n (at_place f a b c)).0 h)),
        λ h. (unmarked n (at_place f a b c)).1 (k.1 ((unmarked n (λ j. at_place f a b c (p j))).0 (sym e ∙ h))),
      )
