-- 'All true' and 'none true' do not depend on the order of the words, for every f on words. Assumes nothing.
use Rattle.std.proofs.Common.{◌≡◌, ℕ, ◌*◌, ◌^◌, ◌<◌, Bool, true, false, ◌&&◌, eqb, ◌↔◌, List, sym, refl, ap, ◌∙◌, true≢false, arith, eq-eqb, eqb-true}
use Rattle.lanes.specs.declared.Marked.{Marked}
use Rattle.lanes.specs.Words.{MarkedWord, word_from, joined, wordwise}
use Rattle.lanes.specs.Summary.{all_are}
use Rattle.lanes.specs.Order.{Bytes, Order, reordered, at_place}
use Rattle.lanes.proofs.Reorder.{four, word_of, reorder, every}

parts : (a b : Bool) → (a && b) ≡ true → (a ≡ true) × (b ≡ true)
parts true b h = (refl, h)
parts false b h = absurd (true≢false (sym h))

all_words : (k : ℕ) (v : List ℕ) → all_are k v ≡ true ↔ ((j : ℕ) → j < 4 → word_from v (4 * j) ≡ k)
all_words k v = (
  λ e. let p = parts (is 0 && is 4 && is 8) (is 12) e in
      let q = parts (is 0 && is 4) (is 8) p.0 in
      let r = parts (is 0) (is 4) q.0 in
      four (λ j. word_from v (4 * j) ≡ k) (eqb-true _ k r.0) (eqb-true _ k r.1) (eqb-true _ k q.1) (eqb-true _ k p.1),
  λ h. rw (eq-eqb _ k (h 0 (omega arith)), eq-eqb _ k (h 1 (omega arith)), eq-eqb _ k (h 2 (omega arith)), eq-eqb _ k (h 3 (omega arith))),
)
  where
    is : ℕ → Bool
    is i = eqb (word_from v i) k

-- the words of four results side by side
module _ (n : ℕ) (g : ℕ → MarkedWord) (small : (j : ℕ) → (g j).value < 2 ^ 32) where
  all_results : (k : ℕ) → all_are k (joined n (g 0) (g 1) (g 2) (g 3)).bytes ≡ true ↔ ((j : ℕ) → j < 4 → (g j).value ≡ k)
  unfolding joined
  all_results k =
      let at = word_of (λ j. (g j).value) small in
      let w = all_words k (joined n (g 0) (g 1) (g 2) (g 3)).bytes in
      (λ e j l. sym (at j l) ∙ w.0 e j l, λ h. w.1 (λ j l. at j l ∙ h j l))

module _ (n : ℕ) (f : ℕ → ℕ → ℕ → MarkedWord) (small : (x y z : ℕ) → (f x y z).value < 2 ^ 32) (p : ℕ → ℕ) (o : Order p)
    (a b c : List ℕ) (ha : Bytes a) (hb : Bytes b) (hc : Bytes c) where
  pub all_are_lem : (k : ℕ) → all_are k (wordwise n f a b c).bytes ≡ true
      ↔ all_are k (wordwise n f (reordered p a) (reordered p b) (reordered p c)).bytes ≡ true
  all_are_lem k =
      let e = ap (λ (v : Marked). all_are k v.bytes) (reorder n f p a b c ha hb hc) in
      let q = every n f p a b c ha hb hc (λ w. w.value ≡ k) o in
      let now = all_results n (at_place f a b c) (λ j. small _ _ _) k in
      let then = all_results n (λ j. at_place f a b c (p j)) (λ j. small _ _ _) k in
      (λ h. e ∙ then.1 (q.0 (now.0 h)), λ h. now.1 (q.1 (then.0 (sym e ∙ h))))
