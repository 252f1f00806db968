-- A result has no mark exactly where no lane of it was clipped: its exact result was in range, as `outside` of lanes says.
-- Assumes nothing.
use Prim.Native.Nat.{ℕ, zero, suc, ◌+◌, ◌*◌, ◌^◌, ◌<◌}
use mathlib.Core.Path.{◌≡◌, refl, sym, ap, subst, ◌∙◌}
use mathlib.Core.Bool.{Bool, true, false, cond, true≢false}
use mathlib.Core.List.{List}
use mathlib.Core.Logic.{◌↔◌}
use native.Mathlib.Omega.{arith}
use native.Mathlib.Nat.{add-zero}
use lib.Dec.{eqb}
use lib.Pow.{pow_pos}
use borrow.Author.Tests.{eqb-true, eqb-false}
use Rattle.lanes.specs.declared.Lane.{Lane}
use Rattle.lanes.specs.declared.Op.{Op}
use Rattle.lanes.specs.declared.Size.{Size}
use Rattle.lanes.specs.declared.Size.TheVariants.{Byte, Half, Word}
use Rattle.lanes.specs.Words.{MarkedWord, push}
use Rattle.lanes.specs.Operations.{lanes_in, word_op, applied}
use Rattle.lanes.specs.Order.{Bytes, at_place}
use Rattle.lanes.proofs.Unclipped.{unmarked}
use Rattle.lanes.proofs.Bridge.{lane_at, in_word, in_halves, in_bytes}
use Rattle.packing.specs.Resized.{marks_of_lanes, count, vector_of}
use Rattle.laws.specs.Sat.{lane_in}

-- no mark so far, and none for a lane
last : (r n : ℕ) (b : Bool) → r + 2 ^ n * cond b 1 0 ≡ 0 ↔ (r ≡ 0) × (b ≡ false)
last r n true = (λ e. absurd (omega (arith, pow_pos n)), λ e. absurd (true≢false e.1))
last r n false = (λ e. (omega arith, refl), λ e. omega (arith, e.0))

-- what holds below n and at n holds below its successor
up_to : (P : ℕ → Type 0) (n : ℕ) → ((j : ℕ) → j < n → P j) → P n → (j : ℕ) → j < suc n → P j
up_to P n f p j h = cases (eqb j n) refl
  where
    cases : (b : Bool) → eqb j n ≡ b → P j
    cases true e = subst P (sym (eqb-true j n e)) p
    cases false e = f j (omega (arith, eqb-false j n e))

-- of n lanes in a row
lanes_clipped : (n : ℕ) (g : ℕ → Lane) → marks_of_lanes n g ≡ 0 ↔ ((j : ℕ) → j < n → (g j).clipped ≡ false)
lanes_clipped zero g = (λ e j h. absurd (omega arith), λ h. refl)
lanes_clipped (suc n) g =
    let l = last (marks_of_lanes n g) n (g n).clipped in
    let s = lanes_clipped n g in (
      λ e. up_to (λ j. (g j).clipped ≡ false) n (s.0 (l.0 e).0) (l.0 e).1,
      λ h. l.1 (s.1 (λ j k. h j (omega arith)), h n (omega arith)),
    )

-- of a pack, and of a sum across words
pub vector_clipped : (s : Size) (g : ℕ → Lane) → (vector_of s g).marks ≡ 0 ↔ ((j : ℕ) → j < count s → (g j).clipped ≡ false)
unfolding vector_of
vector_clipped s g = lanes_clipped (count s) g

module _ (op : Op) (a b c : List ℕ) (ha : Bytes a) (hb : Bytes b) (hc : Bytes c) where
  -- the marks of word j
  word_marks : (s : Size) (j : ℕ) → (at_place (word_op s op) a b c j).marks ≡ marks_of_lanes (lanes_in s) (lane_in s op a b c j)
  unfolding push lane_at
  word_marks Word j = ap (λ (x : MarkedWord). x.marks) (in_word op a b c ha hb hc (4 * j)) ∙ rw (add-zero (4 * j))
  word_marks Half j = ap (λ (x : MarkedWord). x.marks) (in_halves op a b c ha hb hc (4 * j)) ∙ rw (add-zero (4 * j))
  word_marks Byte j = ap (λ (x : MarkedWord). x.marks) (in_bytes op a b c ha hb hc (4 * j)) ∙ rw (add-zero (4 * j))

  word_clipped : (s : Size) (j : ℕ) → (at_place (word_op s op) a b c j).marks ≡ 0 ↔ ((r : ℕ) → r < lanes_in s → (lane_in s op a b c j r).clipped ≡ false)
  word_clipped s j = rw (word_marks s j) (lanes_clipped (lanes_in s) (lane_in s op a b c j))

  -- of an operation at every lane of every word
  pub applied_clipped : (s : Size) → (applied s op a b c).marks ≡ 0 ↔ ((j r : ℕ) → j < 4 → r < lanes_in s → (lane_in s op a b c j r).clipped ≡ false)
  applied_clipped s =
      let u = unmarked (lanes_in s) (at_place (word_op s op) a b c) in
      (λ e j r h. (word_clipped s j).0 (u.0 e j h) r, λ f. u.1 (λ j h. (word_clipped s j).1 (λ r k. f j r h k)))
