-- Clearing the reserved bits of a word leaves none set, and changes neither its operation nor a bit beside them.
-- Assumes nothing.
use mathlib.Core.Path.{◌≡◌, ◌∙◌, ap, sym, refl}
use mathlib.Core.Bool.{false}
use Prim.Native.Nat.{ℕ, ◌%◌, ◌≤◌, ◌<◌}
use native.Mathlib.Nat.{mod-one}
use native.Mathlib.Omega.{arith}
use borrow.Author.Tests.{eqb-true, not-false}
use Rattle.encodings.specs.Bits.{bits}
use Rattle.encodings.specs.Encodings.{op_of, op_at}
use Rattle.decode.specs.Reserved.{ends, held, any_of, without}
use Rattle.decode.specs.Decode.{run_in, run_of, cleared_of}
use Rattle.std.specs.Prelude.{Option}
use Rattle.encodings.specs.declared.ops.Op.{Op}
use Rattle.decode.specs.declared.reserved.Run.TheVariants.{Empty}
use Rattle.decode.proofs.Runs.{placed, none_left, unchanged, left_of, right_of, low}
use Rattle.encodings.proofs.Table.{agree}
use Rattle.encodings.proofs.Words.{of_primary, of_14, of_others, by_primary}

-- the operation of a word that has zeros outside its primary and its low eleven bits, once its reserved bits are cleared
abbrev steady : ℕ → ℕ → Option Op
steady p n = op_at p (without (run_in (op_at p n)) n)

by_four : (n : ℕ) → n < 2048 → steady 4 n ≡ op_at 4 n
unfolding op_of
by_four = agree (steady 4) (op_at 4) 2048 refl

by_thirty_one : (n : ℕ) → n < 2048 → steady 31 n ≡ op_at 31 n
unfolding op_of
by_thirty_one = agree (steady 31) (op_at 31) 2048 refl

-- so is that of every word of the primary
carry : (p w : ℕ) → bits 0 5 w ≡ p → ((n : ℕ) → n < 2048 → steady p n ≡ op_at p n) → op_of (cleared_of w) ≡ op_of w
carry p w h f =
    let run : run_in (op_at p (w % 2048)) ≡ run_of w = ap run_in (of_primary p w h) in
    let start : 6 ≤ (ends (run_of w)).0 = (placed (run_of w)).start in
    let kept : bits 0 5 (cleared_of w) ≡ p = left_of (run_of w) w 0 5 (omega arith) ∙ h in
    sym (of_primary p (cleared_of w) kept)
    ∙ (rw (low (run_of w) w, ← run) (f (w % 2048) (omega arith)) ∙ of_primary p w h)

-- an operation that has no reserved bits
empty : (w : ℕ) (o : Option Op) → o ≡ op_of w → run_in o ≡ Empty → op_of (cleared_of w) ≡ op_of w
empty w o h e =
    let run : run_of w ≡ Empty = ap run_in (sym h) ∙ e in
    ap op_of (unchanged (run_of w) w (ap (λ r. held r w) run ∙ mod-one _))

pub same_op : (w : ℕ) → op_of (cleared_of w) ≡ op_of w
same_op w =
    by_primary w (λ h. carry 4 w h by_four) (λ h. carry 31 w h by_thirty_one)
    (λ h. empty w _ (of_14 w h) refl) (λ a b c. empty w _ (of_others w a b c) refl)

-- What holds of a word w and the word with its reserved bits cleared: the operation is the same; no reserved bit is set; each run of bits
-- left of the reserved ones, and right of them, is the same; and to clear again changes nothing.
pub record Cleaned (w : ℕ) : Type 0 where
  pub op : op_of (cleared_of w) ≡ op_of w
  pub none : any_of (run_of (cleared_of w)) (cleared_of w) ≡ false
  pub left : (f l : ℕ) → l < (ends (run_of w)).0 → bits f l (cleared_of w) ≡ bits f l w
  pub right : (f l : ℕ) → (ends (run_of w)).1 < f → f ≤ l → l ≤ 31 → bits f l (cleared_of w) ≡ bits f l w
  pub again : cleared_of (cleared_of w) ≡ cleared_of w

pub clean : (w : ℕ) → Cleaned w
clean w =
    let run : run_of (cleared_of w) ≡ run_of w = ap run_in (same_op w) in
    let zero : held (run_of (cleared_of w)) (cleared_of w) ≡ 0 = ap (λ r. held r (cleared_of w)) run ∙ none_left (run_of w) w in
    record {
      op = same_op w;
      none = rw zero;
      left = left_of (run_of w) w;
      right = right_of (run_of w) w;
      again = unchanged (run_of (cleared_of w)) (cleared_of w) zero;
    }

-- a word with no reserved bit set is not changed
pub stays : (w : ℕ) → any_of (run_of w) w ≡ false → cleared_of w ≡ w
stays w h = unchanged (run_of w) w (eqb-true _ _ (not-false _ h))
