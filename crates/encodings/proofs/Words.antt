-- The operation of a word depends on its primary and its low eleven bits alone, so that tests over 2,048 numbers show what holds of every word.
-- Assumes nothing.
use mathlib.Core.Path.{◌≡◌, ◌∙◌, sym, refl}
use mathlib.Core.Bool.{Bool, true, false}
use mathlib.Core.List.{List, [], ◌∷◌}
use Prim.Native.Nat.{ℕ, ◌+◌, ◌*◌, ◌/◌, ◌%◌, ◌^◌, ◌<◌}
use native.Mathlib.Omega.{arith}
use lib.Dec.{eqb, leb}
use borrow.Author.Tests.{eqb-true, eqb-false, ne_eqb}
use Rattle.encodings.specs.Bits.{bits, pick}
use Rattle.encodings.specs.Encodings.{Form, eleven, ten, six, indexed, alone, code, Section, sections, look, op_of, op_at}
use Rattle.encodings.specs.declared.ops.Op.TheVariants.{AddImmediate}
use Rattle.std.specs.Prelude.{Some, None}
use Rattle.encodings.proofs.Table.{agree}
use Rattle.encodings.proofs.Arms.{among, Rest, none}

-- the word with the primary and the low eleven bits of w, and else zeros
abbrev pub core : ℕ → ℕ
core w = bits 0 5 w * 2 ^ 26 + w % 2048

pub same_primary : (w : ℕ) → bits 0 5 (core w) ≡ bits 0 5 w
same_primary w = omega arith

pub same_code : (f : Form) (w : ℕ) → code f (core w) ≡ code f w
same_code eleven w = omega arith
same_code ten w = omega arith
same_code six w = omega arith
same_code indexed w = omega arith
same_code alone w = omega arith

same_look : (ss : List Section) (w : ℕ) → look ss (core w) ≡ look ss w
same_look [] w = refl
same_look (s ∷ ss) w = rw (same_primary w, same_code s.form w, same_look ss w)

pub same_op : (w : ℕ) → op_of (core w) ≡ op_of w
unfolding op_of
same_op w = same_look sections w

pub of_primary : (p w : ℕ) → bits 0 5 w ≡ p → op_at p (w % 2048) ≡ op_of w
of_primary p w h = rw (← h) (same_op w)

pub of_14 : (w : ℕ) → bits 0 5 w ≡ 14 → Some AddImmediate ≡ op_of w
unfolding op_of
of_14 w h = rw h

pub of_others : (w : ℕ) → (bits 0 5 w ≡ 4 → ⊥) → (bits 0 5 w ≡ 31 → ⊥) → (bits 0 5 w ≡ 14 → ⊥) → None ≡ op_of w
unfolding op_of
of_others w h k l = rw (ne_eqb _ _ h, ne_eqb _ _ k, ne_eqb _ _ l)

-- the code of primary 4 without the bits that do not tell: those before the low six of a form with four operands, and a compare's Rc
abbrev pub telling : ℕ → ℕ
telling n = pick (leb 32 (n % 64)) (n % 64) (pick (eqb (n % 64) 6) (n % 1024) n)

-- the low six bits that some row of primary 4 has
abbrev pub columns : List ℕ
columns = 0 ∷ 2 ∷ 4 ∷ 6 ∷ 8 ∷ 12 ∷ 14 ∷ 32 ∷ 33 ∷ 34 ∷ 36 ∷ 37 ∷ 38 ∷ 39 ∷ 40 ∷ 41 ∷ 42 ∷ 43 ∷ 44 ∷ []

split : (n : ℕ) → n < 2048 → op_at 4 n ≡ pick (among (n % 64) columns) (op_at 4 (telling n)) None
unfolding op_of
split = agree (op_at 4) (λ n. pick (among (n % 64) columns) (op_at 4 (telling n)) None) 2048 refl

pub in_column : (n j : ℕ) → n < 2048 → n % 64 ≡ j → pick (among j columns) (op_at 4 (pick (leb 32 j) j (pick (eqb j 6) (n % 1024) n))) None ≡ op_at 4 n
in_column n j h e = sym (rw e at (split n h))

pub in_none : (n : ℕ) → n < 2048 → Rest (n % 64) Unit columns → None ≡ op_at 4 n
in_none n h r = sym (split n h ∙ rw (none _ columns r))

-- of an indexed form bit 31 tells nothing
pub of_31 : (w : ℕ) → bits 0 5 w ≡ 31 → op_at 31 (2 * (w / 2 % 1024)) ≡ op_of w
unfolding op_of
of_31 w h =
    let p : bits 0 5 (31 * 2 ^ 26 + 2 * (w / 2 % 1024)) ≡ 31 = omega arith in
    let k : bits 21 30 (31 * 2 ^ 26 + 2 * (w / 2 % 1024)) ≡ bits 21 30 w = omega arith in
    rw (p, h, k)

decided : {Q : Type 0} (b : Bool) → (b ≡ true → Q) → (b ≡ false → Q) → Q
decided true t f = t refl
decided false t f = f refl

pub by_primary : {Q : Type 0} (w : ℕ) → (bits 0 5 w ≡ 4 → Q) → (bits 0 5 w ≡ 31 → Q) → (bits 0 5 w ≡ 14 → Q) →
    ((bits 0 5 w ≡ 4 → ⊥) → (bits 0 5 w ≡ 31 → ⊥) → (bits 0 5 w ≡ 14 → ⊥) → Q) → Q
by_primary w four thirty-one fourteen other =
    decided (eqb (bits 0 5 w) 4) (λ e. four (eqb-true _ _ e))
    (λ e. decided (eqb (bits 0 5 w) 31) (λ f. thirty-one (eqb-true _ _ f))
    (λ f. decided (eqb (bits 0 5 w) 14) (λ g. fourteen (eqb-true _ _ g))
    (λ g. other (eqb-false _ _ e) (eqb-false _ _ f) (eqb-false _ _ g))))
