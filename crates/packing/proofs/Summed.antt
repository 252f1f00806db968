-- Words as exact integers in 64 bits, their sums, and the words that such sums become. Assumes nothing.
use Rattle.std.proofs.Common.{◌≡◌, ℕ, zero, suc, ◌+◌, ◌-◌, ◌*◌, ◌^◌, ◌<◌, Bool, true, false, not, cond, ltb, eqb, List, [], ◌∷◌, ℤ, pos, negsuc, ◌+ℤ◌, T, leb, leb→le, refl, sym, ap, ◌∙◌, arith, Fits, SFits, to_z, of_z, mod-eq_of_lt, ltb-true, ltb-false, eq-eqb, ne_eqb}
use Rattle.std.specs.Int.{int_min, int_max}
use lib.ListN.{get_or}
use lib.Lanes.{mask_l}
use mir.Syntax.{w32, w64}
use mir.Val.{bool_byte}
use mir.ValLaws.{to_z-of_z, to_z-Fits}
use Rattle.lanes.specs.declared.Lane.{Lane}
use Rattle.lanes.specs.declared.Size.TheVariants.{Word}
use Rattle.lanes.specs.Integer.{signed, sat_s, saturated, clamp, outside, plain}
use Rattle.lanes.specs.Numbers.{number_at}
use Rattle.lanes.specs.Placed.{Holds, lanes_of}
use Rattle.lanes.proofs.Bridge.{number-lt}
use Rattle.lanes.proofs.Known.{Known, lane, plus, kept}
use Rattle.lanes.proofs.Signed.{minus_below}
use Rattle.packing.specs.Summed.{signed_word}

-- the bits of a word, read by the machine
by_test : (x : ℕ) → x < 2 ^ 32 → (t : Bool) → ltb x (2 ^ 31) ≡ t → to_z w32 x ≡ signed (2 ^ 32) x
unfolding signed
by_test x h true e = rw e refl
by_test x h false e = rw e (sym (minus_below x (2 ^ 32) h))

pub read : (x : ℕ) {z : ℤ} → Fits w32 x → z ≡ to_z w32 x → to_z w64 (of_z w64 (to_z w32 (of_z w32 z))) ≡ signed (2 ^ 32) x
read x f e =
    let a = ap (λ (z : ℤ). to_z w32 (of_z w32 z)) e ∙ to_z-of_z w32 (to_z w32 x) (to_z-Fits w32 x f) ∙ by_test x f.fits (ltb x (2 ^ 31)) refl in
    (lane w64 (2 ^ 32) a f.fits (omega arith) tt).is

-- word j of a vector
module _ {v r : List ℕ} (h : Holds Word v r) where
  at : (j : ℕ) → j < 4 → get_or (lanes_of Word v) j 0 ≡ number_at Word v (4 * j)
  at zero l = refl
  at (suc zero) l = refl
  at (suc (suc zero)) l = refl
  at (suc (suc (suc zero))) l = refl
  at (suc (suc (suc (suc j)))) l = absurd (omega (arith, l))

  exact : (j : ℕ) → T (leb (suc j) 4) → {z : ℤ} → z ≡ signed (2 ^ 32) (get_or r j 0) → Known (to_z w64 (of_z w64 z)) (signed_word v j) (2 ^ 31 + 1)
  exact j l e = lane w64 (2 ^ 32) (e ∙ ap (signed (2 ^ 32)) (ap (λ l. get_or l j 0) h.lanes ∙ at j (leb→le (suc j) 4 l))) (number-lt Word v h.bytes (4 * j)) (omega arith) tt

  pub two : (i j : ℕ) → T (leb (suc i) 4) → T (leb (suc j) 4) → {y z : ℤ} → y ≡ signed (2 ^ 32) (get_or r i 0) → z ≡ signed (2 ^ 32) (get_or r j 0)
      → Known (to_z w64 (of_z w64 y) +ℤ to_z w64 (of_z w64 z)) (signed_word v i +ℤ signed_word v j) (2 ^ 32 + 2)
  two i j l k e f = plus (exact i l e) (exact j k f)

  -- a sum, and one word more
  pub more : {A a : ℤ} {k : ℕ} → Known A a k → T (leb k (2 ^ 63)) → (j : ℕ) → T (leb (suc j) 4) → {z : ℤ} → z ≡ signed (2 ^ 32) (get_or r j 0)
      → Known (to_z w64 (of_z w64 A) +ℤ to_z w64 (of_z w64 z)) (a +ℤ signed_word v j) (k + (2 ^ 31 + 1))
  more e t j l f = plus (kept w64 e t) (exact j l f)

-- an exact integer moved to the nearer end of a word's range
abbrev pub near : ℤ → ℤ
near z = int_max (negsuc (2 ^ 31 - 1)) (int_min z (pos (2 ^ 31 - 1)))

pub record Taken (z : ℤ) : Type 0 where
  pub is : ◌≡◌ {A = Lane} (record { value = of_z w32 (near z); clipped = not (eqb (of_z w64 (near z)) (of_z w64 z)) }) (sat_s (2 ^ 32) z)
  pub fits : SFits w32 (near z)

above : (n : ℕ) (t : Bool) → ltb (2 ^ 31 - 1) n ≡ t → Taken (pos n)
unfolding saturated clamp outside
above n true e =
    let l = ltb-true (2 ^ 31 - 1) n e in
    record { is = rw (e, ne_eqb (2 ^ 31 - 1) n (λ q. absurd (omega (arith, q)))) refl; fits = rw e (record { sfits = omega arith }) }
above n false e =
    let l = ltb-false (2 ^ 31 - 1) n e in
    let k : n < 2 ^ 32 = omega arith in
    record { is = rw (e, eq-eqb n n refl, mod-eq_of_lt k) refl; fits = rw e (record { sfits = omega arith }) }

below : (n : ℕ) → n < 2 ^ 63 → (t : Bool) → ltb (2 ^ 31 - 1) n ≡ t → Taken (negsuc n)
unfolding saturated clamp outside
below n h true e =
    let l = ltb-true (2 ^ 31 - 1) n e in
    record { is = rw (e, ne_eqb (2 ^ 64 - 2 ^ 31) (2 ^ 64 - suc n) (λ q. absurd (omega (arith, q)))) refl; fits = rw e (record { sfits = omega arith }) }
below n h false e =
    let l = ltb-false (2 ^ 31 - 1) n e in
    let k : n < 2 ^ 32 = omega arith in
    record { is = rw (e, eq-eqb (2 ^ 64 - suc n) (2 ^ 64 - suc n) refl, mod-eq_of_lt k) refl; fits = rw e (record { sfits = omega arith }) }

pub taken : (z : ℤ) → SFits w64 z → Taken z
taken (pos n) h = above n (ltb (2 ^ 31 - 1) n) refl
taken (negsuc n) h = below n h.sfits (ltb (2 ^ 31 - 1) n) refl

-- a choice of two lanes is as small as both
pub choice-lt : {m : ℕ} (t : Bool) (l k : Lane) → l.value < m → k.value < m → (cond t l k).value < m
choice-lt true l k h i = h
choice-lt false l k h i = i

-- the marks of the lanes 1 and 3
pub odd_marks : (p q : Bool) → 2 * bool_byte p + 8 * bool_byte q ≡ mask_l (false ∷ p ∷ false ∷ q ∷ [])
odd_marks true true = refl
odd_marks true false = refl
odd_marks false true = refl
odd_marks false false = refl

pub zero-fits : sat_s (2 ^ 32) (pos 0) ≡ plain 0
unfolding saturated clamp outside
zero-fits = refl
