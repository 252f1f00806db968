-- Halves as exact integers in 32 bits, and exact results moved to the nearer end of the signed range. Assumes nothing.
use Rattle.std.proofs.Common.{◌≡◌, ℕ, zero, suc, ◌+◌, ◌-◌, ◌%◌, ◌^◌, ◌<◌, Bool, true, false, not, cond, ltb, eqb, ℤ, pos, negsuc, List, [], ◌∷◌, map, length, sym, refl, ap, ◌∙◌, subst, arith, Fits, SFits, to_z, of_z, ltb-true, ltb-false, le-ltb, mod-eq_of_lt, eq-eqb, ne_eqb}
use lib.ListN.{replicate}
use lib.Lanes.{Each1, number_l, digits_l, pick_l, mask_l, sel_l, zip2, top}
use lib.Signed.{lt_z, mag}
use mir.Syntax.{w16, w32}
use mir.ValLaws.{to_z-of_z, to_z-Fits, of_z_fits}
use Rattle.std.specs.List.{range_with_len}
use Rattle.std.proofs.lemmas.Simd.{pick_l_whole}
use Rattle.lanes.specs.declared.Lane.{Lane}
use Rattle.lanes.specs.declared.Size.TheVariants.{Half}
use Rattle.lanes.specs.Integer.{signed, sat_s, saturated, clamp, outside}
use Rattle.lanes.proofs.Signed.{minus_below}
use Rattle.lanes.proofs.Bridge.{same_marked, few, number-lt}
use Rattle.lanes.specs.Placed.{lanes_of, lanes_from, laid, placed}
use Rattle.lanes.specs.Numbers.{number_at}
use Rattle.lanes.proofs.Recast.{halves_again}
use Rattle.lanes.specs.Order.{Bytes}

-- the bits of a half as 32-bit code reads them
by-test : (x : ℕ) → x < 2 ^ 16 → (t : Bool) → ltb x 32768 ≡ t → (to_z w16 x ≡ signed 65536 x) × SFits w32 (to_z w16 x)
unfolding signed
by-test x h true e = rw e (refl, record { sfits = omega (arith, ltb-true x 32768 e) })
by-test x h false e = rw e (sym (minus_below x 65536 h), record { sfits = omega (arith, ltb-false x 32768 e) })

pub read-is : (x : ℕ) → x < 2 ^ 16 → to_z w32 (of_z w32 (to_z w16 x)) ≡ signed 65536 x
read-is x h = let r = by-test x h (ltb x 32768) refl in to_z-of_z w32 (to_z w16 x) r.1 ∙ r.0

pub read-fits : (x : ℕ) → x < 2 ^ 16 → SFits w32 (to_z w16 x)
read-fits x h = (by-test x h (ltb x 32768) refl).1

-- a comparison as a lane of 32 bits, and what it is read as
abbrev truth : Bool → ℕ
truth t = cond t 4294967295 0

read-truth : (t : Bool) → top 31 (truth t) ≡ t
read-truth true = refl
read-truth false = refl

abbrev less : ℕ → ℕ → ℕ
less a b = truth (lt_z (to_z w32 a) (to_z w32 b))

-- what the code does to a lane b: the nearer end, that as a half, and whether it is another
abbrev lowered : ℕ → ℕ
lowered b = cond (top 31 (less b 4294934528)) 4294934528 b

abbrev near : ℕ → ℕ
near b = cond (top 31 (less (lowered b) 32767)) (lowered b) 32767

abbrev low : ℕ → ℕ
low b = of_z w16 (to_z w32 (near b))

abbrev out : ℕ → Bool
out b = top 31 (truth (not (eqb b (near b))))

record Sat (z : ℤ) : Type 0 where
  is : ◌≡◌ {A = Lane} (record { value = low (of_z w32 z); clipped = out (of_z w32 z) }) (sat_s 65536 z)
  fits : SFits w16 (to_z w32 (near (of_z w32 z)))
  small : low (of_z w32 z) < 2 ^ 16

module _ (n : ℕ) (h : n < 2 ^ 31) where
  plus : to_z w32 n ≡ pos n
  plus = to_z-of_z w32 (pos n) (record { sfits = h })

  minus : to_z w32 (2 ^ 32 - suc n) ≡ negsuc n
  minus = to_z-of_z w32 (negsuc n) (record { sfits = h })

  lowered-plus : lowered n ≡ n
  lowered-plus = rw plus refl

  lowered-minus : (t : Bool) → ltb 32767 n ≡ t → lowered (2 ^ 32 - suc n) ≡ cond t 4294934528 (2 ^ 32 - suc n)
  lowered-minus t e = rw (minus, e, read-truth t) refl

  near-plus : (t : Bool) → ltb n 32767 ≡ t → near n ≡ cond t n 32767
  near-plus t e = rw (lowered-plus, plus, e, read-truth t) refl

  near-minus : (t : Bool) → ltb 32767 n ≡ t → near (2 ^ 32 - suc n) ≡ cond t 4294934528 (2 ^ 32 - suc n)
  near-minus true e = rw (lowered-minus true e) refl
  near-minus false e = rw (lowered-minus false e, minus) refl

  sat-plus : (t u : Bool) → ltb n 32767 ≡ t → ltb 32767 n ≡ u → Sat (pos n)
  unfolding saturated clamp outside
  sat-plus true u e f =
      let l = ltb-true n 32767 e in
      let small : n < 65536 = omega arith in
      record {
        is = rw (near-plus true e, plus, eq-eqb n n refl, le-ltb 32767 n (omega arith), mod-eq_of_lt small) refl;
        fits = rw (near-plus true e, plus) (record { sfits = omega arith });
        small = rw (near-plus true e, plus) small;
      }
  sat-plus false true e f =
      let l = ltb-true 32767 n f in
      record {
        is = rw (near-plus false e, ne_eqb n 32767 (λ q. absurd (omega (arith, q))), f) refl;
        fits = rw (near-plus false e) (record { sfits = omega arith });
        small = rw (near-plus false e) (omega arith);
      }
  sat-plus false false e f =
      let l = ltb-false 32767 n f in
      let k = ltb-false n 32767 e in
      let q : n ≡ 32767 = omega arith in
      record {
        is = rw (near-plus false e, eq-eqb n 32767 q, f, q) refl;
        fits = rw (near-plus false e) (record { sfits = omega arith });
        small = rw (near-plus false e) (omega arith);
      }

  sat-minus : (t : Bool) → ltb 32767 n ≡ t → Sat (negsuc n)
  unfolding saturated clamp outside
  sat-minus true e =
      let l = ltb-true 32767 n e in
      record {
        is = rw (near-minus true e, ne_eqb (2 ^ 32 - suc n) 4294934528 (λ q. absurd (omega (arith, q))), e) refl;
        fits = rw (near-minus true e) (record { sfits = omega arith });
        small = rw (near-minus true e) (omega arith);
      }
  sat-minus false e =
      let l = ltb-false 32767 n e in
      let k : n < 65536 = omega arith in
      record {
        is = rw (near-minus false e, minus, eq-eqb (2 ^ 32 - suc n) (2 ^ 32 - suc n) refl, e, mod-eq_of_lt k) refl;
        fits = rw (near-minus false e, minus) (record { sfits = omega arith });
        small = rw (near-minus false e, minus) (omega arith);
      }

sat : (z : ℤ) → mag z < 2 ^ 31 → Sat z
sat (pos n) h = sat-plus n h (ltb n 32767) (ltb 32767 n) refl refl
sat (negsuc n) h = sat-minus n h (ltb 32767 n) refl

-- the same of a list of lanes
record Sats (zs : List ℤ) : Type 0 where
  is : ◌≡◌ {A = List Lane} (map (λ z. record { value = low (of_z w32 z); clipped = out (of_z w32 z) }) zs) (map (sat_s 65536) zs)
  fits : Each1 (λ z. SFits w16 (to_z w32 (near (of_z w32 z)))) zs
  small : Each1 (Fits w16) (map (λ z. low (of_z w32 z)) zs)

sats : (zs : List ℤ) → Each1 (λ z. mag z < 2 ^ 31) zs → Sats zs
sats [] h = record { is = refl; fits = tt; small = tt }
sats (z ∷ zs) h =
    let s = sat z h.0 in
    let r = sats zs h.1 in
    record { is = λ i. s.is i ∷ r.is i; fits = (s.fits, r.fits); small = (record { fits = s.small }, r.small) }

-- the code on eight lanes, as it stands: by a comparison and a choice, twice
abbrev lowered_l : List ℕ → List ℕ
lowered_l b = sel_l (map (top 31) (zip2 less b (replicate 8 4294934528))) (replicate 8 4294934528) b

abbrev near_l : List ℕ → List ℕ
near_l b = sel_l (map (top 31) (zip2 less (lowered_l b) (replicate 8 32767))) (lowered_l b) (replicate 8 32767)

-- the low halves, read as unsigned ones
abbrev low_l : List ℕ → List ℕ
low_l b = digits_l (2 ^ 16) 8 (number_l 256 (digits_l 256 16 (number_l (2 ^ 16) (map (λ a. of_z w16 (to_z w32 a)) (near_l b)))))

abbrev marks_l : List ℕ → ℕ
marks_l b = mask_l (map (top 31) (zip2 (λ a b. truth (not (eqb a b))) b (near_l b))) % 2 ^ 64 % 2 ^ 32

written_out : (P : List ℤ → Type 0) (zs : List ℤ) → length zs ≡ 8 → P (pick_l (pos 0) zs (range_with_len 0 8)) → P zs
written_out P zs e = subst P (pick_l_whole (pos 0) zs 8 e)

module _ (zs : List ℤ) (e : length zs ≡ 8) (h : Each1 (λ z. mag z < 2 ^ 31) zs) where
  pub narrow_fits : Each1 (λ a. SFits w16 (to_z w32 a)) (near_l (map (of_z w32) zs))
  narrow_fits =
      written_out (λ (z : List ℤ). Each1 (λ z. mag z < 2 ^ 31) z → Each1 (λ a. SFits w16 (to_z w32 a)) (near_l (map (of_z w32) z))) zs e (λ k. (sats (pick_l (pos 0) zs (range_with_len 0 8)) k).fits) h

  pub saturates : record { bytes = laid Half (low_l (map (of_z w32) zs)); marks = marks_l (map (of_z w32) zs) } ≡ placed Half (map (sat_s 65536) zs)
  saturates =
      written_out (λ (z : List ℤ). Each1 (λ z. mag z < 2 ^ 31) z → record { bytes = laid Half (low_l (map (of_z w32) z)); marks = marks_l (map (of_z w32) z) } ≡ placed Half (map (sat_s 65536) z)) zs e
      (λ k.
      let z = pick_l (pos 0) zs (range_with_len 0 8) in
      let s = sats z k in
      same_marked (ap (laid Half) (halves_again (map (λ t. low (of_z w32 t)) z) refl s.small)) (few (map (λ t. out (of_z w32 t)) z) (omega arith)) ∙ ap (placed Half) s.is)
      h

-- the halves of a vector, read as exact integers
module _ (v : List ℕ) (h : Bytes v) where
  fits : (n k : ℕ) → Each1 (Fits w16) (lanes_from Half n k v)
  fits zero k = tt
  fits (suc n) k = (record { fits = number-lt Half v h k }, fits n (k + 2))

  again : {x : List ℕ} → x ≡ lanes_of Half v → digits_l (2 ^ 16) 8 (number_l 256 (digits_l 256 16 (number_l (2 ^ 16) x))) ≡ lanes_of Half v
  again e = ap (λ (x : List ℕ). digits_l (2 ^ 16) 8 (number_l 256 (digits_l 256 16 (number_l (2 ^ 16) x)))) e ∙ halves_again (lanes_of Half v) refl (fits 8 0)

  lanes-read : (n k : ℕ) → map (λ x. to_z w32 (of_z w32 (to_z w16 x))) (lanes_from Half n k v) ≡ map (signed 65536) (lanes_from Half n k v)
  lanes-read zero k = refl
  lanes-read (suc n) k = λ i. read-is (number_at Half v k) (number-lt Half v h k) i ∷ lanes-read n (k + 2) i

  lanes-fit : (n k : ℕ) → Each1 (λ x. SFits w32 (to_z w16 x)) (lanes_from Half n k v)
  lanes-fit zero k = tt
  lanes-fit (suc n) k = (read-fits (number_at Half v k) (number-lt Half v h k), lanes-fit n (k + 2))

  pub halves-fit : {x : List ℕ} → x ≡ lanes_of Half v → Each1 (λ x. SFits w32 (to_z w16 x)) (digits_l (2 ^ 16) 8 (number_l 256 (digits_l 256 16 (number_l (2 ^ 16) x))))
  halves-fit e = subst (Each1 (λ x. SFits w32 (to_z w16 x))) (sym (again e)) (lanes-fit 8 0)

  pub halves-read : {x : List ℕ} → x ≡ lanes_of Half v → map (λ x. to_z w32 (of_z w32 (to_z w16 x))) (digits_l (2 ^ 16) 8 (number_l 256 (digits_l 256 16 (number_l (2 ^ 16) x)))) ≡ map (signed 65536) (lanes_of Half v)
  halves-read e = ap (map (λ x. to_z w32 (of_z w32 (to_z w16 x)))) (again e) ∙ lanes-read 8 0

-- the bits of signed words
pub bits-fit : (zs : List ℤ) → Each1 (λ z. mag z < 2 ^ 31) zs → Each1 (Fits w32) (map (of_z w32) zs)
bits-fit [] h = tt
bits-fit (z ∷ zs) h = (of_z_fits w32 z (record { sfits = h.0 }), bits-fit zs h.1)

-- a half is less than 32,768 in size
pub half-size : (x : ℕ) → x < 2 ^ 16 → mag (signed 65536 x) < 32768
half-size x h = rw (← (by-test x h (ltb x 32768) refl).0) (to_z-Fits w16 x (record { fits = h })).sfits
