-- Lanes that are moved between two ends and narrowed, as std::simd does it: by two comparisons and choices, a comparison for the marks, and a mask of low bits.
-- Once for every width W of the lanes. Assumes nothing.
use Rattle.std.proofs.Common.{◌≡◌, ℕ, zero, suc, ◌-◌, ◌%◌, ◌^◌, ◌<◌, ◌≤◌, Bool, true, false, not, cond, ltb, eqb, ◌||◌, List, [], ◌∷◌, map, length, bit_and, refl, sym, ap, ◌∙◌, arith, Fits, ltb-true, ltb-false, le-ltb, eq-eqb, ne_eqb}
use Rattle.std.proofs.lemmas.Nat.{and_le_r, and_mask}
use Rattle.std.proofs.lemmas.Simd.{tops_compared}
use lib.ListN.{get_or, replicate, length-map}
use lib.Lanes.{Each1, zip2, sel_l, top, mask_l}
use mir.Syntax.{Width}
use mir.Val.{bits, hbits}
use Rattle.lanes.specs.declared.Lane.{Lane}
use Rattle.lanes.specs.declared.Marked.{Marked}
use Rattle.lanes.specs.declared.Size.{Size}
use Rattle.lanes.specs.Placed.{laid, placed}
use Rattle.lanes.proofs.Bridge.{few, same_marked}
use Rattle.packing.specs.Resized.{within}

-- a lane of a comparison, and what it is read as
abbrev truth : Width → Bool → ℕ
truth W t = cond t (2 ^ bits W - 1) 0

pub read-truth : (W : Width) (t : Bool) → top (hbits W) (truth W t) ≡ t
read-truth W t = ap (λ ms. get_or ms 0 false) (tops_compared W (λ (x y : ℕ). t) (0 ∷ []) (0 ∷ []))

-- a mask of low bits leaves a number that fits
pub mask-fits : (W : Width) (m : ℕ) → m < 2 ^ bits W → (xs : List ℕ) (n : ℕ) → Each1 (Fits W) (zip2 bit_and xs (replicate n m))
mask-fits W m h [] n = tt
mask-fits W m h (x ∷ xs) zero = tt
mask-fits W m h (x ∷ xs) (suc n) = (record { fits = omega (arith, and_le_r x m) }, mask-fits W m h xs n)

-- and is the number modulo a power of two
pub mask-is : (k n : ℕ) (v : List ℕ) → length v ≡ n → map (λ a. a) (zip2 bit_and v (replicate n (2 ^ k - 1))) ≡ map (λ x. x % 2 ^ k) v
mask-is k zero [] e = refl
mask-is k zero (x ∷ v) e = absurd (omega (arith, e))
mask-is k (suc n) [] e = absurd (omega (arith, e))
mask-is k (suc n) (x ∷ v) e =
    let a = and_mask x k in
    let r = mask-is k n v (omega (arith, e)) in
    λ i. a i ∷ r i

module _ (W : Width) (k lo hi : ℕ) (in_order : lo ≤ hi) where
  -- the code at a lane
  abbrev raised : ℕ → ℕ
  raised y = cond (top (hbits W) (truth W (ltb y lo))) lo y

  abbrev near : ℕ → ℕ
  near y = cond (top (hbits W) (truth W (ltb (raised y) hi))) (raised y) hi

  abbrev moved : ℕ → Bool
  moved y = top (hbits W) (truth W (not (eqb y (near y))))

  clamped : (y : ℕ) (t u v : Bool) → ltb y lo ≡ t → ltb (cond t lo y) hi ≡ u → ltb hi y ≡ v → (near y ≡ cond t lo (cond v hi y)) × (not (eqb y (near y)) ≡ t || v)
  clamped y true true v e f g =
      let l = ltb-true y lo e in
      rw (e, read-truth W true, f, read-truth W true) (refl, rw (ne_eqb y lo (λ q. absurd (omega (arith, q)))))
  clamped y true false v e f g =
      let l = ltb-true y lo e in
      let k = ltb-false lo hi f in
      let q : hi ≡ lo = omega arith in
      rw (e, read-truth W true, f, read-truth W false, q) (refl, rw (ne_eqb y lo (λ q. absurd (omega (arith, q)))))
  clamped y false true v e f g =
      let l = ltb-true y hi f in
      rw (e, read-truth W false, f, read-truth W true, sym g ∙ le-ltb hi y (omega arith)) (refl, rw (eq-eqb y y refl))
  clamped y false false true e f g =
      let l = ltb-true hi y g in
      rw (e, read-truth W false, f, read-truth W false) (refl, rw (ne_eqb y hi (λ q. absurd (omega (arith, q)))))
  clamped y false false false e f g =
      let l = ltb-false hi y g in
      let k = ltb-false y hi f in
      let q : hi ≡ y = omega arith in
      rw (e, read-truth W false, f, read-truth W false, q) (refl, rw (eq-eqb y y refl))

  lane-is : (y : ℕ) → ◌≡◌ {A = Lane} (record { value = near y % 2 ^ k; clipped = moved y }) (within (2 ^ k) lo hi y)
  unfolding within
  lane-is y =
      let c = clamped y (ltb y lo) (ltb (cond (ltb y lo) lo y) hi) (ltb hi y) refl refl refl in
      let a = ap (λ (n : ℕ). n % 2 ^ k) c.0 in
      let b = read-truth W (not (eqb y (near y))) ∙ c.1 in
      λ i. record { value = a i; clipped = b i }

  -- the code on n lanes
  abbrev raised_l : ℕ → List ℕ → List ℕ
  raised_l n v = sel_l (map (top (hbits W)) (zip2 (λ a b. truth W (ltb a b)) v (replicate n lo))) (replicate n lo) v

  abbrev near_l : ℕ → List ℕ → List ℕ
  near_l n v = sel_l (map (top (hbits W)) (zip2 (λ a b. truth W (ltb a b)) (raised_l n v) (replicate n hi))) (raised_l n v) (replicate n hi)

  abbrev low_l : ℕ → List ℕ → List ℕ
  low_l n v = map (λ x. x % 2 ^ k) (near_l n v)

  abbrev moved_l : ℕ → List ℕ → List Bool
  moved_l n v = map (top (hbits W)) (zip2 (λ a b. truth W (not (eqb a b))) v (near_l n v))

  record Lanes (n : ℕ) (v : List ℕ) : Type 0 where
    values : low_l n v ≡ map (λ l. l.value) (map (within (2 ^ k) lo hi) v)
    marks : moved_l n v ≡ map (λ l. l.clipped) (map (within (2 ^ k) lo hi) v)

  lanes : (n : ℕ) (v : List ℕ) → length v ≡ n → Lanes n v
  lanes zero [] e = record { values = refl; marks = refl }
  lanes zero (x ∷ v) e = absurd (omega (arith, e))
  lanes (suc n) [] e = absurd (omega (arith, e))
  lanes (suc n) (x ∷ v) e =
      let l : length v ≡ n = omega (arith, e) in
      let r = lanes n v l in
      let s = lane-is x in
      record { values = λ i. (s i).value ∷ r.values i; marks = λ i. (s i).clipped ∷ r.marks i }

  pub narrowed-is : (s : Size) (n : ℕ) (v : List ℕ) → n ≤ 16 → length v ≡ n
      → ◌≡◌ {A = Marked} (record { bytes = laid s (low_l n v); marks = mask_l (moved_l n v) % 2 ^ 64 % 2 ^ 32 }) (placed s (map (within (2 ^ k) lo hi) v))
  narrowed-is s n v h e =
      let r = lanes n v e in
      let ls = map (within (2 ^ k) lo hi) v in
      let m = length-map ls (λ l. l.clipped) ∙ length-map v (within (2 ^ k) lo hi) ∙ e in
      same_marked (ap (laid s) r.values) (ap (λ ms. mask_l ms % 2 ^ 64 % 2 ^ 32) r.marks ∙ few (map (λ l. l.clipped) ls) (omega (arith, m)))
