-- Laws of signed numbers at 32 and 64 bits: what a local's bits read back as, the range of a sum, a difference and a product, and the range test.
-- Assumes nothing.
use mathlib.Core.Path.{◌≡◌, refl, ap, ◌∙◌}
use mathlib.Core.Bool.{Bool, true, false}
use Prim.Native.Nat.{ℕ, zero, suc, ◌-◌, ◌*◌, ◌^◌, ◌<◌, ◌≤◌}
use native.Mathlib.Nat.{mul-le-mul}
use native.Mathlib.Omega.{arith}
use borrow.Author.Tests.{ltb-true, ltb-false, le-ltb, lt-ltb, eqb-true, eqb-false, eq-eqb, ne_eqb}
use lib.Dec.{ltb, eqb}
use lib.IntN.{ℤ, pos, negsuc, neg_ℤ, sub_ℕ, ◌+ℤ◌, ◌-ℤ◌, ◌*ℤ◌, nat_abs}
use lib.Signed.{mag, lt_z, non_neg}
use mir.Syntax.{w32, w64}
use mir.Val.{Fits, SFits, to_z, of_z}
use mir.Facts.{to_z-of_z, sfits_widen}
use Rattle.words.specs.Words.{eq_z, number_of, number_at}
use Rattle.words.specs.Range.{ranged}
use Rattle.std.specs.Prelude.{Some, None}
use Rattle.words.proofs.Laws.{number_in}
use lib.Dec.{T}
use lib.ListN.{length, get_or}
use mathlib.Core.List.{List}

-- a word read back from its bits
pub back32 : (z : ℤ) → SFits w32 z → to_z w32 (of_z w32 z) ≡ z
back32 z f = to_z-of_z f

pub back64 : (z : ℤ) → SFits w64 z → to_z w64 (of_z w64 z) ≡ z
back64 z f = to_z-of_z f

-- a word fits the wide type, and as a wide number it is itself
pub wide : (z : ℤ) → SFits w32 z → SFits w64 (to_z w32 (of_z w32 z))
wide z f = rw back32 (sfits_widen tt f)

pub as_wide : (z : ℤ) → SFits w32 z → to_z w64 (of_z w64 (to_z w32 (of_z w32 z))) ≡ z
as_wide z f = ap (λ (y : ℤ). to_z w64 (of_z w64 y)) (back32 z f) ∙ back64 z (sfits_widen tt f)

mag-sub : (a b : ℕ) (t : Bool) → ltb a b ≡ t → a < 2147483650 → b < 2147483651 → mag (sub_ℕ a b) < 2 ^ 63
mag-sub a b true e ha hb = rw e (omega arith)
mag-sub a b false e ha hb = rw e (omega arith)

mag_sum : (a b : ℤ) → mag a < 2147483649 → mag b < 2147483649 → mag (a +ℤ b) < 2 ^ 63
mag_sum (pos a) (pos b) f g = omega arith
mag_sum (pos a) (negsuc b) f g = mag-sub a (suc b) (ltb a (suc b)) refl (omega arith) (omega arith)
mag_sum (negsuc a) (pos b) f g = mag-sub b (suc a) (ltb b (suc a)) refl (omega arith) (omega arith)
mag_sum (negsuc a) (negsuc b) f g = omega arith

mag-negℤ : (z : ℤ) → mag z < 2 ^ 31 → mag (neg_ℤ z) < 2147483649
mag-negℤ (pos zero) f = omega arith
mag-negℤ (pos (suc n)) f = omega arith
mag-negℤ (negsuc n) f = omega arith

mag-neg-pos : (k : ℕ) → mag (neg_ℤ (pos k)) ≤ k
mag-neg-pos zero = omega arith
mag-neg-pos (suc n) = omega arith

square : (a b : ℕ) → a ≤ 2147483648 → b ≤ 2147483648 → a * b ≤ 4611686018427387904
square a b f g = mul-le-mul f g

mag-product : (a b : ℤ) → mag a < 2 ^ 31 → mag b < 2 ^ 31 → mag (a *ℤ b) < 2 ^ 63
mag-product (pos a) (pos b) f g = omega (arith, square a b (omega arith) (omega arith))
mag-product (pos a) (negsuc b) f g = omega (arith, square a (suc b) (omega arith) (omega arith), mag-neg-pos (a * suc b))
mag-product (negsuc a) (pos b) f g = omega (arith, square (suc a) b (omega arith) (omega arith), mag-neg-pos (suc a * b))
mag-product (negsuc a) (negsuc b) f g = omega (arith, square (suc a) (suc b) (omega arith) (omega arith))

-- the sum, the difference and the product of two words fit the wide type
pub sum_fits : (a b : ℤ) → SFits w32 a → SFits w32 b → SFits w64 (a +ℤ b)
sum_fits a b f g = record { sfits = mag_sum a b (omega (arith, f.sfits)) (omega (arith, g.sfits)) }

pub difference-fits : (a b : ℤ) → SFits w32 a → SFits w32 b → SFits w64 (a -ℤ b)
difference-fits a b f g = record { sfits = mag_sum a (neg_ℤ b) (omega (arith, f.sfits)) (mag-negℤ b g.sfits) }

pub product-fits : (a b : ℤ) → SFits w32 a → SFits w32 b → SFits w64 (a *ℤ b)
product-fits a b f g = record { sfits = mag-product a b f.sfits g.sfits }

-- the two tests of the range of a word
pub below-range : (z : ℤ) → lt_z z (negsuc 2147483647) ≡ true → None ≡ ranged z
unfolding ranged
below-range (pos n) h = cc
below-range (negsuc n) h = let k : 2147483647 < n = ltb-true 2147483647 n h in rw (le-ltb n 2147483648 (omega arith))

pub above-range : (z : ℤ) → lt_z (pos 2147483647) z ≡ true → None ≡ ranged z
unfolding ranged
above-range (pos n) h = let k : 2147483647 < n = ltb-true 2147483647 n h in rw (le-ltb n 2147483648 (omega arith))
above-range (negsuc n) h = cc

pub in-range : (z : ℤ) → lt_z z (negsuc 2147483647) ≡ false → lt_z (pos 2147483647) z ≡ false → mag z < 2 ^ 31
in-range (pos n) h k = let l : n ≤ 2147483647 = ltb-false 2147483647 n k in omega arith
in-range (negsuc n) h k = let l : n ≤ 2147483647 = ltb-false 2147483647 n h in omega arith

pub within-range : (z : ℤ) → mag z < 2 ^ 31 → Some z ≡ ranged z
unfolding ranged
within-range (pos n) m = rw (lt-ltb n 2147483648 (omega arith))
within-range (negsuc n) m = rw (lt-ltb n 2147483648 (omega arith))

-- the machine compares bits
bits-differ : (a b : ℕ) (t : Bool) → eqb a b ≡ t → a < 2 ^ 31 → b < 2 ^ 31 → eqb (2 ^ 32 - suc a) (2 ^ 32 - suc b) ≡ t
bits-differ a b true e f g = let k : a ≡ b = eqb-true a b e in eq-eqb (2 ^ 32 - suc a) (2 ^ 32 - suc b) (omega arith)
bits-differ a b false e f g = ne_eqb (2 ^ 32 - suc a) (2 ^ 32 - suc b) (λ q. eqb-false a b e (omega arith))

pub same_bits : (a b : ℤ) → SFits w32 a → SFits w32 b → eqb (of_z w32 a) (of_z w32 b) ≡ eq_z a b
same_bits (pos a) (pos b) f g = refl
same_bits (pos a) (negsuc b) f g = ne_eqb a (2 ^ 32 - suc b) (λ q. omega (arith, f.sfits, g.sfits))
same_bits (negsuc a) (pos b) f g = ne_eqb (2 ^ 32 - suc a) b (λ q. omega (arith, f.sfits, g.sfits))
same_bits (negsuc a) (negsuc b) f g = bits-differ a b (eqb a b) refl f.sfits g.sfits

-- what the test `w < 0` says, and what the cast of a word that is not negative asks and gives
module _ (z : ℤ) (f : SFits w32 z) where
  pub negative : lt_z (to_z w32 (of_z w32 z)) (pos 0) ≡ true → 2147483648 ≡ number_of z
  negative h = is_negative z (rw (back32 z f) at h)
    where
      is_negative : (y : ℤ) → lt_z y (pos 0) ≡ true → 2147483648 ≡ number_of y
      is_negative (pos n) h = omega (arith, ltb-true n 0 h)
      is_negative (negsuc n) h = refl

  pub cast_fits : lt_z (to_z w32 (of_z w32 z)) (pos 0) ≡ false → T (non_neg (to_z w32 (of_z w32 z))) × Fits w64 (nat_abs (to_z w32 (of_z w32 z)))
  cast_fits h = rw (back32 z f) (natural z f (rw (back32 z f) at h))
    where
      natural : (y : ℤ) → SFits w32 y → lt_z y (pos 0) ≡ false → T (non_neg y) × Fits w64 (nat_abs y)
      natural (pos n) g h = (tt, record { fits = omega (arith, g.sfits) })
      natural (negsuc n) g h = let q : ◌≡◌ {A = ℕ} 0 1 = cc in let y : ⊥ = omega arith in absurd y

  pub cast_is : lt_z (to_z w32 (of_z w32 z)) (pos 0) ≡ false → nat_abs (to_z w32 (of_z w32 z)) ≡ number_of z
  cast_is h = rw (back32 z f) (is z (rw (back32 z f) at h))
    where
      is : (y : ℤ) → lt_z y (pos 0) ≡ false → nat_abs y ≡ number_of y
      is (pos n) h = refl
      is (negsuc n) h = cc

-- an element that was read and is passed on is `to_z w32 (of_z w32 z)`
pub number_read : (p : List ℤ) (k : ℕ) → k < length p → mag (get_or p k (pos 0)) < 2147483648 → number_of (to_z w32 (of_z w32 (get_or p k (pos 0)))) ≡ number_at p k
number_read p k h m = rw (back32 (get_or p k (pos 0)) (record { sfits = m })) (number_in p k (pos 0) h)

-- the same of a wide number as the code tests it, read from its bits
pub narrow_below : (z : ℤ) → SFits w64 z → lt_z (to_z w64 (of_z w64 z)) (negsuc 2147483647) ≡ true → None ≡ ranged z
narrow_below z f h = below-range z (rw (back64 z f) at h)

pub narrow_above : (z : ℤ) → SFits w64 z → lt_z (pos 2147483647) (to_z w64 (of_z w64 z)) ≡ true → None ≡ ranged z
narrow_above z f h = above-range z (rw (back64 z f) at h)

pub narrow_within : (z : ℤ) → SFits w64 z → lt_z (to_z w64 (of_z w64 z)) (negsuc 2147483647) ≡ false → lt_z (pos 2147483647) (to_z w64 (of_z w64 z)) ≡ false
    → Some (to_z w32 (of_z w32 (to_z w64 (of_z w64 z)))) ≡ ranged z
narrow_within z f h k =
    let b = back64 z f in
    let m : mag z < 2 ^ 31 = in-range z (rw b at h) (rw b at k) in
    rw (b, back32 z (record { sfits = m })) (within-range z m)
