-- What a row of standings holds once numbers are noted. Assumes nothing.
use mathlib.Core.Path.{◌≡◌, refl, sym, ◌∙◌}
use mathlib.Core.Bool.{Bool, true, false, cond, ◌||◌}
use mathlib.Core.List.{List, [], ◌∷◌}
use Prim.Native.Nat.{ℕ, suc, ◌-◌, ◌≤◌, ◌<◌}
use native.Mathlib.Omega.{arith}
use native.Mathlib.Decide.{ℕ_discrete}
use borrow.Author.Tests.{ltb-true, ltb-false, lt-ltb, le-ltb, eqb-true, eqb-false}
use lib.Dec.{eqb, ltb}
use lib.ListN.{length, get_or, set, length-set}
use lib.Seq.{get_or-set_same, get_or-set_other}
use Rattle.tables.proofs.SearchLaws.{cases}
use Rattle.printing.specs.Naming.{first_label, is_led, noted, noted_all}
use Rattle.printing.specs.Claims.{Used, Earlier}

pub or_right : (a b : Bool) → b ≡ true → a || b ≡ true
or_right true b e = refl
or_right false b e = e

-- ---- one number is noted

module _ (seen : List ℕ) where
  pub noted-kept : (k : ℕ) → 0 < get_or seen k 0 → noted seen k ≡ seen
  unfolding noted
  noted-kept k h = rw (lt-ltb 0 (get_or seen k 0) h)

  pub noted-set : (k : ℕ) → get_or seen k 0 ≡ 0 → noted seen k ≡ set seen k (cond (is_led seen k) 1 2)
  unfolding noted
  noted-set k h = rw (le-ltb 0 (get_or seen k 0) (omega arith))

  noted-either : {X : Type 0} (k : ℕ) → (0 < get_or seen k 0 → X) → (get_or seen k 0 ≡ 0 → X) → X
  noted-either k f g =
      cases (ltb 0 (get_or seen k 0)) (λ e. f (ltb-true 0 (get_or seen k 0) e)) (λ e. g (let z : get_or seen k 0 ≤ 0 = ltb-false 0 (get_or seen k 0) e in omega arith))

  pub noted-length : (k : ℕ) → length (noted seen k) ≡ length seen
  noted-length k = noted-either k (λ h. rw (noted-kept k h)) (λ h. rw (noted-set k h) (length-set seen k (cond (is_led seen k) 1 2)))

  pub noted_other : (k i : ℕ) → (i ≡ k → ⊥) → get_or (noted seen k) i 0 ≡ get_or seen i 0
  noted_other k i n = noted-either k (λ h. rw (noted-kept k h)) (λ h. rw (noted-set k h) (get_or-set_other seen k i (cond (is_led seen k) 1 2) 0 n))

  pub noted-stays : (k i : ℕ) → 0 < get_or seen i 0 → get_or (noted seen k) i 0 ≡ get_or seen i 0
  noted-stays k i h = go (ℕ_discrete i k)
    where
      go : Dec (i ≡ k) → get_or (noted seen k) i 0 ≡ get_or seen i 0
      go (yes e) = rw (noted-kept k (rw e at h))
      go (no n) = noted_other k i n

  pub noted-new : (k : ℕ) → get_or seen k 0 ≡ 0 → k < length seen → get_or (noted seen k) k 0 ≡ cond (is_led seen k) 1 2
  noted-new k h l = rw (noted-set k h) (get_or-set_same seen k (cond (is_led seen k) 1 2) 0 l)

  pub noted-there : (k : ℕ) → k < length seen → 0 < get_or (noted seen k) k 0
  noted-there k l =
      noted-either k
      (λ h. rw (noted-kept k h) h)
      (λ h. rw (noted-new k h l) (cases (is_led seen k) (λ e. rw e (omega arith)) (λ e. rw e (omega arith))))

-- ---- numbers are noted in a row

pub all-length : (seen is : List ℕ) → length (noted_all seen is) ≡ length seen
unfolding noted_all
all-length seen [] = refl
all-length seen (k ∷ is) = all-length (noted seen k) is ∙ noted-length seen k

pub all-stays : (seen is : List ℕ) (i : ℕ) → 0 < get_or seen i 0 → get_or (noted_all seen is) i 0 ≡ get_or seen i 0
unfolding noted_all
all-stays seen [] i h = refl
all-stays seen (k ∷ is) i h =
    let e : get_or (noted seen k) i 0 ≡ get_or seen i 0 = noted-stays seen k i h in
    all-stays (noted seen k) is i (rw e h) ∙ e

pub all-unused : (seen is : List ℕ) (i : ℕ) → (Used i is → ⊥) → get_or (noted_all seen is) i 0 ≡ get_or seen i 0
unfolding noted_all
all-unused seen [] i n = refl
all-unused seen (k ∷ is) i n = all-unused (noted seen k) is i (λ u. n (Used.later u)) ∙ noted_other seen k i (λ e. n (rw e Used.here))

-- ---- a number that is led when it appears first among these

pub data Led (seen is : List ℕ) (i : ℕ) : Type 0 where
  first : i ≡ 0 → Led seen is i
  label : i ≡ first_label → Led seen is i
  behind : {j : ℕ} → i ≡ suc j → 0 < get_or seen j 0 → Led seen is i
  earlier : {j : ℕ} → i ≡ suc j → Earlier j i is → Led seen is i

earlier-either : {X : Type 0} {j i k : ℕ} {is : List ℕ} → Earlier j i (k ∷ is) → (k ≡ j → X) → ((k ≡ i → ⊥) → Earlier j i is → X) → X
earlier-either Earlier.here f g = f refl
earlier-either (Earlier.later n x) f g = g n x

module _ (seen : List ℕ) where
  pub is-led : (i : ℕ) (is : List ℕ) → is_led seen i ≡ true → Led seen is i
  unfolding is_led
  is-led i is e =
      cases (eqb i 0)
      (λ a. Led.first (eqb-true i 0 a))
      (λ a. cases (eqb i first_label)
      (λ b. Led.label (eqb-true i first_label b))
      (λ b. let n : i ≡ 0 → ⊥ = eqb-false i 0 a in
      let s : i ≡ suc (i - 1) = omega (arith, n) in
      Led.behind s (ltb-true 0 (get_or seen (i - 1) 0) (rw (a, b) at e))))

  led-now : {i : ℕ} {is : List ℕ} → Led seen (i ∷ is) i → is_led seen i ≡ true
  unfolding is_led
  led-now (Led.first e) = rw e
  led-now (Led.label e) = rw e
  led-now {i} (Led.behind {j = j} e h) = let s : i - 1 ≡ j = omega arith in or_right (eqb i 0 || eqb i first_label) (ltb 0 (get_or seen (i - 1) 0)) (rw s (lt-ltb 0 (get_or seen j 0) h))
  led-now (Led.earlier e x) = absurd (earlier-either x (λ q. omega arith) (λ n y. n refl))

  led_on : {k i : ℕ} {is : List ℕ} → i < length seen → Led seen (k ∷ is) i → Led (noted seen k) is i
  led_on l (Led.first e) = Led.first e
  led_on l (Led.label e) = Led.label e
  led_on {k} l (Led.behind {j = j} e h) = Led.behind e (rw (noted-stays seen k j h) h)
  led_on {k} l (Led.earlier {j = j} e x) =
      earlier-either x (λ q. Led.behind e (rw (← q) (noted-there seen k (omega arith)))) (λ n y. Led.earlier e y)

  led-back : {k i : ℕ} {is : List ℕ} → (k ≡ i → ⊥) → Led (noted seen k) is i → Led seen (k ∷ is) i
  led-back n (Led.first e) = Led.first e
  led-back n (Led.label e) = Led.label e
  led-back {k} {i} {is} n (Led.behind {j = j} e h) = go (ℕ_discrete j k)
    where
      go : Dec (j ≡ k) → Led seen (k ∷ is) i
      go (yes q) = Led.earlier e (rw q Earlier.here)
      go (no m) = Led.behind e (rw (noted_other seen k j m) at h)
  led-back n (Led.earlier e x) = Led.earlier e (Earlier.later n x)

-- ---- the standing of a number that is used

pub record Standing (seen is : List ℕ) (i : ℕ) : Type 0 where
  pub led : Led seen is i → get_or (noted_all seen is) i 0 ≡ 1
  pub unled : (Led seen is i → ⊥) → get_or (noted_all seen is) i 0 ≡ 2

module _ (seen : List ℕ) where
  pub first-standing : (i : ℕ) (is : List ℕ) → get_or seen i 0 ≡ 0 → i < length seen → get_or (noted_all seen (i ∷ is)) i 0 ≡ cond (is_led seen i) 1 2
  unfolding noted_all
  first-standing i is z l = all-stays (noted seen i) is i (noted-there seen i l) ∙ noted-new seen i z l

  standing-now : {i : ℕ} {is : List ℕ} → get_or seen i 0 ≡ 0 → i < length seen → Standing seen (i ∷ is) i
  standing-now {i} {is} z l =
      let e : get_or (noted_all seen (i ∷ is)) i 0 ≡ cond (is_led seen i) 1 2 = first-standing i is z l in
      record { led = λ x. e ∙ rw (led-now seen x); unled = λ n. e ∙ cases (is_led seen i) (λ y. absurd (n (is-led seen i (i ∷ is) y))) (λ y. rw y) }

  standing_on : {k i : ℕ} {is : List ℕ} → (k ≡ i → ⊥) → i < length seen → Standing (noted seen k) is i → Standing seen (k ∷ is) i
  unfolding noted_all
  standing_on n l s = record { led = λ x. s.led (led_on seen l x); unled = λ m. s.unled (λ x. m (led-back seen n x)) }

pub standing : {i : ℕ} (seen : List ℕ) {is : List ℕ} → get_or seen i 0 ≡ 0 → i < length seen → Used i is → Standing seen is i
standing seen z l Used.here = standing-now seen z l
standing {i} seen z l (Used.later {j = k} {is = is} u) =
    go (ℕ_discrete k i) (λ (n : k ≡ i → ⊥). standing (noted seen k) (noted_other seen k i (λ e. n (sym e)) ∙ z) (rw noted-length l) u)
  where
    go : Dec (k ≡ i) → ((k ≡ i → ⊥) → Standing (noted seen k) is i) → Standing seen (k ∷ is) i
    go (yes e) f = rw e (standing-now seen z l)
    go (no n) f = standing_on seen n l (f n)

pub used-there : {i : ℕ} (seen : List ℕ) {is : List ℕ} → i < length seen → Used i is → 0 < get_or (noted_all seen is) i 0
unfolding noted_all
used-there {i} seen l (Used.here {is = is}) = let h : 0 < get_or (noted seen i) i 0 = noted-there seen i l in rw (all-stays (noted seen i) is i h) h
used-there seen l (Used.later {j = k} u) = used-there (noted seen k) (rw noted-length l) u

used-either : {X : Type 0} {i k : ℕ} {is : List ℕ} → Used i (k ∷ is) → (i ≡ k → X) → (Used i is → X) → X
used-either Used.here f g = f refl
used-either (Used.later u) f g = g u

pub used-or-not : (i : ℕ) (is : List ℕ) → Dec (Used i is)
used-or-not i [] = no (λ u. elim (u) [ ])
used-or-not i (k ∷ is) = go (ℕ_discrete i k) (used-or-not i is)
  where
    go : Dec (i ≡ k) → Dec (Used i is) → Dec (Used i (k ∷ is))
    go (yes e) d = yes (rw e Used.here)
    go (no n) (yes u) = yes (Used.later u)
    go (no n) (no m) = no (λ u. used-either u n m)
