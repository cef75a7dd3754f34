-- Laws of `every` and `first`. Assumes nothing.
use mathlib.Core.Path.{◌≡◌, refl, sym, ◌∙◌}
use mathlib.Core.Bool.{Bool, true, false, ◌&&◌}
use Prim.Native.Nat.{ℕ, zero, suc, ◌+◌, ◌-◌, ◌≤◌, ◌<◌}
use native.Mathlib.Omega.{arith}
use native.Mathlib.Decide.{dec_lt}
use native.Mathlib.Numerals.{add-one}
use Rattle.tables.specs.Search.{every, first}

-- a test of two tests
pub and-true : (a b : Bool) → a ≡ true → b ≡ true → a && b ≡ true
and-true true true p q = refl
and-true true false p q = q
and-true false b p q = p

pub and_left : (a b : Bool) → a && b ≡ true → a ≡ true
and_left true b e = refl
and_left false b e = e

pub and_right : (a b : Bool) → a && b ≡ true → b ≡ true
and_right true b e = e
and_right false b e = cc

pub and-false : (a b : Bool) → b ≡ false → a && b ≡ false
and-false true b e = e
and-false false b e = refl

-- the two values of a test, each with its equation
pub cases {ℓ} : {X : Type ℓ} (b : Bool) → (b ≡ true → X) → (b ≡ false → X) → X
cases true f g = f refl
cases false f g = g refl

module _ (t : ℕ → Bool) where
  pub every_more : (i : ℕ) → every t i ≡ true → t i ≡ true → every t (i + 1) ≡ true
  unfolding every
  every_more i e h = rw (add-one i) (and-true (every t i) (t i) e h)

  pub every-stops : (n i : ℕ) → i < n → t i ≡ false → every t n ≡ false
  unfolding every
  every-stops zero i h e = let z : ⊥ = omega arith in absurd z
  every-stops (suc n) i h e = go (dec_lt i n) (λ y. every-stops n i y e)
    where
      go : Dec (i < n) → (i < n → every t n ≡ false) → every t n && t n ≡ false
      go (yes y) r = rw (r y)
      go (no f) r = let q : i ≡ n = omega arith in and-false (every t n) (t n) (rw q at e)

  -- what holds of every number holds of each
  pub every-at : (n : ℕ) → every t n ≡ true → (i : ℕ) → i < n → t i ≡ true
  unfolding every
  every-at zero e i h = let z : ⊥ = omega arith in absurd z
  every-at (suc n) e i h = go (dec_lt i n) (λ y. every-at n (and_left (every t n) (t n) e) i y)
    where
      go : Dec (i < n) → (i < n → t i ≡ true) → t i ≡ true
      go (yes y) r = r y
      go (no f) r = let q : i ≡ n = omega arith in rw q (and_right (every t n) (t n) e)

  pub every-all : (n : ℕ) → ((i : ℕ) → i < n → t i ≡ true) → every t n ≡ true
  unfolding every
  every-all zero f = refl
  every-all (suc n) f = and-true (every t n) (t n) (every-all n λ i h. f i (omega arith)) (f n (omega arith))

  pub first-hit : (n i : ℕ) → i < n → t i ≡ true → first t i (n - i) ≡ i
  unfolding first
  first-hit n i h e = let q : n - i ≡ suc (n - (i + 1)) = omega arith in rw (q, e)

  pub first-miss : (n i : ℕ) → i < n → t i ≡ false → first t i (n - i) ≡ first t (i + 1) (n - (i + 1))
  unfolding first
  first-miss n i h e = let q : n - i ≡ suc (n - (i + 1)) = omega arith in rw (q, e, add-one i)

  pub first-end : (n i : ℕ) → n ≤ i → first t i (n - i) ≡ i
  unfolding first
  first-end n i h = let q : n - i ≡ 0 = omega arith in rw q

  -- where the first is: no sooner than i, among n numbers or after them
  pub first_reach : (i n : ℕ) → (i ≤ first t i n) × (first t i n ≤ i + n)
  unfolding first
  first_reach i zero = (omega arith, omega arith)
  first_reach i (suc n) = cases (t i) (λ e. rw e (omega arith, omega arith)) (λ e. rw e (omega (arith, (first_reach (suc i) n).0), omega (arith, (first_reach (suc i) n).1)))

  -- the first passes, and none before it does
  pub first_passes : (i n : ℕ) → first t i n < i + n → t (first t i n) ≡ true
  unfolding first
  first_passes i zero h = let z : ⊥ = omega arith in absurd z
  first_passes i (suc n) h = cases (t i) (λ e. rw e e) (λ e. rw e (first_passes (suc i) n (omega (arith, rw e at h))))

  pub first-before : (i n j : ℕ) → i ≤ j → j < first t i n → t j ≡ false
  unfolding first
  first-before i zero j a b = let z : ⊥ = omega arith in absurd z
  first-before i (suc n) j a b = cases (t i)
      (λ e. let z : j < i = rw e at b in let y : ⊥ = omega arith in absurd y)
      (λ e. go (dec_lt i j) e (λ y. first-before (suc i) n j (omega arith) (rw e at b)))
    where
      go : Dec (i < j) → t i ≡ false → (i < j → t j ≡ false) → t j ≡ false
      go (yes y) e r = r y
      go (no f) e r = let q : j ≡ i = omega arith in rw q e

-- two tests that agree
pub every-same : (t u : ℕ → Bool) (n : ℕ) → ((i : ℕ) → i < n → t i ≡ u i) → every t n ≡ every u n
unfolding every
every-same t u zero f = refl
every-same t u (suc n) f = rw (every-same t u n (λ i h. f i (omega arith)), f n (omega arith))

pub first-same : (t u : ℕ → Bool) (i n : ℕ) → ((j : ℕ) → i ≤ j → j < i + n → t j ≡ u j) → first t i n ≡ first u i n
unfolding first
first-same t u i zero f = refl
first-same t u i (suc n) f = rw (f i (omega arith) (omega arith), first-same t u (suc i) n (λ j a b. f j (omega arith) (omega arith)))

-- ---- the loop that looks for the first number below n that passes, at the number i

pub record Seeking (t : ℕ → Bool) (n i : ℕ) : Type 0 where
  pub inside : i ≤ n
  pub rest : first t i (n - i) ≡ first t 0 n

pub seeking-starts : {t : ℕ → Bool} {n : ℕ} → Seeking t n 0
seeking-starts {t = t} {n = n} = let e : n - 0 ≡ n = omega arith in record { inside = omega arith; rest = rw e }

module _ {t : ℕ → Bool} {n i : ℕ} (inv : Seeking t n i) where
  pub seeking-hits : i < n → t i ≡ true → first t 0 n ≡ i
  seeking-hits h e = sym inv.rest ∙ first-hit t n i h e

  pub seeking-goes-on : i < n → t i ≡ false → Seeking t n (i + 1)
  seeking-goes-on h e = record { inside = omega arith; rest = sym (first-miss t n i h e) ∙ inv.rest }

  pub seeking-ends : n ≤ i → first t 0 n ≡ n
  seeking-ends h = let e : n ≡ i = omega (arith, inv.inside) in sym inv.rest ∙ first-end t n i h ∙ sym e
