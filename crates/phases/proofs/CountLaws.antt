-- How many numbers pass. Assumes nothing.
use mathlib.Core.Path.{◌≡◌, refl}
use mathlib.Core.Bool.{Bool, true, false, cond}
use Prim.Native.Nat.{ℕ, zero, suc, ◌+◌, ◌≤◌, ◌<◌}
use native.Mathlib.Omega.{arith}
use native.Mathlib.Decide.{ℕ_discrete}
use Rattle.phases.specs.Tying.{how_many}

one-most : (a : Bool) → cond a 1 0 ≤ 1
one-most true = omega arith
one-most false = omega arith

one-or-none : (a b : Bool) → (a ≡ true → b ≡ true) → cond a 1 0 ≤ cond b 1 0
one-or-none true b h = rw (h refl) (omega arith)
one-or-none false b h = omega arith

pub many-least : (f : ℕ → Bool) (i n : ℕ) → how_many f i n ≤ n
unfolding how_many
many-least f i zero = omega arith
many-least f i (suc n) = omega (arith, one-most (f i), many-least f (suc i) n)

module _ (f g : ℕ → Bool) (h : (k : ℕ) → f k ≡ true → g k ≡ true) where
  pub many-most : (i n : ℕ) → how_many f i n ≤ how_many g i n
  unfolding how_many
  many-most i zero = omega arith
  many-most i (suc n) = omega (arith, one-or-none (f i) (g i) (h i), many-most (suc i) n)

  -- and one passes that did not
  pub many-strict : (k : ℕ) → f k ≡ false → g k ≡ true → (i n : ℕ) → i ≤ k → k < i + n → how_many f i n < how_many g i n
  unfolding how_many
  many-strict k a b i zero l m = let z : ⊥ = omega arith in absurd z
  many-strict k a b i (suc n) l m = go (ℕ_discrete k i) (many-most (suc i) n) (λ o. many-strict k a b (suc i) n o (omega arith))
    where
      go : Dec (k ≡ i) → how_many f (suc i) n ≤ how_many g (suc i) n → (suc i ≤ k → how_many f (suc i) n < how_many g (suc i) n) → cond (f i) 1 0 + how_many f (suc i) n < cond (g i) 1 0 + how_many g (suc i) n
      go (yes e) r s = let x : f i ≡ false = rw e at a in let y : g i ≡ true = rw e at b in rw (x, y) (omega (arith, r))
      go (no e) r s = omega (arith, one-or-none (f i) (g i) (h i), s (omega arith))

-- all but one passed before
pub many-one : (f g : ℕ → Bool) (x : ℕ) → ((k : ℕ) → (k ≡ x → ⊥) → g k ≡ true → f k ≡ true) → (i n : ℕ) → how_many g i n ≤ suc (how_many f i n)
unfolding how_many
many-one f g x h i zero = omega arith
many-one f g x h i (suc n) = go (ℕ_discrete i x) (many-one f g x h (suc i) n) (λ e. many-behind (suc i) n (omega arith))
  where
    -- behind that one
    many-behind : (j m : ℕ) → x < j → how_many g j m ≤ how_many f j m
    many-behind j zero l = omega arith
    many-behind j (suc m) l = omega (arith, one-or-none (g j) (f j) (h j (λ e. omega arith)), many-behind (suc j) m (omega arith))

    go : Dec (i ≡ x) → how_many g (suc i) n ≤ suc (how_many f (suc i) n) → (i ≡ x → how_many g (suc i) n ≤ how_many f (suc i) n) → cond (g i) 1 0 + how_many g (suc i) n ≤ suc (cond (f i) 1 0 + how_many f (suc i) n)
    go (yes e) r s = omega (arith, one-most (g i), s e)
    go (no e) r s = omega (arith, one-or-none (g i) (f i) (h i e), r)

pub many-none : (f : ℕ → Bool) → ((k : ℕ) → f k ≡ false) → (i n : ℕ) → how_many f i n ≡ 0
unfolding how_many
many-none f h i zero = refl
many-none f h i (suc n) = let z : 0 + how_many f (suc i) n ≡ 0 = omega (arith, many-none f h (suc i) n) in rw (h i) z
