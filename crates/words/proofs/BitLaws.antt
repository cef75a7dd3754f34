-- The laws by which the layers above know marks of one bit, and those by which the first mark is found a word at a time. Assumes nothing.
use mathlib.Core.Path.{◌≡◌, refl, sym, ap, ◌∙◌}
use mathlib.Core.List.{List, [], ◌∷◌}
use mathlib.Core.Bool.{Bool, true, false, cond, ◌||◌}
use Prim.Native.Nat.{ℕ, zero, suc, ◌+◌, ◌-◌, ◌*◌, ◌/◌, ◌%◌, ◌^◌, ◌≤◌, ◌<◌}
use native.Mathlib.Nat.{zero-div, div-one, div_self, div-eq_of_lt, one-mul, le_refl, mul-mod_left, pow-suc}
use native.Mathlib.Omega.{arith}
use native.Mathlib.Decide.{dec_lt, ℕ_discrete}
use native.Mathlib.Numerals.{add-one}
use borrow.Author.Tests.{eq-eqb, ne_eqb}
use lib.Bits.{bit_or, or_shr, or_mod, or_zero_r}
use lib.Count.{count_trailing_zeros, under}
use lib.Dec.{eqb}
use lib.ListN.{length, get_or, set, replicate, length-set, length-replicate, get_or-replicate, get_or-eq_default}
use lib.Pow.{pow-lt, pow_pos, pow-add, shl_exact, shl-shr, shr_lt, shr-shr}
use lib.Seq.{get_or-set_same, get_or-set_other, set_out}
use Rattle.words.specs.Bits.{marked, with_mark, first_marked, next_marked, marked_from}

-- ---- a mark is set

-- a bit that is shifted to its place loses nothing
pub one_shifted : (k : ℕ) → k < 64 → 1 * 2 ^ k % 18446744073709551616 ≡ 2 ^ k
one_shifted k h = shl_exact {a = 1} 1 k 64 (omega arith) (omega arith) ∙ one-mul (2 ^ k)

pub mark-past : (s : List ℕ) (l : ℕ) → length s ≤ l / 64 → s ≡ with_mark s l
unfolding with_mark
mark-past s l h = sym (set_out s (l / 64) (bit_or (get_or s (l / 64) 0) (2 ^ (l % 64))) h)

pub mark-length : (s : List ℕ) (l : ℕ) → length (with_mark s l) ≡ length s
unfolding with_mark
mark-length s l = length-set s (l / 64) (bit_or (get_or s (l / 64) 0) (2 ^ (l % 64)))

-- the bit a of a power of two is set where that is its exponent
power_at : (a : ℕ) → 2 ^ a / 2 ^ a % 2 ≡ 1
power_at a = rw (div_self (pow_pos a))

power-off : (a b : ℕ) → (a ≡ b → ⊥) → 2 ^ b / 2 ^ a % 2 ≡ 0
power-off a b n = go (dec_lt a b)
  where
    go : Dec (a < b) → 2 ^ b / 2 ^ a % 2 ≡ 0
    go (yes y) =
        let e : b ≡ suc (b - suc a) + a = omega arith in
        rw e (rw (pow-add 2 (suc (b - suc a)) a, shl-shr (2 ^ suc (b - suc a)) a, pow-suc 2 (b - suc a)) (mul-mod_left (2 ^ (b - suc a)) 2))
    go (no f) = let l : b < a = omega (arith, n) in rw (div-eq_of_lt (pow-lt l))

-- the bit a of a word in which the bit b is set
or-bit : (w a b : ℕ) → bit_or w (2 ^ b) / 2 ^ a % 2 ≡ bit_or (w / 2 ^ a % 2) (2 ^ b / 2 ^ a % 2)
or-bit w a b = rw (or_shr w (2 ^ b) a) (or_mod (w / 2 ^ a) (2 ^ b / 2 ^ a) 1)

or-one : (d : ℕ) → d < 2 → bit_or d 1 ≡ 1
or-one zero h = refl
or-one (suc zero) h = refl
or-one (suc (suc d)) h = let z : ⊥ = omega arith in absurd z

-- the other marks stay
pub mark-is : (s : List ℕ) (l k : ℕ) → k < 64 * length s → marked (with_mark s l) k ≡ (eqb k l || marked s k)
unfolding marked with_mark
mark-is s l k h = go (ℕ_discrete (k / 64) (l / 64)) (ℕ_discrete (k % 64) (l % 64))
  where
    new : ℕ
    new = bit_or (get_or s (l / 64) 0) (2 ^ (l % 64))

    apart : (k ≡ l → ⊥) → (eqb k l || marked s k) ≡ marked s k
    apart n = rw (ne_eqb k l n)

    there : k / 64 ≡ l / 64 → get_or (set s (l / 64) new) (k / 64) 0 ≡ bit_or (get_or s (k / 64) 0) (2 ^ (l % 64))
    there e = rw e (get_or-set_same s (l / 64) new 0 (omega arith))

    go : Dec (k / 64 ≡ l / 64) → Dec (k % 64 ≡ l % 64) → eqb (get_or (set s (l / 64) new) (k / 64) 0 / 2 ^ (k % 64) % 2) 1 ≡ (eqb k l || marked s k)
    go (no n) d = rw (get_or-set_other s (l / 64) (k / 64) new 0 n) (sym (apart (λ e. n (ap (λ (x : ℕ). x / 64) e))))
    go (yes e) (no n) =
        rw (there e, or-bit (get_or s (k / 64) 0) (k % 64) (l % 64), power-off (k % 64) (l % 64) n, or_zero_r (get_or s (k / 64) 0 / 2 ^ (k % 64) % 2))
        (sym (apart (λ q. n (ap (λ (x : ℕ). x % 64) q))))
    go (yes e) (yes q) =
        rw (eq-eqb k l (omega arith), there e, or-bit (get_or s (k / 64) 0) (k % 64) (l % 64), ← q, power_at (k % 64))
        (ap (λ (x : ℕ). eqb x 1) (or-one (get_or s (k / 64) 0 / 2 ^ (k % 64) % 2) (omega arith)))

-- ---- words of no marks

pub none_in : (k : ℕ) → eqb (0 / 2 ^ k % 2) 1 ≡ false
none_in k = rw (zero-div (2 ^ k))

zeros : (n i : ℕ) → ◌≡◌ {A = ℕ} (get_or (replicate n 0) i 0) 0
zeros n i = go (dec_lt i n)
  where
    go : Dec (i < n) → ◌≡◌ {A = ℕ} (get_or (replicate n 0) i 0) 0
    go (yes y) = get_or-replicate n i 0 0 y
    go (no f) = get_or-eq_default (replicate n 0) 0 {n = i} (rw length-replicate (omega arith))

pub none-marked : (n l : ℕ) → marked (replicate n 0) l ≡ false
unfolding marked
none-marked n l = rw (zeros n (l / 64)) (none_in (l % 64))

pub past-marked : (s : List ℕ) (l : ℕ) → length s ≤ l / 64 → false ≡ marked s l
unfolding marked
past-marked s l h = rw (get_or-eq_default s 0 {n = l / 64} h) (sym (none_in (l % 64)))

pub marked-past : (s : List ℕ) (l : ℕ) → 64 * length s ≤ l → marked s l ≡ false
marked-past s l h = sym (past-marked s l (omega arith))

-- ---- the first mark of n numbers

module _ (s : List ℕ) where
  first-here : (l n : ℕ) → marked s l ≡ true → first_marked s l (suc n) ≡ l
  unfolding first_marked
  first-here l n h = rw h

  first_on : (l n : ℕ) → marked s l ≡ false → first_marked s l (suc n) ≡ first_marked s (suc l) n
  unfolding first_marked
  first_on l n h = rw h

  first-least : (l n : ℕ) → l ≤ first_marked s l n
  unfolding first_marked
  first-least l zero = le_refl l
  first-least l (suc n) = go (marked s l) (first-least (suc l) n)
    where
      go : (b : Bool) → suc l ≤ first_marked s (suc l) n → l ≤ cond b l (first_marked s (suc l) n)
      go true h = le_refl l
      go false h = omega arith

  first-most : (l n : ℕ) → first_marked s l n ≤ l + n
  unfolding first_marked
  first-most l zero = omega arith
  first-most l (suc n) = go (marked s l) (first-most (suc l) n)
    where
      go : (b : Bool) → first_marked s (suc l) n ≤ suc l + n → cond b l (first_marked s (suc l) n) ≤ l + suc n
      go true h = omega arith
      go false h = omega arith

  first-marked : (l n : ℕ) → first_marked s l n < l + n → marked s (first_marked s l n) ≡ true
  unfolding first_marked
  first-marked l zero h = let z : ⊥ = omega arith in absurd z
  first-marked l (suc n) h = go (marked s l) refl (first-marked (suc l) n) h
    where
      go : (b : Bool) → marked s l ≡ b → (first_marked s (suc l) n < suc l + n → marked s (first_marked s (suc l) n) ≡ true)
          → cond b l (first_marked s (suc l) n) < l + suc n → marked s (cond b l (first_marked s (suc l) n)) ≡ true
      go true e r g = e
      go false e r g = r (omega arith)

  -- no mark is passed over
  first-from : (l n : ℕ) → marked_from s (first_marked s l n) (l + n - first_marked s l n) ≡ marked_from s l n
  unfolding first_marked marked_from
  first-from l zero = let e : l + 0 - l ≡ 0 = omega arith in rw e
  first-from l (suc n) = go (marked s l) refl (first-from (suc l) n)
    where
      go : (b : Bool) → marked s l ≡ b → marked_from s (first_marked s (suc l) n) (suc l + n - first_marked s (suc l) n) ≡ marked_from s (suc l) n
          → marked_from s (cond b l (first_marked s (suc l) n)) (l + suc n - cond b l (first_marked s (suc l) n)) ≡ cond b (l ∷ marked_from s (suc l) n) (marked_from s (suc l) n)
      go true e r = let q : l + suc n - l ≡ suc n = omega arith in rw (q, e)
      go false e r = let q : l + suc n ≡ suc l + n = omega arith in rw q r

  -- numbers with no mark are passed over
  first-skip : (l j n : ℕ) → ((k : ℕ) → k < j → marked s (l + k) ≡ false) → first_marked s l (j + n) ≡ first_marked s (l + j) n
  first-skip l zero n h = let e : l + 0 ≡ l = omega arith in let q : 0 + n ≡ n = omega arith in rw (e, q)
  first-skip l (suc j) n h =
      let e : l + suc j ≡ suc l + j = omega arith in
      let q : suc j + n ≡ suc (j + n) = omega arith in
      let z : l + 0 ≡ l = omega arith in
      rw (e, q) (first_on l (j + n) (rw z at (h 0 (omega arith)))
      ∙ first-skip (suc l) j n (λ k g. let w : suc l + k ≡ l + suc k = omega arith in rw w (h (suc k) (omega arith))))

  -- ---- the first mark to the end

  pub next-least : (l : ℕ) → l ≤ next_marked s l
  next-least l = first-least l (64 * length s - l)

  pub next-most : (l : ℕ) → l ≤ 64 * length s → next_marked s l ≤ 64 * length s
  next-most l h = omega (arith, first-most l (64 * length s - l))

  pub next-marked : (l : ℕ) → next_marked s l < 64 * length s → marked s (next_marked s l) ≡ true
  next-marked l h = first-marked l (64 * length s - l) (omega arith)

  pub next-from : (l : ℕ) → l ≤ 64 * length s → marked_from s (next_marked s l) (64 * length s - next_marked s l) ≡ marked_from s l (64 * length s - l)
  next-from l h =
      let e : l + (64 * length s - l) ≡ 64 * length s = omega arith in
      ap (λ (x : ℕ). marked_from s (next_marked s l) (x - next_marked s l)) (sym e) ∙ first-from l (64 * length s - l)

  -- ---- the marked numbers

  pub from_zero : (l : ℕ) → marked_from s l zero ≡ []
  unfolding marked_from
  from_zero l = refl

  pub from_suc : (l n : ℕ) → marked_from s l (suc n) ≡ cond (marked s l) (l ∷ marked_from s (suc l) n) (marked_from s (suc l) n)
  unfolding marked_from
  from_suc l n = refl

  pub from-none : (l e : ℕ) → e ≤ l → marked_from s l (e - l) ≡ []
  from-none l e h = let q : e - l ≡ 0 = omega arith in rw q (from_zero l)

  pub from_more : (l e : ℕ) → l < e → marked s l ≡ true → marked_from s l (e - l) ≡ l ∷ marked_from s (l + 1) (e - (l + 1))
  from_more l e h m =
      let q : e - l ≡ suc (e - (l + 1)) = omega arith in
      rw (q, add-one l, from_suc l (e - suc l), m)

-- ---- the lowest bit of a word

-- below it no bit is set
trailing_below : (k n j : ℕ) → j < count_trailing_zeros k n → n / 2 ^ j % 2 ≡ 0
unfolding count_trailing_zeros
trailing_below zero n j h = let z : ⊥ = omega arith in absurd z
trailing_below (suc k) n j h = go (n % 2) refl j (trailing_below k (n / 2)) h
  where
    go : (d : ℕ) → n % 2 ≡ d → (i : ℕ) → ((g : ℕ) → g < count_trailing_zeros k (n / 2) → n / 2 / 2 ^ g % 2 ≡ 0)
        → i < under d (count_trailing_zeros k (n / 2)) → n / 2 ^ i % 2 ≡ 0
    go (suc d) e i r g = let z : ⊥ = omega arith in absurd z
    go zero e zero r g = rw (div-one n) e
    go zero e (suc i) r g = let q : suc i ≡ 1 + i = omega arith in rw (q, ← (shr-shr n 1 i)) (r i (omega arith))

trailing_at : (k n : ℕ) → count_trailing_zeros k n < k → n / 2 ^ count_trailing_zeros k n % 2 ≡ 1
unfolding count_trailing_zeros
trailing_at zero n h = let z : ⊥ = omega arith in absurd z
trailing_at (suc k) n h = go (n % 2) refl (trailing_at k (n / 2)) h
  where
    go : (d : ℕ) → n % 2 ≡ d → (count_trailing_zeros k (n / 2) < k → n / 2 / 2 ^ count_trailing_zeros k (n / 2) % 2 ≡ 1)
        → under d (count_trailing_zeros k (n / 2)) < suc k → n / 2 ^ under d (count_trailing_zeros k (n / 2)) % 2 ≡ 1
    go (suc d) e r g = rw (div-one n) (omega arith)
    go zero e r g =
        let q : suc (count_trailing_zeros k (n / 2)) ≡ 1 + count_trailing_zeros k (n / 2) = omega arith in
        rw (q, ← (shr-shr n 1 (count_trailing_zeros k (n / 2)))) (r (omega arith))

-- a number of m digits that is not 0 has its lowest among them
trailing_lt : (k m n : ℕ) → m ≤ k → n < 2 ^ m → (n ≡ 0 → ⊥) → count_trailing_zeros k n < m
unfolding count_trailing_zeros
trailing_lt k zero n h l z = absurd (z (omega arith))
trailing_lt zero (suc m) n h l z = let y : ⊥ = omega arith in absurd y
trailing_lt (suc k) (suc m) n h l z = go (n % 2) refl (trailing_lt k m (n / 2) (omega arith) (shr_lt m 1 (rw (add-one m) l)))
  where
    go : (d : ℕ) → n % 2 ≡ d → ((n / 2 ≡ 0 → ⊥) → count_trailing_zeros k (n / 2) < m) → under d (count_trailing_zeros k (n / 2)) < suc m
    go (suc d) e r = omega arith
    go zero e r = let t : count_trailing_zeros k (n / 2) < m = r (λ y. z (omega arith)) in omega arith

-- ---- the first mark, a word at a time

module _ (s : List ℕ) where
  -- a mark in what is left of the word of l
  marked-in : (l j : ℕ) → l % 64 + j < 64 → marked s (l + j) ≡ eqb (get_or s (l / 64) 0 / 2 ^ (l % 64) / 2 ^ j % 2) 1
  unfolding marked
  marked-in l j h =
      let a : (l + j) / 64 ≡ l / 64 = omega arith in
      let b : (l + j) % 64 ≡ l % 64 + j = omega arith in rw (a, b, shr-shr (get_or s (l / 64) 0) (l % 64) j)

  pub next_past : (l : ℕ) → length s ≤ l / 64 → l ≡ next_marked s l
  unfolding first_marked
  next_past l h = let e : 64 * length s - l ≡ 0 = omega arith in rw e

  module _ (l : ℕ) (inside : l / 64 < length s) where
    -- how far the lowest bit of what is left of the word is from l
    pub rest_lt : get_or s (l / 64) 0 < 2 ^ 64 → (get_or s (l / 64) 0 / 2 ^ (l % 64) ≡ 0 → ⊥) → count_trailing_zeros 64 (get_or s (l / 64) 0 / 2 ^ (l % 64)) < 64 - l % 64
    rest_lt w n =
        let e : 64 - l % 64 + l % 64 ≡ 64 = omega arith in
        trailing_lt 64 (64 - l % 64) (get_or s (l / 64) 0 / 2 ^ (l % 64)) (omega arith) (shr_lt (64 - l % 64) (l % 64) (rw e w)) n

    pub next-in : get_or s (l / 64) 0 < 2 ^ 64 → (get_or s (l / 64) 0 / 2 ^ (l % 64) ≡ 0 → ⊥)
        → l + count_trailing_zeros 64 (get_or s (l / 64) 0 / 2 ^ (l % 64)) ≡ next_marked s l
    next-in w n = go (count_trailing_zeros 64 (get_or s (l / 64) 0 / 2 ^ (l % 64))) (rest_lt w n) (trailing_below 64 (get_or s (l / 64) 0 / 2 ^ (l % 64))) (trailing_at 64 (get_or s (l / 64) 0 / 2 ^ (l % 64)))
      where
        go : (t : ℕ) → t < 64 - l % 64 → ((j : ℕ) → j < t → get_or s (l / 64) 0 / 2 ^ (l % 64) / 2 ^ j % 2 ≡ 0)
            → (t < 64 → get_or s (l / 64) 0 / 2 ^ (l % 64) / 2 ^ t % 2 ≡ 1) → l + t ≡ next_marked s l
        go t h below here =
            let e : 64 * length s - l ≡ t + suc (64 * length s - l - suc t) = omega arith in
            rw e (sym (first-skip s l t (suc (64 * length s - l - suc t)) (λ k g. marked-in l k (omega arith) ∙ ap (λ (x : ℕ). eqb x 1) (below k g))
            ∙ first-here s (l + t) (64 * length s - l - suc t) (marked-in l t (omega arith) ∙ ap (λ (x : ℕ). eqb x 1) (here (omega arith)))))

    -- where the rest of the word has no bit, the next word is as good a start
    pub next-on : get_or s (l / 64) 0 / 2 ^ (l % 64) ≡ 0 → next_marked s (64 * (l / 64 + 1)) ≡ next_marked s l
    next-on z =
        let e : 64 * length s - l ≡ 64 - l % 64 + (64 * length s - 64 * (l / 64 + 1)) = omega arith in
        let q : l + (64 - l % 64) ≡ 64 * (l / 64 + 1) = omega arith in
        sym (ap (first_marked s l) e
        ∙ first-skip s l (64 - l % 64) (64 * length s - 64 * (l / 64 + 1)) (λ k g. marked-in l k (omega arith) ∙ ap (λ (x : ℕ). eqb (x / 2 ^ k % 2) 1) z ∙ none_in k)
        ∙ ap (λ (x : ℕ). first_marked s x (64 * length s - 64 * (l / 64 + 1))) q)

  -- the same for a whole word
  module _ (i : ℕ) (inside : i < length s) where
    whole : 64 * i / 64 ≡ i
    whole = omega arith

    all : get_or s (64 * i / 64) 0 / 2 ^ (64 * i % 64) ≡ get_or s i 0
    all = let e : 64 * i % 64 ≡ 0 = omega arith in let q : 64 * i / 64 ≡ i = omega arith in rw (e, q, div-one (get_or s i 0))

    pub word_lt : get_or s i 0 < 2 ^ 64 → (get_or s i 0 ≡ 0 → ⊥) → count_trailing_zeros 64 (get_or s i 0) < 64
    word_lt w n = trailing_lt 64 64 (get_or s i 0) (omega arith) w n

    pub word_in : get_or s i 0 < 2 ^ 64 → (get_or s i 0 ≡ 0 → ⊥) → 64 * i + count_trailing_zeros 64 (get_or s i 0) ≡ next_marked s (64 * i)
    word_in w n = rw all at (next-in (64 * i) (omega arith) (rw whole w) (λ z. n (sym all ∙ z)))

    pub word_on : get_or s i 0 ≡ 0 → next_marked s (64 * (i + 1)) ≡ next_marked s (64 * i)
    word_on z = rw whole at (next-on (64 * i) (omega arith) (all ∙ z))
