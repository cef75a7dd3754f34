-- What the code that reads and writes a number comes to. Assumes nothing.
use Rattle.std.specs.Prelude.{Some, None}
use mathlib.Core.Path.{◌≡◌, refl, sym, ap, ◌∙◌}
use mathlib.Core.Bool.{true, false}
use mathlib.Core.List.{List, [], ◌∷◌, ◌++◌}
use Prim.Native.Nat.{ℕ, zero, suc, ◌+◌, ◌-◌, ◌*◌, ◌/◌, ◌%◌, ◌^◌, ◌≤◌, ◌<◌}
use native.Mathlib.Omega.{arith}
use borrow.Author.Tests.{lt-ltb, le-ltb, eq-eqb, ne_eqb, ltb-true, ltb-false}
use lib.Dec.{ltb, eqb}
use lib.Pointwise.{pointwise}
use lib.IntN.{ℤ, pos, negsuc, ◌-ℤ◌, nat_abs}
use lib.Signed.{mag, lt_z}
use lib.ListN.{length, get_or, take, drop, drop_of_length-le}
use mir.Syntax.{w32}
use mir.Val.{SFits, to_z, of_z}
use Rattle.words.specs.Words.{number_of, word_of}
use Rattle.words.proofs.Laws.{word-is}
use Rattle.words.proofs.Signed.{back32}
use Rattle.tables.proofs.SearchLaws.{cases}
use Rattle.lister.specs.Bytes.{Puts}
use Rattle.lister.specs.Numerals.{no_number, digit_of, value_from, natural_in, positive_of, negative_of, numeral_in, digits_by, digits, numeral}
use Rattle.words.proofs.Laws.{drop-next}
use Rattle.lister.proofs.BufferLaws.{then, puts_none, puts-as}

-- ---- a digit

module _ (b : ℕ) where
  pub digit_low : b < 48 → digit_of b ≡ 10
  unfolding digit_of
  digit_low h = rw (lt-ltb b 48 h)

  pub digit-high : 57 < b → digit_of b ≡ 10
  unfolding digit_of
  digit-high h = rw (le-ltb b 48 (omega arith), lt-ltb 57 b h)

  pub digit-is : 48 ≤ b → b ≤ 57 → digit_of b ≡ b - 48
  unfolding digit_of
  digit-is h k = rw (le-ltb b 48 h, le-ltb 57 b k)

  pub digit-small : digit_of b ≤ 10
  digit-small =
      cases (ltb b 48) (λ e. rw (digit_low (ltb-true b 48 e)) (omega arith))
      (λ e. cases (ltb 57 b) (λ f. rw (digit-high (ltb-true 57 b f)) (omega arith))
      (λ f. rw (digit-is (ltb-false b 48 e) (ltb-false 57 b f)) (omega (arith, ltb-false 57 b f))))

-- ---- digits in a row

pub value_none : (n : ℕ) → value_from n [] ≡ n
unfolding value_from
value_none n = refl

module _ (n b : ℕ) (s : List ℕ) where
  pub value-no-digit : digit_of b ≡ 10 → value_from n (b ∷ s) ≡ no_number
  unfolding value_from
  value-no-digit e = rw (eq-eqb (digit_of b) 10 e)

  module _ (digit : digit_of b ≡ 10 → ⊥) where
    pub value-too-great : 2147483648 < 10 * n + digit_of b → value_from n (b ∷ s) ≡ no_number
    unfolding value_from
    value-too-great h = rw (ne_eqb (digit_of b) 10 digit, lt-ltb 2147483648 (10 * n + digit_of b) h)

    pub value-more : 10 * n + digit_of b ≤ 2147483648 → value_from n (b ∷ s) ≡ value_from (10 * n + digit_of b) s
    unfolding value_from
    value-more h = rw (ne_eqb (digit_of b) 10 digit, le-ltb 2147483648 (10 * n + digit_of b) h)

-- the loop: i digits are read and make n
pub record Valuing (s : List ℕ) (n i : ℕ) : Type 0 where
  pub inside : i ≤ length s
  pub small : n ≤ 2147483648
  pub rest : value_from n (drop i s) ≡ value_from 0 s

pub valuing-starts : {s : List ℕ} → Valuing s 0 0
valuing-starts = record { inside = omega arith; small = omega arith; rest = refl }

module _ {s : List ℕ} {n i : ℕ} (inv : Valuing s n i) (more : i < length s) where
  at : value_from n (get_or s i 0 ∷ drop (i + 1) s) ≡ value_from 0 s
  at = rw (drop-next s i more) at inv.rest

  pub valuing-stops : digit_of (get_or s i 0) ≡ 10 → value_from 0 s ≡ no_number
  valuing-stops h = sym at ∙ value-no-digit n (get_or s i 0) (drop (i + 1) s) h

  module _ {d : ℕ} (e : digit_of (get_or s i 0) ≡ d) (digit : d < 10) where
    pub valuing-passes : 2147483648 < 10 * n + d → value_from 0 s ≡ no_number
    valuing-passes h = sym at ∙ value-too-great n (get_or s i 0) (drop (i + 1) s) (λ k. omega arith) (omega arith)

    pub valuing-goes-on : 10 * n + d ≤ 2147483648 → Valuing s (10 * n + d) (i + 1)
    valuing-goes-on h = record {
      inside = omega arith;
      small = h;
      rest = rw (← e) (sym (value-more n (get_or s i 0) (drop (i + 1) s) (λ k. omega arith) (omega arith)) ∙ at);
    }

pub valuing-ends : {s : List ℕ} {n i : ℕ} → Valuing s n i → length s ≤ i → value_from 0 s ≡ n
valuing-ends {s = s} {n = n} {i = i} inv h = sym (sym (value_none n) ∙ rw (drop_of_length-le s {i = i} h) at inv.rest)

-- at least one digit, and no 0 before others
pub natural-none : (s : List ℕ) → length s ≡ 0 → natural_in s ≡ no_number
unfolding natural_in
natural-none [] h = refl
natural-none (b ∷ s) h = let z : ⊥ = omega arith in absurd z

pub natural-one : (s : List ℕ) → length s ≡ 1 → value_from 0 s ≡ natural_in s
unfolding natural_in
natural-one [] h = let z : ⊥ = omega arith in absurd z
natural-one (b ∷ []) h = refl
natural-one (b ∷ c ∷ s) h = let z : ⊥ = omega arith in absurd z

module _ (s : List ℕ) (some : length s ≡ 0 → ⊥) (more : length s ≡ 1 → ⊥) where
  pub natural-zero : digit_of (get_or s 0 0) ≡ 0 → 2147483649 ≡ natural_in s
  unfolding natural_in
  natural-zero = go s some more
    where
      go : (s : List ℕ) → (length s ≡ 0 → ⊥) → (length s ≡ 1 → ⊥) → digit_of (get_or s 0 0) ≡ 0 → 2147483649 ≡ natural_in s
      go [] a b h = absurd (a refl)
      go (b ∷ []) a c h = absurd (c refl)
      go (b ∷ c ∷ s) a d h = rw (eq-eqb (digit_of b) 0 h)

  pub natural-more : (digit_of (get_or s 0 0) ≡ 0 → ⊥) → value_from 0 s ≡ natural_in s
  unfolding natural_in
  natural-more = go s some more
    where
      go : (s : List ℕ) → (length s ≡ 0 → ⊥) → (length s ≡ 1 → ⊥) → (digit_of (get_or s 0 0) ≡ 0 → ⊥) → value_from 0 s ≡ natural_in s
      go [] a b h = absurd (a refl)
      go (b ∷ []) a c h = absurd (c refl)
      go (b ∷ c ∷ s) a d h = rw (ne_eqb (digit_of b) 0 h)

-- the two as a digit in hand tells
pub natural_zero : (s : List ℕ) (d : ℕ) → (length s ≡ 0 → ⊥) → (length s ≡ 1 → ⊥) → d ≡ digit_of (get_or s 0 0) → d ≡ 0 → 2147483649 ≡ natural_in s
natural_zero s d some more i e = natural-zero s some more (sym i ∙ e)

pub natural_more : (s : List ℕ) (v d : ℕ) → (length s ≡ 0 → ⊥) → (length s ≡ 1 → ⊥) → d ≡ digit_of (get_or s 0 0) → (d ≡ 0 → ⊥) → v ≡ value_from 0 s → v ≡ natural_in s
natural_more s v d some more i n e = e ∙ natural-more s some more (λ z. n (i ∙ z))

-- the two as the code tests the first byte
first-nought : (b : ℕ) → digit_of b ≡ 0 → b ≡ 48
first-nought b e =
    cases (ltb b 48) (λ x. let z = digit_low b (ltb-true b 48 x) in omega (arith, z, e))
    (λ x. cases (ltb 57 b) (λ y. let z = digit-high b (ltb-true 57 b y) in omega (arith, z, e))
    (λ y. let z = digit-is b (ltb-false b 48 x) (ltb-false 57 b y) in omega (arith, z, e, ltb-false b 48 x)))

nought-first : (b : ℕ) → b ≡ 48 → digit_of b ≡ 0
nought-first b e = digit-is b (omega arith) (omega arith) ∙ (let z : b - 48 ≡ 0 = omega arith in z)

pub natural-nought : (s : List ℕ) → 2 ≤ length s → get_or s 0 0 ≡ 48 → natural_in s ≡ no_number
natural-nought s h e = sym (natural-zero s (λ z. omega arith) (λ z. omega arith) (nought-first (get_or s 0 0) e))

pub natural-read : (s : List ℕ) → (length s ≡ 0 → ⊥) → (2 ≤ length s → get_or s 0 0 ≡ 48 → ⊥) → value_from 0 s ≡ natural_in s
natural-read s some first =
    cases (ltb 1 (length s))
    (λ x. natural-more s some (λ z. let y = ltb-true 1 (length s) x in omega arith) (λ z. first (ltb-true 1 (length s) x) (first-nought (get_or s 0 0) z)))
    (λ x. natural-one s (let y = ltb-false 1 (length s) x in omega (arith, some)))

-- ---- with its sign

pub positive-fits : (n : ℕ) → n < 2147483648 → {w : ℤ} → w ≡ word_of n → Some w ≡ positive_of n
unfolding positive_of
positive-fits n h e = rw (lt-ltb n 2147483648 h, e, word-is n h)

pub positive-unfit : (n : ℕ) → 2147483648 ≤ n → None ≡ positive_of n
unfolding positive_of
positive-unfit n h = rw (le-ltb n 2147483648 h)

pub negative-none : (n : ℕ) → n ≡ 0 → None ≡ negative_of n
unfolding negative_of
negative-none zero h = refl
negative-none (suc n) h = let z : ⊥ = omega arith in absurd z

pub negative-unfit : (n : ℕ) → 2147483648 < n → None ≡ negative_of n
unfolding negative_of
negative-unfit zero h = refl
negative-unfit (suc n) h = rw (le-ltb n 2147483648 (omega arith))

-- -1 less a word
less-pos : (k : ℕ) → (negsuc 0 -ℤ pos k) ≡ negsuc k
less-pos zero = refl
less-pos (suc k) = let z : 0 + k ≡ k = omega arith in ap (λ n. negsuc (suc n)) z

less-neg : (k : ℕ) → (negsuc 0 -ℤ negsuc k) ≡ pos k
less-neg k = rw (le-ltb (suc k) 1 (omega arith)) (ap pos (omega arith))

module _ (n : ℕ) (some : n ≡ 0 → ⊥) (h : n ≤ 2147483648) {w : ℤ} (ok : mag w < 2 ^ 31) (e : w ≡ word_of (n - 1)) where
  below : (negsuc 0 -ℤ to_z w32 (of_z w32 w)) ≡ negsuc (n - 1)
  below = rw (back32 w (record { sfits = ok }), e, word-is (n - 1) (omega (arith, some))) (less-pos (n - 1))

  pub negative-in-range : SFits w32 (negsuc 0 -ℤ to_z w32 (of_z w32 w))
  negative-in-range = rw below (record { sfits = omega (arith, some) })

  pub negative_fits : Some (to_z w32 (of_z w32 (negsuc 0 -ℤ to_z w32 (of_z w32 w)))) ≡ negative_of n
  unfolding negative_of
  negative_fits = ap Some (back32 (negsuc 0 -ℤ to_z w32 (of_z w32 w)) negative-in-range ∙ below) ∙ go n some h
    where
      go : (n : ℕ) → (n ≡ 0 → ⊥) → n ≤ 2147483648 → Some (negsuc (n - 1)) ≡ negative_of n
      go zero a l = absurd (a refl)
      go (suc n) a l = let z : suc n - 1 ≡ n = omega arith in rw (z, lt-ltb n 2147483648 (omega arith))

-- a text with a minus sign, and one without
pub numeral-none : (s : List ℕ) → length s ≡ 0 → None ≡ numeral_in s
unfolding numeral_in
numeral-none [] h = refl
numeral-none (b ∷ s) h = let z : ⊥ = omega arith in absurd z

pub numeral-negative : (s : List ℕ) → (length s ≡ 0 → ⊥) → get_or s 0 0 ≡ 45 → negative_of (natural_in (drop 1 s)) ≡ numeral_in s
unfolding numeral_in
numeral-negative [] a h = absurd (a refl)
numeral-negative (b ∷ s) a h = rw (eq-eqb b 45 h)

pub numeral-positive : (s : List ℕ) → (length s ≡ 0 → ⊥) → (get_or s 0 0 ≡ 45 → ⊥) → positive_of (natural_in s) ≡ numeral_in s
unfolding numeral_in
numeral-positive [] a h = absurd (a refl)
numeral-positive (b ∷ s) a h = rw (ne_eqb b 45 h)

-- the same as the code takes the sign off
module _ (s : List ℕ) where
  pub number-signed : pointwise eqb (take 1 s) (45 ∷ []) ≡ true → {q : List ℕ} → q ≡ drop 1 s → {n : ℕ} → natural_in q ≡ n → negative_of n ≡ numeral_in s
  unfolding numeral_in
  number-signed e k i = rw (← i, k) (go s e)
    where
      go : (s : List ℕ) → pointwise eqb (take 1 s) (45 ∷ []) ≡ true → negative_of (natural_in (drop 1 s)) ≡ numeral_in s
      go [] e = absurd (let z : ◌≡◌ {A = ℕ} 0 1 = cc in omega arith)
      go (b ∷ s) e = cases (eqb b 45) (λ x. rw x) (λ x. absurd (let y : false ≡ true = rw x at e in let z : ◌≡◌ {A = ℕ} 0 1 = cc in omega arith))

  pub number-plain : pointwise eqb (take 1 s) (45 ∷ []) ≡ false → {n : ℕ} → natural_in s ≡ n → positive_of n ≡ numeral_in s
  unfolding numeral_in natural_in positive_of
  number-plain e i = rw (← i) (go s e)
    where
      go : (s : List ℕ) → pointwise eqb (take 1 s) (45 ∷ []) ≡ false → positive_of (natural_in s) ≡ numeral_in s
      go [] e = refl
      go (b ∷ s) e = cases (eqb b 45) (λ x. absurd (let y : true ≡ false = rw x at e in let z : ◌≡◌ {A = ℕ} 0 1 = cc in omega arith)) (λ x. rw x)

pub no-negative : negative_of no_number ≡ None
unfolding negative_of
no-negative = refl

pub positive-none : positive_of no_number ≡ None
unfolding positive_of
positive-none = refl

-- ---- writing

module _ (n places : ℕ) {s : List ℕ} {a : ℕ} where
  pub put-digits-none : places ≡ 0 → Puts s a (digits_by places n) s a
  unfolding digits_by
  put-digits-none h = rw h puts_none

  module _ (some : places ≡ 0 → ⊥) where
    pub put-digits-one : {e : List ℕ} {r d : ℕ} → n < 10 → d ≡ 48 + n → Puts s a (d ∷ []) e r → Puts s a (digits_by places n) e r
    unfolding digits_by
    put-digits-one {d = d} h k p = puts-as (go places some) p
      where
        go : (places : ℕ) → (places ≡ 0 → ⊥) → d ∷ [] ≡ digits_by places n
        go zero b = absurd (b refl)
        go (suc places) b = rw (lt-ltb n 10 h, k)

    pub put-digits-more : {m e : List ℕ} {q r d : ℕ} → 10 ≤ n → Puts s a (digits_by (places - 1) (n / 10)) m q → d ≡ 48 + n % 10 → Puts m q (d ∷ []) e r → Puts s a (digits_by places n) e r
    unfolding digits_by
    put-digits-more {d = d} h p k l = puts-as (go places some) (then p l)
      where
        go : (places : ℕ) → (places ≡ 0 → ⊥) → digits_by (places - 1) (n / 10) ++ (d ∷ []) ≡ digits_by places n
        go zero b = absurd (b refl)
        go (suc places) b = let z : suc places - 1 ≡ places = omega arith in rw (le-ltb n 10 h, k, z)

pub digits_are : (n : ℕ) → digits_by 20 n ≡ digits n
unfolding digits
digits_are n = refl

-- a word without its sign
pub magnitude-small : (z : ℤ) → SFits w32 z → nat_abs z ≤ 2147483648
magnitude-small (pos n) f = omega (arith, f.sfits)
magnitude-small (negsuc n) f = omega (arith, f.sfits)

module _ (z : ℤ) (f : SFits w32 z) where
  pub magnitude-in-range : lt_z (to_z w32 (of_z w32 z)) (pos 0) ≡ true → SFits w32 (negsuc 0 -ℤ to_z w32 (of_z w32 z))
  magnitude-in-range h = rw (back32 z f) (go z f (rw (back32 z f) at h))
    where
      go : (y : ℤ) → SFits w32 y → lt_z y (pos 0) ≡ true → SFits w32 (negsuc 0 -ℤ y)
      go (pos n) g h = let q : ⊥ = omega (arith, ltb-true n 0 h) in absurd q
      go (negsuc n) g h = rw (less-neg n) (record { sfits = g.sfits })

  pub magnitude-negative : lt_z (to_z w32 (of_z w32 z)) (pos 0) ≡ true → {n : ℕ} → n ≡ number_of (to_z w32 (of_z w32 (negsuc 0 -ℤ to_z w32 (of_z w32 z)))) → n + 1 ≡ nat_abs z
  magnitude-negative h e = go z f (rw (back32 z f) at h) (e ∙ ap number_of (back32 (negsuc 0 -ℤ to_z w32 (of_z w32 z)) (magnitude-in-range h) ∙ ap (λ y. negsuc 0 -ℤ y) (back32 z f)))
    where
      go : (y : ℤ) → SFits w32 y → lt_z y (pos 0) ≡ true → {n : ℕ} → n ≡ number_of (negsuc 0 -ℤ y) → n + 1 ≡ nat_abs y
      go (pos m) g h e = let q : ⊥ = omega (arith, ltb-true m 0 h) in absurd q
      go (negsuc m) g h e = let q = e ∙ ap number_of (less-neg m) in omega (arith, q)

  pub magnitude-positive : lt_z (to_z w32 (of_z w32 z)) (pos 0) ≡ false → {n : ℕ} → n ≡ number_of (to_z w32 (of_z w32 z)) → n ≡ nat_abs z
  magnitude-positive h e = go z (rw (back32 z f) at h) (e ∙ ap number_of (back32 z f))
    where
      go : (y : ℤ) → lt_z y (pos 0) ≡ false → {n : ℕ} → n ≡ number_of y → n ≡ nat_abs y
      go (pos m) h e = e
      go (negsuc m) h e = absurd (let q : ◌≡◌ {A = ℕ} 0 1 = cc in omega arith)

  -- and with it
  pub numeral-negative-is : lt_z (to_z w32 (of_z w32 z)) (pos 0) ≡ true → (45 ∷ []) ++ digits (nat_abs z) ≡ numeral z
  unfolding numeral
  numeral-negative-is h = go z (rw (back32 z f) at h)
    where
      go : (y : ℤ) → lt_z y (pos 0) ≡ true → (45 ∷ []) ++ digits (nat_abs y) ≡ numeral y
      go (pos m) h = let q : ⊥ = omega (arith, ltb-true m 0 h) in absurd q
      go (negsuc m) h = refl

  pub numeral-positive-is : lt_z (to_z w32 (of_z w32 z)) (pos 0) ≡ false → digits (nat_abs z) ≡ numeral z
  unfolding numeral
  numeral-positive-is h = go z (rw (back32 z f) at h)
    where
      go : (y : ℤ) → lt_z y (pos 0) ≡ false → digits (nat_abs y) ≡ numeral y
      go (pos m) h = refl
      go (negsuc m) h = absurd (let q : ◌≡◌ {A = ℕ} 0 1 = cc in omega arith)

  module _ {s u : List ℕ} {a c m : ℕ} (e : m ≡ nat_abs (to_z w32 (of_z w32 z))) where
    pub put-number-negative : lt_z (to_z w32 (of_z w32 z)) (pos 0) ≡ true → {t : List ℕ} {b : ℕ} → Puts s a (45 ∷ []) t b → Puts t b (digits m) u c → Puts s a (numeral z) u c
    put-number-negative h p q = puts-as (rw (e, back32 z f) (numeral-negative-is h)) (then p q)

    pub put-number-positive : lt_z (to_z w32 (of_z w32 z)) (pos 0) ≡ false → Puts s a (digits m) u c → Puts s a (numeral z) u c
    put-number-positive h p = puts-as (rw (e, back32 z f) (numeral-positive-is h)) p

pub numeral-natural : (n : ℕ) → numeral (pos n) ≡ digits n
unfolding numeral
numeral-natural n = refl

-- the lemmas for the loop of `value`, for `natural`, and for `number`
pub ruleset valuing = (valuing-starts, valuing-stops, valuing-passes, valuing-goes-on, valuing-ends)

pub ruleset naturals = (natural-none, natural-nought, natural-read)

pub ruleset numbers = (number-signed, number-plain, no-negative, positive-none)
