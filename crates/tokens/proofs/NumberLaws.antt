-- What the code that reads a number comes to. Assumes nothing.
use Rattle.std.specs.Prelude.{Some, None}
use mathlib.Core.Path.{◌≡◌, refl, sym, ap, ◌∙◌}
use mathlib.Core.Bool.{true, false}
use mathlib.Core.List.{List, [], ◌∷◌}
use Prim.Native.Nat.{ℕ, zero, suc, ◌+◌, ◌-◌, ◌*◌, ◌≤◌, ◌<◌}
use native.Mathlib.Omega.{arith}
use borrow.Author.Tests.{eqb-true, eq-eqb, ne_eqb, lt-ltb, le-ltb, ltb-true, ltb-false}
use lib.Dec.{ltb, eqb}
use lib.Pointwise.{pointwise}
use lib.IntN.{ℤ, pos, negsuc, neg_ℤ, ◌-ℤ◌}
use lib.ListN.{length, get_or, take, drop, drop_of_length-le}
use Rattle.words.specs.Words.{word_of}
use Rattle.words.specs.Range.{ranged}
use Rattle.words.proofs.Laws.{word-is, ranged-is}
use Rattle.tokens.specs.Numbers.{digit_of, digits_from, capped, integer_of, value_of}
use Rattle.tokens.proofs.ByteLaws.{cases, true≢false}
use Rattle.words.proofs.Laws.{drop-next}

-- ---- a digit

module _ (b : ℕ) where
  pub digit_low : b < 48 → digit_of b ≡ 0
  unfolding digit_of
  digit_low h = rw (lt-ltb b 48 h)

  pub digit-high : 57 < b → digit_of b ≡ 0
  unfolding digit_of
  digit-high h = rw (le-ltb b 48 (omega arith), lt-ltb 57 b h)

  pub digit-is : 48 ≤ b → b ≤ 57 → digit_of b ≡ b - 48
  unfolding digit_of
  digit-is h k = rw (le-ltb b 48 h, le-ltb 57 b k)

  pub digit-small : digit_of b ≤ 9
  digit-small =
      cases (ltb b 48) (λ e. rw (digit_low (ltb-true b 48 e)) (omega arith))
      (λ e. cases (ltb 57 b) (λ f. rw (digit-high (ltb-true 57 b f)) (omega arith))
      (λ f. rw (digit-is (ltb-false b 48 e) (ltb-false 57 b f)) (omega (arith, ltb-false 57 b f))))

-- ---- digits in a row

pub digits-none : (n : ℕ) → digits_from n [] ≡ n
unfolding digits_from
digits-none n = refl

pub digits_more : (n b : ℕ) (s : List ℕ) → digits_from n (b ∷ s) ≡ digits_from (10 * n + digit_of b) s
unfolding digits_from
digits_more n b s = refl

pub digits-grow : (n : ℕ) (s : List ℕ) → n ≤ digits_from n s
digits-grow n [] = rw (digits-none n) (omega arith)
digits-grow n (b ∷ s) = rw (digits_more n b s) (omega (arith, digits-grow (10 * n + digit_of b) s))

pub capped_small : (n : ℕ) → n ≤ 2147483648 → capped n ≡ n
unfolding capped
capped_small n h = rw (le-ltb 2147483648 n h)

pub capped-great : (n : ℕ) → 2147483648 < n → capped n ≡ 2147483649
unfolding capped
capped-great n h = rw (lt-ltb 2147483648 n h)

-- the loop: i digits are read and make n
pub record Counting (s : List ℕ) (n i : ℕ) : Type 0 where
  pub inside : i ≤ length s
  pub small : n ≤ 2147483648
  pub rest : digits_from n (drop i s) ≡ digits_from 0 s

pub counting-starts : {s : List ℕ} → Counting s 0 0
counting-starts = record { inside = omega arith; small = omega arith; rest = refl }

module _ {s : List ℕ} {n i : ℕ} (inv : Counting s n i) where
  module _ (more : i < length s) {d : ℕ} (e : d ≡ digit_of (get_or s i 0)) where
    at : digits_from (10 * n + d) (drop (i + 1) s) ≡ digits_from 0 s
    at = rw e (sym (digits_more n (get_or s i 0) (drop (i + 1) s)) ∙ rw (drop-next s i more) at inv.rest)

    pub counting-passes : 2147483648 < 10 * n + d → capped (digits_from 0 s) ≡ 2147483649
    counting-passes h = capped-great (digits_from 0 s) (omega (arith, at, digits-grow (10 * n + d) (drop (i + 1) s)))

    pub counting-goes-on : 10 * n + d ≤ 2147483648 → Counting s (10 * n + d) (i + 1)
    counting-goes-on h = record { inside = omega arith; small = h; rest = at }

  pub counting-ends : length s ≤ i → capped (digits_from 0 s) ≡ n
  counting-ends h =
      let e : n ≡ digits_from 0 s = sym (digits-none n) ∙ rw (drop_of_length-le s {i = i} h) at inv.rest in
      capped_small (digits_from 0 s) (omega (arith, inv.small)) ∙ sym e

-- ---- with its sign

pub positive-fits : (n : ℕ) → n < 2147483648 → {w : ℤ} → w ≡ word_of n → Some w ≡ ranged (pos n)
positive-fits n h e = rw (e, word-is n h, ranged-is (pos n), lt-ltb n 2147483648 h)

pub positive-outside : (n : ℕ) → 2147483648 ≤ n → None ≡ ranged (pos n)
positive-outside n h = rw (ranged-is (pos n), le-ltb n 2147483648 h)

pub negative-none : (n : ℕ) → n ≡ 0 → Some (pos 0) ≡ ranged (neg_ℤ (pos n))
negative-none n h = rw (h, ranged-is (pos 0))

pub negative-outside : (n : ℕ) → 2147483648 < n → None ≡ ranged (neg_ℤ (pos n))
negative-outside zero h = let z : ⊥ = omega arith in absurd z
negative-outside (suc n) h = rw (ranged-is (negsuc n), le-ltb n 2147483648 (omega arith))

-- -1 less a word
less-pos : (k : ℕ) → (negsuc 0 -ℤ pos k) ≡ negsuc k
less-pos zero = refl
less-pos (suc k) = let z : 0 + k ≡ k = omega arith in ap (λ n. negsuc (suc n)) z

pub negative-less : (n : ℕ) → (n ≡ 0 → ⊥) → n ≤ 2147483648 → {w : ℤ} → w ≡ word_of (n - 1) → ranged (negsuc 0 -ℤ w) ≡ ranged (neg_ℤ (pos n))
negative-less zero some h e = absurd (some refl)
negative-less (suc n) some h e = let z : suc n - 1 ≡ n = omega arith in rw (e, z, word-is n (omega arith), less-pos n)

-- a number that is capped is outside either way
pub capped-positive : (n : ℕ) → ranged (pos (capped n)) ≡ ranged (pos n)
capped-positive n =
    cases (ltb 2147483648 n)
    (λ e. let h : 2147483648 < n = ltb-true 2147483648 n e in rw (capped-great n h) (sym (positive-outside 2147483649 (omega arith)) ∙ positive-outside n (omega arith)))
    (λ e. rw (capped_small n (ltb-false 2147483648 n e)))

pub capped-negative : (n : ℕ) → ranged (neg_ℤ (pos (capped n))) ≡ ranged (neg_ℤ (pos n))
capped-negative n =
    cases (ltb 2147483648 n)
    (λ e. let h : 2147483648 < n = ltb-true 2147483648 n e in rw (capped-great n h) (sym (negative-outside 2147483649 (omega arith)) ∙ negative-outside n h))
    (λ e. rw (capped_small n (ltb-false 2147483648 n e)))

-- the whole number, as the code takes its sign off
signed : (s : List ℕ) → pointwise eqb (take 1 s) (45 ∷ []) ≡ true → get_or s 0 0 ≡ 45
signed [] e = true≢false (sym e)
signed (b ∷ s) e = cases (eqb b 45) (λ x. eqb-true b 45 x) (λ x. true≢false (sym (rw x at e)))

unsigned : (s : List ℕ) → pointwise eqb (take 1 s) (45 ∷ []) ≡ false → get_or s 0 0 ≡ 45 → ⊥
unsigned [] e k = omega arith
unsigned (b ∷ s) e k = true≢false (rw (eq-eqb b 45 k) at e)

pub no-sign : (s : List ℕ) → (get_or s 0 0 ≡ 45 → ⊥) → pointwise eqb (take 1 s) (45 ∷ []) ≡ false
no-sign [] h = refl
no-sign (b ∷ s) h = rw (ne_eqb b 45 h)

module _ (s : List ℕ) {n : ℕ} where
  pub value-negative : pointwise eqb (take 1 s) (45 ∷ []) ≡ true → {q : List ℕ} → q ≡ drop 1 s → capped (digits_from 0 q) ≡ n → ranged (neg_ℤ (pos n)) ≡ value_of s
  unfolding value_of integer_of
  value-negative h k e =
      rw (eq-eqb (get_or s 0 0) 45 (signed s h))
      (ap (λ m. ranged (neg_ℤ (pos m))) (sym e ∙ ap (λ q. capped (digits_from 0 q)) k) ∙ capped-negative (digits_from 0 (drop 1 s)))

  pub value-positive : pointwise eqb (take 1 s) (45 ∷ []) ≡ false → capped (digits_from 0 s) ≡ n → ranged (pos n) ≡ value_of s
  unfolding value_of integer_of
  value-positive h e = rw (ne_eqb (get_or s 0 0) 45 (unsigned s h)) (ap (λ m. ranged (pos m)) (sym e) ∙ capped-positive (digits_from 0 s))

-- where the digits pass the range
module _ (s : List ℕ) where
  pub negative-past : pointwise eqb (take 1 s) (45 ∷ []) ≡ true → {q : List ℕ} → q ≡ drop 1 s → capped (digits_from 0 q) ≡ 2147483649 → None ≡ value_of s
  negative-past h k e = negative-outside 2147483649 (omega arith) ∙ value-negative s h k e

  pub positive-none : pointwise eqb (take 1 s) (45 ∷ []) ≡ false → capped (digits_from 0 s) ≡ 2147483649 → None ≡ value_of s
  positive-none h e = positive-outside 2147483649 (omega arith) ∙ value-positive s h e

-- what a number comes to: its integer, if that fits 32 bits
pub value-is : (s : List ℕ) → value_of s ≡ ranged (integer_of s)
unfolding value_of
value-is s = refl

-- the law for a result in its range
pub ruleset ranging = (ranged-is)

-- the lemmas for the loop of `digits`, and for `value`
pub ruleset counting = (counting-starts, counting-passes, counting-goes-on, counting-ends, digit-small)

pub ruleset value_read = (value-negative, value-positive, negative-past, positive-none)
