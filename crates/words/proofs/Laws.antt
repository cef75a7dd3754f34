-- The laws by which the layers above know words. Assumes nothing.
use mathlib.Core.Path.{◌≡◌, refl, sym, ap, ◌∙◌}
use mathlib.Core.List.{List, [], ◌∷◌}
use mathlib.Core.Bool.{true, cond}
use Prim.Native.Nat.{ℕ, zero, suc, ◌+◌, ◌-◌, ◌≤◌, ◌<◌}
use native.Mathlib.Omega.{arith}
use native.Mathlib.Decide.{dec_lt}
use native.Mathlib.Numerals.{add-one}
use borrow.Author.Tests.{eqb-true, eq-eqb, lt-ltb, le-ltb}
use lib.IntN.{ℤ, pos, negsuc}
use lib.ListN.{length, get_or, set, take, drop, replicate, length-drop, length-set, length-replicate, get_or-replicate, drop_of_length-le, get_or-eq_default}
use lib.Seq.{take_all, drop-length, drop-cons, get_or-drop, get_or-set_same, get_or-set_other, set_out, ext_get_or}
use Rattle.words.specs.Range.{fits, ranged}
use Rattle.std.specs.Prelude.{Some, None}
use Rattle.words.specs.Words.{word_at, number_of, number_at, word_of, copied, cleared, eq_z}

-- ---- parts

-- a part to the end is a `drop`, and one past the end is empty
pub part-from : {A : Type 0} (p : List A) (k : ℕ) → take (length p - k) (drop k p) ≡ drop k p
part-from p k = take_all (length p - k) (drop k p) (simp length-drop (omega arith))

pub part-past : {A : Type 0} (p : List A) (k : ℕ) → length p < k → take (length p - length p) (drop (length p) p) ≡ drop k p
part-past p k h = part-from p (length p) ∙ drop-length p ∙ sym (drop_of_length-le p {i = k} (omega arith))

-- what is left at i is the byte at i and what is left after it
pub drop-next : (s : List ℕ) (i : ℕ) → i < length s → drop i s ≡ get_or s i 0 ∷ drop (i + 1) s
drop-next s i h = rw (add-one i) (drop-cons s i 0 h)

-- ---- words as numbers

-- a word that is there is the same whatever stands past the end
pub get_d_any : (p : List ℤ) (k : ℕ) (a b : ℤ) → k < length p → get_or p k a ≡ get_or p k b
get_d_any [] k a b h = let z : ⊥ = omega arith in absurd z
get_d_any (x ∷ p) zero a b h = refl
get_d_any (x ∷ p) (suc k) a b h = get_d_any p k a b (omega arith)

pub number_in : (p : List ℤ) (k : ℕ) (d : ℤ) → k < length p → number_of (get_or p k d) ≡ number_at p k
unfolding number_at
number_in p k d h = ap number_of (get_d_any p k d (negsuc 0) h)

pub number_past : (p : List ℤ) (k : ℕ) → length p ≤ k → 2147483648 ≡ number_at p k
unfolding number_at
number_past p k h = ap number_of (sym (get_or-eq_default p (negsuc 0) h))

-- a word that is less than 2147483648 as a number is there
pub number-there : (p : List ℤ) (k : ℕ) → number_at p k < 2147483648 → k < length p
number-there p k h = go (dec_lt k (length p))
  where
    go : Dec (k < length p) → k < length p
    go (yes y) = y
    go (no n) = let e : 2147483648 ≡ number_at p k = number_past p k (omega arith) in omega arith

-- the word at k of a part is the word at a + k of the whole
pub number-drop : (p : List ℤ) (a k : ℕ) → number_at (drop a p) k ≡ number_at p (a + k)
unfolding number_at
number-drop p a k = ap number_of (get_or-drop a p k (negsuc 0))

-- the first word as a number
pub number-first : (w : ℤ) (q : List ℤ) → number_at (w ∷ q) 0 ≡ number_of w
unfolding number_at
number-first w q = refl

-- a part whose first word is less than 2147483648 as a number begins with that word
pub number-cons : (p : List ℤ) → number_at p 0 < 2147483648 → p ≡ pos (number_at p 0) ∷ drop 1 p
unfolding number_at
number-cons [] h = let z : ⊥ = omega arith in absurd z
number-cons (pos n ∷ p) h = refl
number-cons (negsuc n ∷ p) h = let z : ⊥ = omega arith in absurd z

-- a number that a word can be
pub word-is : (n : ℕ) → n < 2147483648 → word_of n ≡ pos n
unfolding word_of
word-is n h = rw (lt-ltb n 2147483648 h)

pub word-greatest : (n : ℕ) → 2147483648 ≤ n → word_of n ≡ pos 2147483647
unfolding word_of
word-greatest n h = rw (le-ltb n 2147483648 h)

pub number_word : (n : ℕ) → n < 2147483648 → number_of (word_of n) ≡ n
unfolding word_of
number_word n h = rw (lt-ltb n 2147483648 h)

-- ---- equality

pub eq_z-refl : (a : ℤ) → eq_z a a ≡ true
eq_z-refl (pos n) = eq-eqb n n refl
eq_z-refl (negsuc n) = eq-eqb n n refl

pub eq_z-true : (a b : ℤ) → eq_z a b ≡ true → a ≡ b
eq_z-true (pos a) (pos b) h = ap pos (eqb-true a b h)
eq_z-true (pos a) (negsuc b) h = cc
eq_z-true (negsuc a) (pos b) h = cc
eq_z-true (negsuc a) (negsuc b) h = ap negsuc (eqb-true a b h)

-- ---- copied words

module _ (t : List ℤ) (at : ℕ) where
  pub length-copied : (n : ℕ) (s : List ℤ) → length (copied t at n s) ≡ length s
  unfolding copied
  length-copied zero s = refl
  length-copied (suc n) s = length-set (copied t at n s) (at + n) (word_at t n) ∙ length-copied n s

  -- what is written reads back
  pub copied-in : (n : ℕ) (s : List ℤ) (i : ℕ) → i < n → at + i < length s → word_at (copied t at n s) (at + i) ≡ word_at t i
  unfolding copied
  copied-in zero s i h l = let z : ⊥ = omega arith in absurd z
  copied-in (suc n) s i h l = go (dec_lt i n) (λ y. copied-in n s i y l)
    where
      go : Dec (i < n) → (i < n → word_at (copied t at n s) (at + i) ≡ word_at t i) → word_at (copied t at (suc n) s) (at + i) ≡ word_at t i
      go (yes y) r = get_or-set_other (copied t at n s) (at + n) (at + i) (word_at t n) (pos 0) (λ e. omega arith) ∙ r y
      go (no f) r = let e : i ≡ n = omega arith in rw e (get_or-set_same (copied t at n s) (at + n) (word_at t n) (pos 0) (rw length-copied (omega arith)))

  -- every other word is as it was
  pub copied-out : (n : ℕ) (s : List ℤ) (k : ℕ) → (at ≤ k → at + n ≤ k) → word_at (copied t at n s) k ≡ word_at s k
  unfolding copied
  copied-out zero s k h = refl
  copied-out (suc n) s k h =
      get_or-set_other (copied t at n s) (at + n) k (word_at t n) (pos 0) (λ e. omega (arith, h (omega arith))) ∙ copied-out n s k (λ l. omega (arith, h l))

  -- past the end nothing is stored
  pub copied-past : (n k : ℕ) (s : List ℤ) → length s ≤ at + n → copied t at (n + k) s ≡ copied t at n s
  unfolding copied
  copied-past n zero s h = let e : n + 0 ≡ n = omega arith in rw e
  copied-past n (suc k) s h =
      let e : n + suc k ≡ suc (n + k) = omega arith in
      rw e (set_out (copied t at (n + k) s) (at + (n + k)) (word_at t (n + k)) (rw length-copied (omega arith)) ∙ copied-past n k s h)

-- a list of one zero stands for the empty one
pub cleared-is : (at n : ℕ) (s : List ℤ) → copied (pos 0 ∷ []) at n s ≡ cleared at n s
unfolding copied
cleared-is at zero s = refl
cleared-is at (suc n) s = rw (cleared-is at n s, zero_word n)
  where
    zero_word : (i : ℕ) → word_at (pos 0 ∷ []) i ≡ pos 0
    zero_word zero = refl
    zero_word (suc i) = refl

-- a table of nothing but zeros
pub cleared-all : (s : List ℤ) → cleared 0 (length s) s ≡ replicate (length s) (pos 0)
cleared-all s =
    ext_get_or (pos 0) (cleared 0 (length s) s) (replicate (length s) (pos 0))
    (length-copied [] 0 (length s) s ∙ sym (length-replicate (length s) (pos 0)))
    (λ i h. let l : i < length s = rw (length-copied [] 0 (length s) s) at h in
    let z : 0 + i ≡ i = omega arith in
    rw z at (copied-in [] 0 (length s) s i l (omega arith)) ∙ sym (get_or-replicate (length s) i (pos 0) (pos 0) l))

-- ---- the loop that copies

pub record Copying (s₀ t s : List ℤ) (at n i : ℕ) : Type 0 where
  pub inside : i ≤ n
  pub kept : length s ≡ length s₀
  pub done : s ≡ copied t at i s₀

module _ {s₀ t s : List ℤ} {at n i : ℕ} (inv : Copying s₀ t s at n i) where
  pub copying-stops : length s₀ ≤ at + i → s ≡ copied t at n s₀
  copying-stops h =
      let e : i + (n - i) ≡ n = omega (arith, inv.inside) in
      inv.done ∙ sym (rw e at (copied-past t at i (n - i) s₀ h))

  pub copying-goes-on : {s' : List ℤ} {w : ℤ} → i < n → s' ≡ set s (at + i) w → w ≡ word_at t i → Copying s₀ t s' at n (i + 1)
  unfolding copied
  copying-goes-on l e w = record {
    inside = omega arith;
    kept = ap length e ∙ simp length-set inv.kept;
    done = rw (add-one i) (e ∙ rw (w, inv.done));
  }

  pub copying-ends : n ≤ i → s ≡ copied t at n s₀
  copying-ends h = let e : n ≡ i = omega (arith, inv.inside) in rw e inv.done

pub copying-starts : {s₀ t : List ℤ} {at n : ℕ} → Copying s₀ t s₀ at n 0
unfolding copied
copying-starts = record { inside = omega arith; kept = refl; done = refl }

-- ---- the range of a result

pub ranged-is : (z : ℤ) → ranged z ≡ cond (fits z) (Some z) None
unfolding ranged
ranged-is z = refl
