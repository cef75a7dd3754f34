-- Laws of kept positions. Assumes nothing.
use mathlib.Core.Path.{◌≡◌, refl, ◌∙◌}
use mathlib.Core.Bool.{Bool, true, false}
use mathlib.Core.List.{List}
use Prim.Native.Nat.{ℕ, ◌+◌, ◌-◌, ◌≤◌, ◌<◌}
use native.Mathlib.Omega.{arith}
use borrow.Author.Tests.{lt-ltb, le-ltb, le-leb, ltb-true, ltb-false, eqb-true, eqb-false}
use lib.Dec.{ltb, eqb}
use lib.IntN.{ℤ, pos}
use lib.ListN.{length, set, length-set}
use lib.Seq.{get_or-set_same, get_or-set_other, set-get_or, set-set, set_comm}
use Rattle.words.specs.Words.{word_at, number_at, number_of, word_of}
use Rattle.words.proofs.Laws.{number_word, eq_z-true}
use Rattle.tables.specs.Sizes.{constraints_words}
use Rattle.tables.specs.Search.{first}
use Rattle.tables.specs.Kept.{kept_word, most_kept, first_kept, kept_number, kept_count, position_at, blank_position, is_kept, with_position, without_position}
use Rattle.tables.specs.declared.Sort.{Sort}
use Rattle.tables.specs.declared.Sort.TheVariants.{Values, Identities}
use Rattle.tables.proofs.SearchLaws.{cases, first_passes, first-before}
use Rattle.tables.proofs.WordLaws.{number-of, word-of, number_same}

-- the sizes of both sorts
pub most-small : (s : Sort) → most_kept s ≤ 64
most-small Values = omega arith
most-small Identities = omega arith

pub first_small : (s : Sort) → first_kept s ≤ 66
unfolding first_kept
first_small Values = omega arith
first_small Identities = omega arith

pub sort-words : (s : Sort) → (kept_word s < 2) × ((2 ≤ first_kept s) × (first_kept s + most_kept s ≤ 98))
unfolding kept_word first_kept
sort-words Values = (omega arith, (omega arith, omega arith))
sort-words Identities = (omega arith, (omega arith, omega arith))

-- two sorts have no word in common
pub counts-apart : (t s : Sort) → (t ≡ s → ⊥) → kept_word t ≡ kept_word s → ⊥
unfolding kept_word
counts-apart Values Values n e = n refl
counts-apart Values Identities n e = omega arith
counts-apart Identities Values n e = omega arith
counts-apart Identities Identities n e = n refl

pub rooms-apart : (t s : Sort) → (t ≡ s → ⊥) → (i j : ℕ) → i < most_kept t → j < most_kept s → first_kept t + i ≡ first_kept s + j → ⊥
unfolding first_kept
rooms-apart Values Values n i j a b e = n refl
rooms-apart Values Identities n i j a b e = omega arith
rooms-apart Identities Values n i j a b e = omega arith
rooms-apart Identities Identities n i j a b e = n refl

-- a count that is in its range
pub kept-are : (c : List ℤ) (s : Sort) → kept_number c s ≤ most_kept s → kept_count c s ≡ kept_number c s
unfolding kept_count
kept-are c s h = rw (le-leb (kept_number c s) (most_kept s) h)

-- ---- a position more

module _ (c : List ℤ) (s : Sort) (p : ℕ) where
  pub keep-length : length (with_position c s p) ≡ length c
  unfolding with_position
  keep-length = cases (ltb (kept_count c s) (most_kept s)) (λ e. rw e (simp length-set)) (λ e. rw e)

  pub keep-full : most_kept s ≤ kept_count c s → with_position c s p ≡ c
  unfolding with_position
  keep-full h = rw (le-ltb (kept_count c s) (most_kept s) h)

  -- every word but the two
  pub keep_word : (k : ℕ) → (k ≡ kept_word s → ⊥) → (kept_count c s < most_kept s → k ≡ first_kept s + kept_count c s → ⊥) → word_at (with_position c s p) k ≡ word_at c k
  unfolding with_position
  keep_word k a b = cases (ltb (kept_count c s) (most_kept s))
      (λ e. rw e (get_or-set_other (set c (first_kept s + kept_count c s) (word_of p)) (kept_word s) k (pos (kept_count c s + 1)) (pos 0) a
      ∙ get_or-set_other c (first_kept s + kept_count c s) k (word_of p) (pos 0) (b (ltb-true (kept_count c s) (most_kept s) e))))
      (λ e. rw e)

  pub keep-number : (k : ℕ) → (k ≡ kept_word s → ⊥) → (kept_count c s < most_kept s → k ≡ first_kept s + kept_count c s → ⊥) → number_at (with_position c s p) k ≡ number_at c k
  keep-number k a b = number_same (with_position c s p) c k keep-length (keep_word k a b)

  pub keep-number-other : (t : Sort) → (t ≡ s → ⊥) → kept_number (with_position c s p) t ≡ kept_number c t
  unfolding kept_number
  keep-number-other t n = keep-number (kept_word t) (counts-apart t s n) (λ h e. omega (arith, (sort-words t).0, (sort-words s).1.0))

  pub keep-count-other : (t : Sort) → (t ≡ s → ⊥) → kept_count (with_position c s p) t ≡ kept_count c t
  unfolding kept_count
  keep-count-other t n = rw (keep-number-other t n)

  -- the words for positions after those that are kept, and those of the other sort
  pub keep-blank : (i : ℕ) → kept_count c s < i → blank_position (with_position c s p) s i ≡ blank_position c s i
  unfolding blank_position
  keep-blank i l = rw (keep_word (first_kept s + i) (λ q. omega (arith, (sort-words s).0, (sort-words s).1.0)) (λ h q. omega arith))

  pub keep-blank-other : (t : Sort) (i : ℕ) → (t ≡ s → ⊥) → i < most_kept t → blank_position (with_position c s p) t i ≡ blank_position c t i
  unfolding blank_position
  keep-blank-other t i n l = rw (keep_word (first_kept t + i) (λ e. omega (arith, (sort-words s).0, (sort-words t).1.0)) (λ h e. rooms-apart t s n i (kept_count c s) l h e))

  pub keep-old : (i : ℕ) → i < kept_count c s → position_at (with_position c s p) s i ≡ position_at c s i
  unfolding position_at
  keep-old i h = rw (keep-number (first_kept s + i) (λ e. omega (arith, (sort-words s).0, (sort-words s).1.0)) (λ l e. omega arith))

  pub keep-position-other : (t : Sort) (i : ℕ) → (t ≡ s → ⊥) → position_at (with_position c s p) t i ≡ position_at c t i
  unfolding position_at
  keep-position-other t i n = cases (ltb i (most_kept t))
      (λ e. rw (e, keep-number (first_kept t + i) (λ q. omega (arith, (sort-words s).0, (sort-words t).1.0)) (λ l q. rooms-apart t s n i (kept_count c s) (ltb-true i (most_kept t) e) l q)))
      (λ e. rw e)

  -- ---- where there is room for it

  module _ (long : length c ≡ constraints_words) (room : kept_count c s < most_kept s) where
    kept_more : with_position c s p ≡ set (set c (first_kept s + kept_count c s) (word_of p)) (kept_word s) (pos (kept_count c s + 1))
    unfolding with_position
    kept_more = rw (lt-ltb (kept_count c s) (most_kept s) room)

    pub keep-count-word : word_at (with_position c s p) (kept_word s) ≡ pos (kept_count c s + 1)
    keep-count-word = rw kept_more
        (get_or-set_same (set c (first_kept s + kept_count c s) (word_of p)) (kept_word s) (pos (kept_count c s + 1)) (pos 0) (simp length-set (omega (arith, (sort-words s).0))))

    pub keep-new-word : word_at (with_position c s p) (first_kept s + kept_count c s) ≡ word_of p
    keep-new-word = rw kept_more
        (get_or-set_other (set c (first_kept s + kept_count c s) (word_of p)) (kept_word s) (first_kept s + kept_count c s) (pos (kept_count c s + 1)) (pos 0) (λ e. omega (arith, (sort-words s).0, (sort-words s).1.0))
        ∙ get_or-set_same c (first_kept s + kept_count c s) (word_of p) (pos 0) (omega (arith, (sort-words s).1.1)))

    number-of-word : (k : ℕ) (z : ℤ) → k < 98 → word_at (with_position c s p) k ≡ z → number_at (with_position c s p) k ≡ number_of z
    number-of-word k z l e = number-of (with_position c s p) k z (rw keep-length (omega arith)) e

    pub keep-written : kept_number (with_position c s p) s ≡ kept_count c s + 1
    unfolding kept_number
    keep-written = number-of-word (kept_word s) (pos (kept_count c s + 1)) (omega (arith, (sort-words s).0)) keep-count-word

    pub keep-count : kept_count (with_position c s p) s ≡ kept_count c s + 1
    unfolding kept_count
    keep-count = rw (keep-written, le-leb (kept_count c s + 1) (most_kept s) (omega arith))

    pub keep-new : p < 2147483648 → position_at (with_position c s p) s (kept_count c s) ≡ p
    unfolding position_at
    keep-new h =
        rw (lt-ltb (kept_count c s) (most_kept s) room)
        (number-of-word (first_kept s + kept_count c s) (word_of p) (omega (arith, (sort-words s).1.1)) keep-new-word ∙ number_word p h)

    -- and a position less: the table as it was
    pub keep-unkeep : blank_position c s (kept_count c s) ≡ true → kept_number c s ≡ kept_count c s → without_position (with_position c s p) s ≡ c
    unfolding without_position blank_position kept_number
    keep-unkeep blank written =
        let a : word_at c (first_kept s + kept_count c s) ≡ pos 0 = eq_z-true (word_at c (first_kept s + kept_count c s)) (pos 0) blank in
        let b : word_at c (kept_word s) ≡ pos (kept_count c s) = word-of c (kept_word s) (kept_count c s) (omega (arith, (sort-words s).0)) written (omega (arith, room, most-small s)) in
        let k = kept_count c s in
        let e : k + 1 - 1 ≡ k = omega arith in
        let n : kept_word s ≡ first_kept s + k → ⊥ = λ q. omega (arith, (sort-words s).0, (sort-words s).1.0) in
        let u : set c (first_kept s + k) (pos 0) ≡ c = rw a at (set-get_or c (first_kept s + k) (pos 0)) in
        let v : set c (kept_word s) (pos k) ≡ c = rw b at (set-get_or c (kept_word s) (pos 0)) in
        rw (
          keep-count,
          lt-ltb 0 (k + 1) (omega arith),
          e,
          kept_more,
          set_comm (set c (first_kept s + k) (word_of p)) (kept_word s) (first_kept s + k) (pos (k + 1)) (pos 0) n,
          set-set c (first_kept s + k) (word_of p) (pos 0),
          u,
          set-set c (kept_word s) (pos (k + 1)) (pos k),
        ) v

pub unkeep-length : (c : List ℤ) (s : Sort) → length (without_position c s) ≡ length c
unfolding without_position
unkeep-length c s = cases (ltb 0 (kept_count c s)) (λ e. rw e (simp length-set)) (λ e. rw e)

-- ---- constraints that are all zero

module _ (c : List ℤ) (s : Sort) (zero : (k : ℕ) → word_at c k ≡ pos 0) where
  pub zero-kept : length c ≡ constraints_words → kept_number c s ≡ 0
  unfolding kept_number
  zero-kept long = number-of c (kept_word s) (pos 0) (omega (arith, (sort-words s).0)) (zero (kept_word s))

  pub zero-position : (i : ℕ) → blank_position c s i ≡ true
  unfolding blank_position
  zero-position i = rw (zero (first_kept s + i))

-- ---- which positions are kept

pub record KeptAt (c : List ℤ) (s : Sort) (p : ℕ) : Type 0 where
  pub number : ℕ
  pub below : number < kept_count c s
  pub is : position_at c s number ≡ p

module _ (c : List ℤ) (s : Sort) (p : ℕ) where
  abbrev test : ℕ → Bool
  test i = eqb (position_at c s i) p

  pub kept-is : is_kept c s p ≡ true → KeptAt c s p
  unfolding is_kept
  kept-is e =
      let l : first test 0 (kept_count c s) < kept_count c s = ltb-true (first test 0 (kept_count c s)) (kept_count c s) e in
      record {
        number = first test 0 (kept_count c s);
        below = l;
        is = eqb-true (position_at c s (first test 0 (kept_count c s))) p (first_passes test 0 (kept_count c s) (omega arith));
      }

  pub kept-not : is_kept c s p ≡ false → (i : ℕ) → i < kept_count c s → position_at c s i ≡ p → ⊥
  unfolding is_kept
  kept-not e i h q =
      let l : kept_count c s ≤ first test 0 (kept_count c s) = ltb-false (first test 0 (kept_count c s)) (kept_count c s) e in
      eqb-false (position_at c s i) p (first-before test 0 (kept_count c s) i (omega arith) (omega arith)) q

  pub kept_here : (i : ℕ) → i < kept_count c s → position_at c s i ≡ p → is_kept c s p ≡ true
  kept_here i h q = cases (is_kept c s p) (λ e. e) (λ e. absurd (kept-not e i h q))
