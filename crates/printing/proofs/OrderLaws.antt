-- Where no number is at fault, variables and labels appear in order. Assumes nothing.
use mathlib.Core.Path.{◌≡◌, refl, sym, ap, ◌∙◌}
use mathlib.Core.Bool.{true}
use mathlib.Core.List.{List, [], ◌∷◌}
use Prim.Native.Nat.{ℕ, zero, suc, ◌+◌, ◌≤◌, ◌<◌}
use native.Mathlib.Nat.{zero-add}
use native.Mathlib.Omega.{arith}
use borrow.Author.Tests.{ltb-true, ltb-false, lt-ltb}
use lib.Dec.{ltb}
use lib.IntN.{ℤ}
use lib.ListN.{length, get_or, replicate, get_or-replicate}
use Rattle.words.specs.Answer.{got}
use Rattle.tables.specs.Sizes.{labels}
use Rattle.tables.proofs.SearchLaws.{cases}
use Rattle.program.specs.Reading.{read_program}
use Rattle.printing.specs.Signs.{Sign}
use Rattle.printing.specs.Printing.{program_text}
use Rattle.printing.specs.Naming.{Naming, numbers, first_label, is_given, given_name, name_of, numbers_of, is_led, noted, noted_all}
use Rattle.printing.specs.Faults.{is_name, is_part, used_from}
use Rattle.printing.specs.Whole.{standings, first_fault}
use Rattle.printing.specs.Spaced.{InOrder, variables_of, labels_of}
use Rattle.printing.specs.Claims.{OfOneSort, Had, AtFault}
use Rattle.printing.proofs.BoundLaws.{Bounded, program-bounded}
use Rattle.printing.proofs.StandingLaws.{Led, is-led, noted-kept, noted_other, noted-length, noted-there, first-standing}
use Rattle.printing.proofs.FaultsExactly.{faults-exactly, stands-used, stands-early}

-- ---- how many of a sort are used

-- the first k of a sort are used, and no others; its numbers are those from base on, of which there are count
pub record FirstUsed (seen : List ℕ) (base count k : ℕ) : Type 0 where
  pub most : k ≤ count
  pub used : (j : ℕ) → base ≤ j → j < base + k → 0 < get_or seen j 0
  pub unused : (j : ℕ) → base + k ≤ j → j < base + count → get_or seen j 0 ≡ 0

pub used-few : (seen : List ℕ) (i n : ℕ) → used_from seen i n ≤ n
unfolding used_from
used-few seen i zero = omega arith
used-few seen i (suc n) = cases (ltb 0 (get_or seen i 0)) (λ e. rw e (omega (arith, used-few seen (suc i) n))) (λ e. rw e (omega (arith, used-few seen (suc i) n)))

used-count : (seen : List ℕ) (base count k : ℕ) → FirstUsed seen base count k → used_from seen base count ≡ k
unfolding used_from
used-count seen base zero k f = omega (arith, f.most)
used-count seen base (suc n) zero f =
    rw (f.unused base (omega arith) (omega arith))
    (used-count seen (suc base) n zero (record { most = omega arith; used = λ j a b. absurd (omega arith); unused = λ j a b. f.unused j (omega arith) (omega arith) }))
used-count seen base (suc n) (suc k) f =
    rw (lt-ltb 0 (get_or seen base 0) (f.used base (omega arith) (omega arith)))
    (ap suc
    (used-count seen (suc base) n k
    (record { most = omega (arith, f.most); used = λ j a b. f.used j (omega arith) (omega arith); unused = λ j a b. f.unused j (omega arith) (omega arith) })))

-- ---- the numbers of a sort among others, each by its own number

pub data Picked (base count : ℕ) : List ℕ → List ℕ → Type 0 where
  none : Picked base count [] []
  mine : {i x : ℕ} {is xs : List ℕ} → i ≡ base + x → x < count → Picked base count is xs → Picked base count (i ∷ is) (x ∷ xs)
  other : {i : ℕ} {is xs : List ℕ} → (base ≤ i → i < base + count → ⊥) → Picked base count is xs → Picked base count (i ∷ is) xs

pub record Ordered (seen : List ℕ) (base count k : ℕ) (is xs : List ℕ) : Type 0 where
  pub number : ℕ
  pub order : InOrder k xs number
  pub first : FirstUsed (noted_all seen is) base count number

module _ (base count : ℕ) (few : base + count ≤ numbers) (lone : base ≤ first_label → first_label < base + count → base ≡ first_label) where
  led-there : (seen : List ℕ) (i : ℕ) (is : List ℕ) → get_or seen i 0 ≡ 0 → i < length seen → (get_or (noted_all seen (i ∷ is)) i 0 ≡ 2 → ⊥) → Led seen [] i
  led-there seen i is z l n = cases (is_led seen i) (λ y. is-led seen i [] y) (λ y. absurd (n (first-standing seen i is z l ∙ rw y)))

  -- one that is not used yet appears behind those that are, as it is led
  next-led : (seen : List ℕ) {k x : ℕ} → FirstUsed seen base count k → k ≤ x → x < count → Led seen [] (base + x) → x ≡ k
  next-led seen f a b (Led.first e) = omega arith
  next-led seen {x = x} f a b (Led.label e) = let z : base ≡ first_label = lone (omega arith) (omega arith) in omega arith
  next-led seen {k} {x} f a b (Led.behind {j = j} e h) =
      cases (ltb k x)
      (λ y. let l : k < x = ltb-true k x y in let z : get_or seen j 0 ≡ 0 = f.unused j (omega arith) (omega arith) in absurd (omega arith))
      (λ y. let l : x ≤ k = ltb-false k x y in omega arith)
  next-led seen f a b (Led.earlier e x) = elim (x) [ ]

  other-on : (seen : List ℕ) {k i : ℕ} → (base ≤ i → i < base + count → ⊥) → FirstUsed seen base count k → FirstUsed (noted seen i) base count k
  other-on seen {k} {i} n f =
      record {
        most = f.most;
        used = λ j a b. rw (noted_other seen i j (λ e. n (omega arith) (omega (arith, f.most)))) (f.used j a b);
        unused = λ j a b. rw (noted_other seen i j (λ e. n (omega arith) (omega arith))) (f.unused j a b);
      }

  new-on : (seen : List ℕ) {k : ℕ} → length seen ≡ numbers → k < count → FirstUsed seen base count k → FirstUsed (noted seen (base + k)) base count (suc k)
  new-on seen {k} l h f =
      record {
        most = omega arith;
        used = λ j a b.
            cases (ltb j (base + k))
            (λ y. let m : j < base + k = ltb-true j (base + k) y in rw (noted_other seen (base + k) j (λ e. omega arith)) (f.used j a m))
            (λ y. let e : j ≡ base + k = omega (arith, ltb-false j (base + k) y) in rw e (noted-there seen (base + k) (omega arith)));
        unused = λ j a b. rw (noted_other seen (base + k) j (λ e. omega arith)) (f.unused j (omega arith) b);
      }

  -- a number more at the front
  ordered-other : {seen : List ℕ} {k i : ℕ} {is xs : List ℕ} → Ordered (noted seen i) base count k is xs → Ordered seen base count k (i ∷ is) xs
  unfolding noted_all
  ordered-other o = record { number = o.number; order = o.order; first = o.first }

  ordered-old : {seen : List ℕ} {k x i : ℕ} {is xs : List ℕ} → noted seen i ≡ seen → x < k → Ordered seen base count k is xs → Ordered seen base count k (i ∷ is) (x ∷ xs)
  unfolding noted_all
  ordered-old q m o = record { number = o.number; order = InOrder.old m o.order; first = rw q o.first }

  ordered-new : {seen : List ℕ} {k x i : ℕ} {is xs : List ℕ} → x ≡ k → Ordered (noted seen i) base count (suc k) is xs → Ordered seen base count k (i ∷ is) (x ∷ xs)
  unfolding noted_all
  ordered-new e o = record { number = o.number; order = rw e (InOrder.new o.order); first = o.first }

  order_from : (seen : List ℕ) {k : ℕ} {is xs : List ℕ} → length seen ≡ numbers → FirstUsed seen base count k → Picked base count is xs
      → ((j : ℕ) → base ≤ j → j < base + count → get_or (noted_all seen is) j 0 ≡ 2 → ⊥) → Ordered seen base count k is xs
  unfolding noted_all
  order_from seen {k} l f Picked.none clean = record { number = k; order = InOrder.none; first = f }
  order_from seen l f (Picked.other {i = i} n r) clean = ordered-other (order_from (noted seen i) (noted-length seen i ∙ l) (other-on seen n f) r clean)
  order_from seen {k} l f (Picked.mine {i = i} {x = x} {is = is} e h r) clean =
      cases (ltb x k)
      (λ y. let m : x < k = ltb-true x k y in
      let q : noted seen i ≡ seen = noted-kept seen i (f.used i (omega arith) (omega arith)) in
      ordered-old q m (order_from seen l f r (rw q at clean)))
      (λ y. let m : k ≤ x = ltb-false x k y in
      let z : get_or seen i 0 ≡ 0 = f.unused i (omega arith) (omega arith) in
      let s : x ≡ k = next-led seen f m h (rw (← e) (led-there seen i is z (omega arith) (clean i (omega arith) (omega arith)))) in
      let t : i ≡ base + k = omega arith in
      ordered-new s (order_from (noted seen i) (noted-length seen i ∙ l) (rw t (new-on seen l (omega arith) f)) r clean))

-- ---- the variables and the labels that signs use

variables-picked : {ss : List Sign} → Bounded ss → Picked 0 first_label (numbers_of ss) (variables_of ss)
variables-picked Bounded.none = Picked.none
variables-picked (Bounded.blank b) = variables-picked b
variables-picked (Bounded.fixed b) = variables-picked b
variables-picked (Bounded.integer b) = variables-picked b
variables-picked (Bounded.variable {x = x} h b) = Picked.mine {i = x} {x = x} (omega arith) h (variables-picked b)
variables-picked (Bounded.label {l = l} h b) = Picked.other (λ x (y : first_label + l < 0 + first_label). omega arith) (variables-picked b)

labels-picked : {ss : List Sign} → Bounded ss → Picked first_label labels (numbers_of ss) (labels_of ss)
labels-picked Bounded.none = Picked.none
labels-picked (Bounded.blank b) = labels-picked b
labels-picked (Bounded.fixed b) = labels-picked b
labels-picked (Bounded.integer b) = labels-picked b
labels-picked (Bounded.variable {x = x} h b) = Picked.other (λ (y : first_label ≤ x) z. omega arith) (labels-picked b)
labels-picked (Bounded.label h b) = Picked.mine refl h (labels-picked b)

-- ---- where no number is at fault

module _ (N : Naming) (p : List ℤ) (reads : read_program p ≡ got tt) (fit : first_fault N p ≡ numbers) where
  no-fault : (i : ℕ) → i < numbers → AtFault N p i → ⊥
  no-fault i h a = (faults-exactly N p reads).before i (rw fit h) a

  -- a given name is a part of the source, and a name
  pub given-fit : (i : ℕ) → i < numbers → is_given N i ≡ true → (is_part N i ≡ true) × (is_name (given_name N i) ≡ true)
  given-fit i h g = (
    cases (is_part N i) (λ y. y) (λ y. absurd (no-fault i h (AtFault.outside g y))),
    cases (is_name (given_name N i)) (λ y. y) (λ y. absurd (no-fault i h (AtFault.unnamed g y))),
  )

  module _ (base count : ℕ) (few : base + count ≤ numbers) (sort : (i j : ℕ) → base ≤ i → i < base + count → base ≤ j → j < base + count → OfOneSort i j) where
    lone : base ≤ first_label → first_label < base + count → base ≡ first_label
    lone a b = parted (sort base first_label (omega arith) (omega arith) a b)
      where
        parted : OfOneSort base first_label → base ≡ first_label
        parted (OfOneSort.both_variables x y) = absurd (omega arith)
        parted (OfOneSort.both_labels x y) = omega arith

    module _ {xs : List ℕ} (r : Picked base count (numbers_of (program_text p)) xs) where
      ordered : Ordered (replicate numbers 0) base count 0 (numbers_of (program_text p)) xs
      unfolding standings
      ordered =
          order_from base count few lone (replicate numbers 0) refl
          (record { most = omega arith; used = λ j a b. absurd (omega arith); unused = λ j a b. get_or-replicate numbers j 0 0 (omega arith) })
          r (λ j a b s. no-fault j (omega arith) (stands-early p j (omega arith) N s))

      all-counted : used_from (standings p) base count ≡ ordered.number
      unfolding standings
      all-counted = used-count (standings p) base count ordered.number ordered.first

      first : FirstUsed (standings p) base count (used_from (standings p) base count)
      unfolding standings
      first = rw all-counted ordered.first

      sort-in-order : InOrder 0 xs (used_from (standings p) base count)
      sort-in-order = rw all-counted ordered.order

      sort-had : (i : ℕ) → base ≤ i → i < base + used_from (standings p) base count → Had N p i
      sort-had i a b = Had.used (stands-used p i (omega (arith, first.most)) (first.used i a b))

      sort-twin : (i j : ℕ) → base ≤ j → j < i → i < base + used_from (standings p) base count → name_of N i ≡ name_of N j → ⊥
      sort-twin i j a b c e =
          let m : used_from (standings p) base count ≤ count = first.most in
          no-fault i (omega arith)
          (AtFault.twin (sort-had i (omega arith) c) b (sort i j (omega arith) (omega arith) a (omega arith)) (sort-had j a (omega arith)) e)

      -- different numbers have different names
      sort-apart : (i j : ℕ) → i < used_from (standings p) base count → j < used_from (standings p) base count → name_of N (base + i) ≡ name_of N (base + j) → i ≡ j
      sort-apart i j a b e =
          cases (ltb i j)
          (λ y. absurd (sort-twin (base + j) (base + i) (omega arith) (omega (arith, ltb-true i j y)) (omega arith) (sym e)))
          (λ y. cases (ltb j i)
          (λ z. absurd (sort-twin (base + i) (base + j) (omega arith) (omega (arith, ltb-true j i z)) (omega arith) e))
          (λ z. omega (arith, ltb-false i j y, ltb-false j i z)))

-- ---- both sorts

variables-sort : (i j : ℕ) → 0 ≤ i → i < 0 + first_label → 0 ≤ j → j < 0 + first_label → OfOneSort i j
variables-sort i j a b c d = OfOneSort.both_variables b d

labels-sort : (i j : ℕ) → first_label ≤ i → i < first_label + labels → first_label ≤ j → j < first_label + labels → OfOneSort i j
labels-sort i j a b c d = OfOneSort.both_labels a c

module _ (N : Naming) (p : List ℤ) (reads : read_program p ≡ got tt) (fit : first_fault N p ≡ numbers) where
  variables-here : Picked 0 first_label (numbers_of (program_text p)) (variables_of (program_text p))
  variables-here = variables-picked (program-bounded p reads)

  labels-here : Picked first_label labels (numbers_of (program_text p)) (labels_of (program_text p))
  labels-here = labels-picked (program-bounded p reads)

  pub variables-in-order : InOrder 0 (variables_of (program_text p)) (used_from (standings p) 0 first_label)
  variables-in-order = sort-in-order N p reads fit 0 first_label (omega arith) variables-sort variables-here

  pub labels-in-order : InOrder 0 (labels_of (program_text p)) (used_from (standings p) first_label labels)
  labels-in-order = sort-in-order N p reads fit first_label labels (omega arith) labels-sort labels-here

  pub variables-apart : (i j : ℕ) → i < used_from (standings p) 0 first_label → j < used_from (standings p) 0 first_label → name_of N i ≡ name_of N j → i ≡ j
  variables-apart i j a b e = sort-apart N p reads fit 0 first_label (omega arith) variables-sort variables-here i j a b (rw (zero-add i, zero-add j) e)

  pub labels_apart : (i j : ℕ) → i < used_from (standings p) first_label labels → j < used_from (standings p) first_label labels
      → name_of N (first_label + i) ≡ name_of N (first_label + j) → i ≡ j
  labels_apart i j a b e = sort-apart N p reads fit first_label labels (omega arith) labels-sort labels-here i j a b e
