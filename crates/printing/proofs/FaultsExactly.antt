-- The number that is found at fault first is the one that the readings name. Assumes nothing.
use mathlib.Core.Path.{◌≡◌, refl, sym, ◌∙◌}
use mathlib.Core.Bool.{Bool, true, false, not, cond, true≢false, ◌&&◌, ◌||◌}
use mathlib.Core.List.{List}
use Prim.Native.Nat.{ℕ, zero, suc, ◌+◌, ◌-◌, ◌≤◌, ◌<◌}
use native.Mathlib.Omega.{arith}
use borrow.Author.Tests.{ltb-true, ltb-false, lt-ltb, le-ltb, eqb-true, eqb-false, eq-eqb, not-true}
use lib.Dec.{eqb, ltb}
use lib.IntN.{ℤ}
use lib.ListN.{get_or, replicate, get_or-replicate}
use Rattle.tables.proofs.SearchLaws.{cases, and_left, and_right, and-true, and-false}
use Rattle.tokens.specs.Bytes.{spelt}
use Rattle.tokens.proofs.ByteLaws.{spelt-self, spelt-same}
use Rattle.printing.specs.Printing.{program_text}
use Rattle.printing.specs.Naming.{Naming, numbers, first_label, is_given, given_name, name_of, numbers_of}
use Rattle.printing.specs.Faults.{is_name, is_part, is_fit, is_had, twin_from, has_twin, at_fault, fault_from}
use Rattle.printing.specs.Whole.{standings, first_fault}
use Rattle.printing.specs.Claims.{Used, Earlier, OfOneSort, Had, AtFault, FaultsExactly}
use Rattle.printing.proofs.StandingLaws.{or_right, Led, standing, used-there, used-or-not, all-unused}

or-either : {X : Type 0} (a b : Bool) → a || b ≡ true → (a ≡ true → X) → (b ≡ true → X) → X
or-either true b e f g = f refl
or-either false b e f g = g e

or_left : (a b : Bool) → a ≡ true → a || b ≡ true
or_left a b e = rw e

-- ---- the standings of a program

module _ (p : List ℤ) (i : ℕ) (h : i < numbers) where
  pub used-stands : Used i (numbers_of (program_text p)) → 0 < get_or (standings p) i 0
  unfolding standings
  used-stands u = used-there (replicate numbers 0) h u

  pub stands-used : 0 < get_or (standings p) i 0 → Used i (numbers_of (program_text p))
  unfolding standings
  stands-used s = go (used-or-not i (numbers_of (program_text p)))
    where
      go : Dec (Used i (numbers_of (program_text p))) → Used i (numbers_of (program_text p))
      go (yes u) = u
      go (no n) =
          absurd
          (let z : get_or (standings p) i 0 ≡ 0 = all-unused (replicate numbers 0) (numbers_of (program_text p)) i n ∙ get_or-replicate numbers i 0 0 h in omega arith)

  early-stands : {j : ℕ} → Used i (numbers_of (program_text p)) → i ≡ suc j → OfOneSort i j → (Earlier j i (numbers_of (program_text p)) → ⊥) → get_or (standings p) i 0 ≡ 2
  unfolding standings
  early-stands {j} u e s n = (standing (replicate numbers 0) (get_or-replicate numbers i 0 0 h) h u).unled (λ l. unled s l)
    where
      unled : OfOneSort i j → Led (replicate numbers 0) (numbers_of (program_text p)) i → ⊥
      unled t (Led.first q) = omega arith
      unled (OfOneSort.both_variables a b) (Led.label q) = omega arith
      unled (OfOneSort.both_labels a b) (Led.label q) = omega arith
      unled t (Led.behind {j = k} q y) = let z : k < numbers = omega arith in omega (arith, get_or-replicate {A = ℕ} numbers k 0 0 z)
      unled t (Led.earlier {j = k} q y) = let z : k ≡ j = omega arith in n (rw z at y)

  pub stands-early : (N : Naming) → get_or (standings p) i 0 ≡ 2 → AtFault N p i
  unfolding standings
  stands-early N s = AtFault.early {j = i - 1} u next sort (λ x. unled (Led.earlier next x))
    where
      u : Used i (numbers_of (program_text p))
      u = stands-used (omega arith)

      unled : Led (replicate numbers 0) (numbers_of (program_text p)) i → ⊥
      unled l = let z : get_or (standings p) i 0 ≡ 1 = (standing (replicate numbers 0) (get_or-replicate numbers i 0 0 h) h u).led l in omega arith

      next : i ≡ suc (i - 1)
      next = cases (eqb i 0) (λ e. absurd (unled (Led.first (eqb-true i 0 e)))) (λ e. omega (arith, eqb-false i 0 e))

      sort : OfOneSort i (i - 1)
      sort = cases (ltb i first_label)
          (λ e. let a : i < first_label = ltb-true i first_label e in OfOneSort.both_variables a (omega arith))
          (λ e. let a : first_label ≤ i = ltb-false i first_label e in
          cases (eqb i first_label)
          (λ f. absurd (unled (Led.label (eqb-true i first_label f))))
          (λ f. OfOneSort.both_labels a (omega (arith, eqb-false i first_label f))))

-- ---- what is given or used

module _ (N : Naming) (p : List ℤ) (i : ℕ) (h : i < numbers) where
  is-had : is_had N.names (standings p) i ≡ true → Had N p i
  unfolding is_had
  is-had e =
      or-either (is_given N i) (ltb 0 (get_or (standings p) i 0)) e
      (λ g. Had.given g) (λ u. Had.used (stands-used p i h (ltb-true 0 (get_or (standings p) i 0) u)))

  had-is : Had N p i → is_had N.names (standings p) i ≡ true
  unfolding is_had
  had-is (Had.given g) = or_left (is_given N i) (ltb 0 (get_or (standings p) i 0)) g
  had-is (Had.used u) = or_right (is_given N i) (ltb 0 (get_or (standings p) i 0)) (lt-ltb 0 (get_or (standings p) i 0) (used-stands p i h u))

-- ---- twins

module _ (N : Naming) (seen : List ℕ) (i : ℕ) where
  abbrev alike : ℕ → Bool
  alike j = is_had N.names seen j && spelt (name_of N i) (name_of N j)

  record Twin (low high : ℕ) : Type 0 where
    number : ℕ
    least : low ≤ number
    most : number < high
    had : is_had N.names seen number ≡ true
    same : name_of N i ≡ name_of N number

  twin-found : (j n : ℕ) → twin_from N seen i j n ≡ true → Twin j (j + n)
  unfolding twin_from
  twin-found j zero e = absurd (true≢false (sym e))
  twin-found j (suc n) e =
      cases (alike j)
      (λ y. record {
        number = j;
        least = omega arith;
        most = omega arith;
        had = and_left (is_had N.names seen j) (spelt (name_of N i) (name_of N j)) y;
        same = spelt-same (name_of N i) (name_of N j) (and_right (is_had N.names seen j) (spelt (name_of N i) (name_of N j)) y);
      })
      (λ y. let t : Twin (suc j) (suc j + n) = twin-found (suc j) n (rw y at e) in
      record { number = t.number; least = omega (arith, t.least); most = omega (arith, t.most); had = t.had; same = t.same })

  twin-finds : (j n k : ℕ) → j ≤ k → k < j + n → is_had N.names seen k ≡ true → name_of N i ≡ name_of N k → twin_from N seen i j n ≡ true
  unfolding twin_from
  twin-finds j zero k a b h s = absurd (omega arith)
  twin-finds j (suc n) k a b h s =
      cases (alike j)
      (λ y. rw y)
      (λ y. rw y (twin-finds (suc j) n k (later y) (omega arith) h s))
    where
      later : alike j ≡ false → suc j ≤ k
      later y =
          cases (ltb j k)
          (λ l. ltb-true j k l)
          (λ l. let e : j ≡ k = omega (arith, ltb-false j k l) in
          absurd (true≢false (sym (and-true (is_had N.names seen j) (spelt (name_of N i) (name_of N j)) (rw e h) (rw (e, ← s) (spelt-self (name_of N i)))) ∙ y)))

module _ (N : Naming) (p : List ℤ) (i : ℕ) (h : i < numbers) where
  abbrev twins : Bool
  twins = cond (ltb i first_label) (twin_from N (standings p) i 0 i) (twin_from N (standings p) i first_label (i - first_label))

  from-twin : (low n : ℕ) → low + n ≡ i → ((j : ℕ) → low ≤ j → j < i → OfOneSort i j) → Had N p i → twin_from N (standings p) i low n ≡ true → AtFault N p i
  from-twin low n q sort had e = go (twin-found N (standings p) i low n e)
    where
      go : Twin N (standings p) i low (low + n) → AtFault N p i
      go t =
          let l : t.number < i = omega (arith, t.most) in
          AtFault.twin had l (sort t.number t.least l) (is-had N p t.number (omega arith) t.had) t.same

  twin-at : has_twin N (standings p) i ≡ true → AtFault N p i
  unfolding has_twin
  twin-at e =
      let had : Had N p i = is-had N p i h (and_left (is_had N.names (standings p) i) twins e) in
      let t : twins ≡ true = and_right (is_had N.names (standings p) i) twins e in
      cases (ltb i first_label)
      (λ y. let l : i < first_label = ltb-true i first_label y in
      from-twin 0 i (omega arith) (λ j a b. let m : j < first_label = omega arith in OfOneSort.both_variables l m) had (rw y at t))
      (λ y. let l : first_label ≤ i = ltb-false i first_label y in from-twin first_label (i - first_label) (omega arith) (λ j a b. OfOneSort.both_labels l a) had (rw y at t))

  at-twin : {j : ℕ} → Had N p i → j < i → OfOneSort i j → Had N p j → name_of N i ≡ name_of N j → has_twin N (standings p) i ≡ true
  unfolding has_twin
  at-twin {j} a l s b e = and-true (is_had N.names (standings p) i) twins (had-is N p i h a) (go s)
    where
      go : OfOneSort i j → twins ≡ true
      go (OfOneSort.both_variables x y) = rw (lt-ltb i first_label x) (twin-finds N (standings p) i 0 i j (omega arith) (omega arith) (had-is N p j (omega arith) b) e)
      go (OfOneSort.both_labels x y) = rw (le-ltb i first_label x) (twin-finds N (standings p) i first_label (i - first_label) j y (omega arith) (had-is N p j (omega arith) b) e)

  -- ---- faults

  unfit : is_fit N i ≡ false → AtFault N p i
  unfolding is_fit
  unfit e =
      cases (is_given N i)
      (λ g. cases (is_part N i) (λ a. AtFault.unnamed g (rw (g, a) at e)) (λ a. AtFault.outside g a))
      (λ g. absurd (true≢false (rw g at e)))

  found_at : at_fault N (standings p) i ≡ true → AtFault N p i
  unfolding at_fault
  found_at e =
      or-either (not (is_fit N i) || eqb (get_or (standings p) i 0) 2) (has_twin N (standings p) i) e
      (λ a. or-either (not (is_fit N i)) (eqb (get_or (standings p) i 0) 2) a
      (λ b. unfit (not-true (is_fit N i) b))
      (λ b. stands-early p i h N (eqb-true (get_or (standings p) i 0) 2 b)))
      (λ a. twin-at a)

  unfit-found : is_fit N i ≡ false → at_fault N (standings p) i ≡ true
  unfolding at_fault
  unfit-found e = rw e

  at-found : AtFault N p i → at_fault N (standings p) i ≡ true
  unfolding at_fault is_fit
  at-found (AtFault.outside g a) = unfit-found (rw (g, a))
  at-found (AtFault.unnamed g a) = unfit-found (rw g (and-false (is_part N i) (is_name (given_name N i)) a))
  at-found (AtFault.twin a l s b e) = or_right (not (is_fit N i) || eqb (get_or (standings p) i 0) 2) (has_twin N (standings p) i) (at-twin a l s b e)
  at-found (AtFault.early u e s n) =
      or_left (not (is_fit N i) || eqb (get_or (standings p) i 0) 2) (has_twin N (standings p) i)
      (or_right (not (is_fit N i)) (eqb (get_or (standings p) i 0) 2) (eq-eqb (get_or (standings p) i 0) 2 (early-stands p i h u e s n)))

-- ---- the first of them

module _ (N : Naming) (seen : List ℕ) where
  fault-least : (i n : ℕ) → i ≤ fault_from N seen i n
  unfolding fault_from
  fault-least i zero = omega arith
  fault-least i (suc n) = cases (at_fault N seen i) (λ e. rw e (omega arith)) (λ e. rw e (omega (arith, fault-least (suc i) n)))

  fault-most : (i n : ℕ) → fault_from N seen i n ≤ i + n
  unfolding fault_from
  fault-most i zero = omega arith
  fault-most i (suc n) = cases (at_fault N seen i) (λ e. rw e (omega arith)) (λ e. rw e (omega (arith, fault-most (suc i) n)))

  fault-before : (i n j : ℕ) → i ≤ j → j < fault_from N seen i n → at_fault N seen j ≡ false
  unfolding fault_from
  fault-before i zero j a b = absurd (omega arith)
  fault-before i (suc n) j a b =
      cases (at_fault N seen i)
      (λ e. absurd (let z : j < i = rw e at b in omega arith))
      (λ e. cases (eqb i j)
      (λ q. rw (← eqb-true i j q) e)
      (λ q. fault-before (suc i) n j (omega (arith, eqb-false i j q)) (rw e at b)))

  fault-there : (i n : ℕ) → fault_from N seen i n < i + n → at_fault N seen (fault_from N seen i n) ≡ true
  unfolding fault_from
  fault-there i zero h = absurd (omega arith)
  fault-there i (suc n) h =
      cases (at_fault N seen i)
      (λ e. rw e e)
      (λ e. rw e (fault-there (suc i) n (let z : fault_from N seen (suc i) n < i + suc n = rw e at h in omega arith)))

pub faults-exactly : FaultsExactly
unfolding first_fault
faults-exactly N p r =
    record {
      before = λ j l a. true≢false (sym (at-found N p j (omega (arith, fault-most N (standings p) 0 numbers)) a) ∙ fault-before N (standings p) 0 numbers j (omega arith) l);
      most = omega (arith, fault-most N (standings p) 0 numbers);
      there = λ l. found_at N p (first_fault N p) l (fault-there N (standings p) 0 numbers l);
    }
