-- What the loops over labels and positions come to. Assumes nothing.
use Rattle.std.specs.Prelude.{None, Some}
use mathlib.Core.Path.{◌≡◌}
use mathlib.Core.Bool.{true, false}
use mathlib.Core.List.{List}
use Prim.Native.Nat.{ℕ, ◌≤◌, ◌<◌}
use native.Mathlib.Omega.{arith}
use borrow.Author.Tests.{lt-ltb, le-ltb, le-leb, ltb-true, leb-true, eq-eqb}
use lib.Dec.{ltb, leb, eqb}
use lib.IntN.{ℤ}
use Rattle.tables.specs.Sizes.{field_location}
use Rattle.tables.specs.Search.{first}
use Rattle.tables.specs.Records.{count_at, field_count, label_at, place_with, field_with}
use Rattle.tables.specs.Kept.{most_kept, kept_number, kept_count, position_at, is_kept}
use Rattle.tables.specs.declared.Sort.{Sort}
use Rattle.tables.proofs.SearchLaws.{Seeking, seeking-hits, seeking-ends, cases}
use Rattle.tables.proofs.CellLaws.{location-low}

-- ---- field counts

pub count-in : (h : List ℤ) (r : ℕ) → count_at h r ≤ 8 → r < 64
unfolding count_at
count-in h r l = cases (ltb r 64) (λ e. ltb-true r 64 e) (λ e. let k : 2147483648 ≤ 8 = rw e at l in let z : ⊥ = omega arith in absurd z)

pub fields-are : (h : List ℤ) (r : ℕ) → count_at h r ≤ 8 → field_count h r ≡ count_at h r
unfolding field_count
fields-are h r b = rw (le-leb (count_at h r) 8 b)

-- the count as it is written decides
pub fields-same : (h k : List ℤ) (r : ℕ) → count_at h r ≡ count_at k r → field_count h r ≡ field_count k r
unfolding field_count
fields-same h k r e = rw e

pub no_fields : (h : List ℤ) (r : ℕ) → 64 ≤ r → field_count h r ≡ 0
unfolding field_count count_at
no_fields h r a = rw (le-ltb r 64 a)

pub fields-small : (h : List ℤ) (r : ℕ) → field_count h r ≤ 8
unfolding field_count
fields-small h r = cases (leb (count_at h r) 8) (λ e. rw e (leb-true (count_at h r) 8 e)) (λ e. rw e (omega arith))

-- a field place below the count is one of eight, in one of 64 records
pub field_in : (h : List ℤ) (r f : ℕ) → f < field_count h r → (r < 64) × (f < 8)
unfolding field_count
field_in h r f l = cases (leb (count_at h r) 8)
    (λ e. let b : count_at h r ≤ 8 = leb-true (count_at h r) 8 e in
    let k : f < count_at h r = rw e at l in
    (count-in h r b, omega arith))
    (λ e. let k : f < 0 = rw e at l in let z : ⊥ = omega arith in absurd z)

module _ (h : List ℤ) (r label : ℕ) where
  pub find-hits : (f : ℕ) → Seeking (λ g. eqb (label_at h r g) label) (field_count h r) f → f < field_count h r → label_at h r f ≡ label → Some (field_location r f) ≡ field_with h r label
  unfolding field_with place_with
  find-hits f inv l e =
      let q : first (λ g. eqb (label_at h r g) label) 0 (field_count h r) ≡ f = seeking-hits inv l (eq-eqb (label_at h r f) label e) in
      rw (q, lt-ltb f (field_count h r) l)

  pub find-ends : (f : ℕ) → Seeking (λ g. eqb (label_at h r g) label) (field_count h r) f → field_count h r ≤ f → None ≡ field_with h r label
  unfolding field_with place_with
  find-ends f inv l =
      let q : first (λ g. eqb (label_at h r g) label) 0 (field_count h r) ≡ field_count h r = seeking-ends inv l in
      rw (q, le-ltb (field_count h r) (field_count h r) (omega arith))

-- the location of a field that is found
pub find-below : (h : List ℤ) (r label l : ℕ) → field_with h r label ≡ Some l → l < 576
unfolding field_with
find-below h r label l e = cases (ltb (place_with h r label) (field_count h r))
    (λ t.
    let i = field_in h r (place_with h r label) (ltb-true (place_with h r label) (field_count h r) t) in
    let q : Some (field_location r (place_with h r label)) ≡ Some l = rw t at e in
    let k : l ≡ field_location r (place_with h r label) = cc in
    rw k (location-low r (place_with h r label) i.0 i.1))
    (λ t. let q : None ≡ Some l = rw t at e in let z : ◌≡◌ {A = ℕ} 0 1 = cc in let y : ⊥ = omega arith in absurd y)

-- kept positions: no more than there is room for
pub kept_in : (c : List ℤ) (s : Sort) → kept_count c s ≤ most_kept s
unfolding kept_count
kept_in c s = cases (leb (kept_number c s) (most_kept s))
    (λ e. rw e (leb-true (kept_number c s) (most_kept s) e))
    (λ e. rw e (omega arith))

module _ (c : List ℤ) (s : Sort) (p : ℕ) where
  pub kept-hits : (i : ℕ) → Seeking (λ j. eqb (position_at c s j) p) (kept_count c s) i → i < kept_count c s → position_at c s i ≡ p → true ≡ is_kept c s p
  unfolding is_kept
  kept-hits i inv l e =
      let q : first (λ j. eqb (position_at c s j) p) 0 (kept_count c s) ≡ i = seeking-hits inv l (eq-eqb (position_at c s i) p e) in
      rw (q, lt-ltb i (kept_count c s) l)

  pub kept-ends : (i : ℕ) → Seeking (λ j. eqb (position_at c s j) p) (kept_count c s) i → kept_count c s ≤ i → false ≡ is_kept c s p
  unfolding is_kept
  kept-ends i inv l =
      let q : first (λ j. eqb (position_at c s j) p) 0 (kept_count c s) ≡ kept_count c s = seeking-ends inv l in
      rw (q, le-ltb (kept_count c s) (kept_count c s) (omega arith))
