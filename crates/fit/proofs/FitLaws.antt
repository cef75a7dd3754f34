-- What a fit environment and heap say by what is read from them, both ways. Assumes nothing.
use Rattle.std.specs.Prelude.{Some}
use mathlib.Core.Path.{◌≡◌, sym, ap, ◌∙◌}
use mathlib.Core.Bool.{true, not, ◌&&◌}
use mathlib.Core.List.{List}
use Prim.Native.Nat.{ℕ, ◌*◌, ◌≤◌, ◌<◌}
use native.Mathlib.Omega.{arith}
use native.Mathlib.Decide.{dec_lt}
use borrow.Author.Tests.{lt-ltb, le-ltb, le-leb, ltb-true, leb-true, eqb-false, ne_eqb, not-true}
use lib.Dec.{ltb, leb, eqb}
use lib.IntN.{ℤ, pos}
use Rattle.words.specs.Words.{word_at, number_of}
use Rattle.tables.specs.Sizes.{field_location}
use Rattle.tables.specs.Search.{every}
use Rattle.tables.specs.Values.{absent, slot_of, cell_of}
use Rattle.tables.specs.Cells.{Cells, Sized, pair_at, cell_at}
use Rattle.tables.specs.Records.{record_count, count_at, field_count, label_at, field_at, blank_place, blank_record, with_record, without_record}
use Rattle.tables.specs.declared.Value.{Value}
use Rattle.tables.specs.declared.Value.TheVariants.{Ref}
use Rattle.tables.proofs.SearchLaws.{and_left, and_right, and-true, every-at, every-all}
use Rattle.tables.proofs.FindLaws.{field_in, fields-are, no_fields, fields-small}
use Rattle.tables.proofs.CellLaws.{Located, a-variable, a-field, nowhere, located, variable-cell, field-at, no_cell}
use Rattle.tables.proofs.RecordLaws.{count_word_lem, add-drop}
use Rattle.tables.proofs.ClearLaws.{blank-cell, blank-label, record-blank, blank-count, blank-place}
use Rattle.tables.proofs.SameLaws.{Numbered, tables-same}
use Rattle.fit.specs.Fit.{cell_fits, environment_fits, label_fits, field_fits, place_fits, record_fits, number_fits, heap_fits, cells_fit, Fit}
use Rattle.fit.proofs.CellFits.{an-absent, shape-fits, ref-below, cell-of-slot}

-- all that a fit environment and heap say, by what is read from them
pub record FitFacts (S : Cells) : Type 0 where
  pub count : record_count S.heap ≤ 64
  pub fitting : (l : ℕ) → cell_fits (word_at S.heap 0) (cell_at S l) ≡ true
  pub counted : (r : ℕ) → r < 64 → count_at S.heap r ≡ field_count S.heap r
  pub beyond : (r : ℕ) → record_count S.heap ≤ r → field_count S.heap r ≡ 0
  pub small : (r f : ℕ) → f < field_count S.heap r → label_at S.heap r f < 32
  pub differ : (r g f : ℕ) → g < f → f < field_count S.heap r → label_at S.heap r g ≡ label_at S.heap r f → ⊥
  pub used : (r f : ℕ) → f < field_count S.heap r → number_of (cell_at S (field_location r f)).kind ≡ 0 → ⊥
  pub blank : (r f : ℕ) → r < 64 → f < 8 → field_count S.heap r ≤ f → blank_place S.heap r f ≡ true

module _ (S : Cells) (fit : Fit S) where
  pub environment-fits : environment_fits (word_at S.heap 0) S.environment ≡ true
  unfolding cells_fit
  environment-fits = and_left (environment_fits (word_at S.heap 0) S.environment) (heap_fits S.heap) fit.fits

  pub heap-fits : heap_fits S.heap ≡ true
  unfolding cells_fit
  heap-fits = and_right (environment_fits (word_at S.heap 0) S.environment) (heap_fits S.heap) fit.fits

  pub fit_count : record_count S.heap ≤ 64
  unfolding heap_fits
  fit_count = leb-true (record_count S.heap) 64 (and_left (leb (record_count S.heap) 64) (every (number_fits S.heap (record_count S.heap)) 64) heap-fits)

  pub fit-count-word : word_at S.heap 0 ≡ pos (record_count S.heap)
  fit-count-word = count_word_lem S.heap fit.sized.heap (omega (arith, fit_count))

  number_fits_lem : (r : ℕ) → r < 64 → number_fits S.heap (record_count S.heap) r ≡ true
  unfolding heap_fits
  number_fits_lem r a =
      every-at (number_fits S.heap (record_count S.heap)) 64 (and_right (leb (record_count S.heap) 64) (every (number_fits S.heap (record_count S.heap)) 64) heap-fits) r a

  record-fits : (r : ℕ) → r < record_count S.heap → record_fits S.heap r ≡ true
  unfolding number_fits
  record-fits r l = rw (lt-ltb r (record_count S.heap) l) at (number_fits_lem r (omega (arith, fit_count)))

  -- the records after the last are all zero
  fit-record : (r : ℕ) → r < 64 → record_count S.heap ≤ r → blank_record S.heap r ≡ true
  unfolding number_fits
  fit-record r a l = rw (le-ltb r (record_count S.heap) l) at (number_fits_lem r a)

  number_small : (r : ℕ) → r < 64 → count_at S.heap r ≤ 8
  unfolding record_fits
  number_small r a = go (dec_lt r (record_count S.heap))
    where
      go : Dec (r < record_count S.heap) → count_at S.heap r ≤ 8
      go (yes l) = leb-true (count_at S.heap r) 8 (and_left (leb (count_at S.heap r) 8) (every (place_fits S.heap r (count_at S.heap r)) 8) (record-fits r l))
      go (no l) = rw (blank-count S.heap fit.sized.heap r a (fit-record r a (omega arith))) (omega arith)

  fit-counted : (r : ℕ) → r < 64 → count_at S.heap r ≡ field_count S.heap r
  fit-counted r a = sym (fields-are S.heap r (number_small r a))

  fit-beyond : (r : ℕ) → record_count S.heap ≤ r → field_count S.heap r ≡ 0
  fit-beyond r l = go (dec_lt r 64)
    where
      go : Dec (r < 64) → field_count S.heap r ≡ 0
      go (yes a) = sym (fit-counted r a) ∙ blank-count S.heap fit.sized.heap r a (fit-record r a l)
      go (no a) = no_fields S.heap r (omega arith)

  below-count : (r f : ℕ) → f < field_count S.heap r → r < record_count S.heap
  below-count r f l = go (dec_lt r (record_count S.heap))
    where
      go : Dec (r < record_count S.heap) → r < record_count S.heap
      go (yes a) = a
      go (no a) = let z = fit-beyond r (omega arith) in omega arith

  place-fits : (r f : ℕ) → r < record_count S.heap → f < 8 → place_fits S.heap r (field_count S.heap r) f ≡ true
  unfolding record_fits
  place-fits r f l b =
      let a : r < 64 = omega (arith, fit_count) in
      rw (← fit-counted r a)
      (every-at (place_fits S.heap r (count_at S.heap r)) 8
      (and_right (leb (count_at S.heap r) 8) (every (place_fits S.heap r (count_at S.heap r)) 8) (record-fits r l)) f b)

  field_fits_lem : (r f : ℕ) → f < field_count S.heap r → field_fits S.heap r f ≡ true
  unfolding place_fits
  field_fits_lem r f l = rw (lt-ltb f (field_count S.heap r) l) at (place-fits r f (below-count r f l) (field_in S.heap r f l).1)

  fit-blank : (r f : ℕ) → r < 64 → f < 8 → field_count S.heap r ≤ f → blank_place S.heap r f ≡ true
  unfolding place_fits
  fit-blank r f a b l = go (dec_lt r (record_count S.heap))
    where
      go : Dec (r < record_count S.heap) → blank_place S.heap r f ≡ true
      go (yes m) = rw (le-ltb f (field_count S.heap r) l) at (place-fits r f m b)
      go (no m) = blank-place S.heap fit.sized.heap r a (fit-record r a (omega arith)) f b

  label-fits : (r f : ℕ) → f < field_count S.heap r → label_fits S.heap r f ≡ true
  unfolding field_fits
  label-fits r f l = and_left (label_fits S.heap r f) _ (and_left _ (cell_fits (word_at S.heap 0) (field_at S.heap r f)) (field_fits_lem r f l))

  fit_small : (r f : ℕ) → f < field_count S.heap r → label_at S.heap r f < 32
  unfolding label_fits
  fit_small r f l = ltb-true (label_at S.heap r f) 32 (and_left (ltb (label_at S.heap r f) 32) _ (label-fits r f l))

  fit-differ : (r g f : ℕ) → g < f → f < field_count S.heap r → label_at S.heap r g ≡ label_at S.heap r f → ⊥
  unfolding label_fits
  fit-differ r g f m l = eqb-false (label_at S.heap r g) (label_at S.heap r f) (not-true (eqb (label_at S.heap r g) (label_at S.heap r f))
      (every-at (λ i. not (eqb (label_at S.heap r i) (label_at S.heap r f))) f (and_right (ltb (label_at S.heap r f) 32) _ (label-fits r f l)) g m))

  kind-used : (r f : ℕ) → f < field_count S.heap r → number_of (cell_at S (field_location r f)).kind ≡ 0 → ⊥
  unfolding field_fits
  kind-used r f l =
      let b = field_in S.heap r f l in
      rw (field-at S r f b.0 b.1)
      (eqb-false (number_of (field_at S.heap r f).kind) 0 (not-true (eqb (number_of (field_at S.heap r f).kind) 0)
      (and_right (label_fits S.heap r f) _ (and_left _ (cell_fits (word_at S.heap 0) (field_at S.heap r f)) (field_fits_lem r f l)))))

  -- an unused field is absent
  pub fit-unused : (r f : ℕ) → r < 64 → f < 8 → field_count S.heap r ≤ f → cell_at S (field_location r f) ≡ absent
  fit-unused r f a b l = blank-cell S r f a b (fit-blank r f a b l)

  field-cell-fits : (r f : ℕ) → r < 64 → f < 8 → cell_fits (word_at S.heap 0) (cell_at S (field_location r f)) ≡ true
  unfolding field_fits
  field-cell-fits r f a b = go (dec_lt f (field_count S.heap r))
    where
      go : Dec (f < field_count S.heap r) → cell_fits (word_at S.heap 0) (cell_at S (field_location r f)) ≡ true
      go (yes l) = rw (field-at S r f a b) (and_right (label_fits S.heap r f && not (eqb (number_of (field_at S.heap r f).kind) 0)) (cell_fits (word_at S.heap 0) (field_at S.heap r f)) (field_fits_lem r f l))
      go (no l) = rw (fit-unused r f a b (omega arith)) (shape-fits (word_at S.heap 0) an-absent)

  variable-cell-fits : (x : ℕ) → x < 64 → cell_fits (word_at S.heap 0) (cell_at S x) ≡ true
  unfolding environment_fits
  variable-cell-fits x a = rw (variable-cell S x a) (every-at (λ y. cell_fits (word_at S.heap 0) (pair_at S.environment (2 * y))) 64 environment-fits x a)

  -- every location's cell fits
  pub fit-cell : (l : ℕ) → cell_fits (word_at S.heap 0) (cell_at S l) ≡ true
  fit-cell l = go (located l)
    where
      go : {k : ℕ} → Located k → cell_fits (word_at S.heap 0) (cell_at S k) ≡ true
      go {k} (a-variable a) = variable-cell-fits k a
      go (a-field r f a b) = field-cell-fits r f a b
      go {k} (nowhere a) = rw (no_cell S k a) (shape-fits (word_at S.heap 0) an-absent)

  pub fit-facts : FitFacts S
  fit-facts = record {
    count = fit_count;
    fitting = fit-cell;
    counted = fit-counted;
    beyond = fit-beyond;
    small = fit_small;
    differ = fit-differ;
    used = kind-used;
    blank = fit-blank;
  }

  -- a reference is to one of the records
  pub fit-ref : (l r : ℕ) → slot_of (cell_at S l) ≡ Some (Ref r) → r < record_count S.heap
  fit-ref l r e = ref-below (record_count S.heap) (cell_at S l) r (rw fit-count-word at (fit-cell l)) e

  -- what a location holds determines its cell
  pub fit-slot : (l : ℕ) (v : Value) → slot_of (cell_at S l) ≡ Some v → cell_of v ≡ cell_at S l
  fit-slot l v e = cell-of-slot (word_at S.heap 0) (cell_at S l) v (rw fit-count-word (omega (arith, fit_count))) (fit-cell l) e

  -- a used field is in one of the records, and is not absent
  pub fit-used : (r f : ℕ) → f < field_count S.heap r → (r < record_count S.heap) × (number_of (cell_at S (field_location r f)).kind ≡ 0 → ⊥)
  fit-used r f l = (below-count r f l, kind-used r f l)

  -- labels are below 32 and differ
  pub fit-labels : (r f : ℕ) → f < field_count S.heap r → (label_at S.heap r f < 32) × ((g : ℕ) → g < f → label_at S.heap r g ≡ label_at S.heap r f → ⊥)
  fit-labels r f l = (fit_small r f l, λ g m. fit-differ r g f m l)

  -- the record after the last is all zero, so a record that is added can be dropped
  pub fit-add-drop : (fs : List ℤ) (n : ℕ) → record_count S.heap < 64 → n ≤ 8 → without_record (with_record S.heap fs n) ≡ S.heap
  fit-add-drop fs n a b = add-drop S.heap fs n fit.sized.heap a b (fit-record (record_count S.heap) a (omega arith))

  -- counts and labels are numbers
  pub fit-numbered : Numbered S.heap
  fit-numbered = record { records = omega (arith, fit_count); counts = λ r a. omega (arith, number_small r a); labels = λ r f a b. go r f a b (dec_lt f (field_count S.heap r)) }
    where
      go : (r f : ℕ) → r < 64 → f < 8 → Dec (f < field_count S.heap r) → label_at S.heap r f < 2147483648
      go r f a b (yes l) = omega (arith, fit_small r f l)
      go r f a b (no l) = rw (blank-label S r f a b (fit-blank r f a b (omega arith)) fit.sized.heap) (omega arith)

-- fit tables are equal where all that is read from them is
pub tables-equal : (S Z : Cells) → Fit S → Fit Z → ((l : ℕ) → cell_at S l ≡ cell_at Z l) → record_count S.heap ≡ record_count Z.heap
    → ((r : ℕ) → field_count S.heap r ≡ field_count Z.heap r) → ((r f : ℕ) → label_at S.heap r f ≡ label_at Z.heap r f) → S ≡ Z
tables-equal S Z fit fit' same-cells records fields labels =
    tables-same S Z fit.sized fit'.sized (fit-numbered S fit) (fit-numbered Z fit') same-cells records
    (λ r a. fit-counted S fit r a ∙ fields r ∙ sym (fit-counted Z fit' r a)) (λ r f a b. labels r f)

-- ---- the facts make a fit environment and heap

module _ (S : Cells) (sized : Sized S) (facts : FitFacts S) where
  label-passes : (r f : ℕ) → f < field_count S.heap r → label_fits S.heap r f ≡ true
  unfolding label_fits
  label-passes r f l =
      and-true (ltb (label_at S.heap r f) 32) (every (λ g. not (eqb (label_at S.heap r g) (label_at S.heap r f))) f)
      (lt-ltb (label_at S.heap r f) 32 (facts.small r f l))
      (every-all (λ g. not (eqb (label_at S.heap r g) (label_at S.heap r f))) f (λ g m. ap not (ne_eqb (label_at S.heap r g) (label_at S.heap r f) (facts.differ r g f m l))))

  field-passes : (r f : ℕ) → f < field_count S.heap r → field_fits S.heap r f ≡ true
  unfolding field_fits
  field-passes r f l =
      let b = field_in S.heap r f l in
      let e = field-at S r f b.0 b.1 in
      and-true (label_fits S.heap r f && not (eqb (number_of (field_at S.heap r f).kind) 0)) (cell_fits (word_at S.heap 0) (field_at S.heap r f))
      (and-true (label_fits S.heap r f) (not (eqb (number_of (field_at S.heap r f).kind) 0)) (label-passes r f l)
      (ap not (ne_eqb (number_of (field_at S.heap r f).kind) 0 (rw e at (facts.used r f l)))))
      (rw e at (facts.fitting (field_location r f)))

  number-blank : (r : ℕ) → r < 64 → record_count S.heap ≤ r → blank_record S.heap r ≡ true
  number-blank r a l =
      let e = facts.beyond r l in
      record-blank S.heap sized.heap r a (facts.counted r a ∙ e) (λ f b. facts.blank r f a b (rw e (omega arith)))

  place-passes : (r f : ℕ) → r < 64 → f < 8 → place_fits S.heap r (field_count S.heap r) f ≡ true
  unfolding place_fits
  place-passes r f a b = go (dec_lt f (field_count S.heap r))
    where
      go : Dec (f < field_count S.heap r) → place_fits S.heap r (field_count S.heap r) f ≡ true
      go (yes l) = rw (lt-ltb f (field_count S.heap r) l) (field-passes r f l)
      go (no l) = rw (le-ltb f (field_count S.heap r) (omega arith)) (facts.blank r f a b (omega arith))

  record-passes : (r : ℕ) → r < 64 → record_fits S.heap r ≡ true
  unfolding record_fits
  record-passes r a =
      rw (facts.counted r a)
      (and-true (leb (field_count S.heap r) 8) (every (place_fits S.heap r (field_count S.heap r)) 8)
      (le-leb (field_count S.heap r) 8 (fields-small S.heap r)) (every-all (place_fits S.heap r (field_count S.heap r)) 8 (λ f b. place-passes r f a b)))

  number-passes : (r : ℕ) → r < 64 → number_fits S.heap (record_count S.heap) r ≡ true
  unfolding number_fits
  number-passes r a = go (dec_lt r (record_count S.heap))
    where
      go : Dec (r < record_count S.heap) → number_fits S.heap (record_count S.heap) r ≡ true
      go (yes l) = rw (lt-ltb r (record_count S.heap) l) (record-passes r a)
      go (no l) = rw (le-ltb r (record_count S.heap) (omega arith)) (number-blank r a (omega arith))

  pub facts-fit : Fit S
  unfolding cells_fit environment_fits heap_fits
  facts-fit = record {
    sized = sized;
    fits = and-true (environment_fits (word_at S.heap 0) S.environment) (heap_fits S.heap)
        (every-all (λ x. cell_fits (word_at S.heap 0) (pair_at S.environment (2 * x))) 64 (λ x a. rw (variable-cell S x a) at (facts.fitting x)))
        (and-true (leb (record_count S.heap) 64) (every (number_fits S.heap (record_count S.heap)) 64)
        (le-leb (record_count S.heap) 64 facts.count) (every-all (number_fits S.heap (record_count S.heap)) 64 number-passes));
  }
