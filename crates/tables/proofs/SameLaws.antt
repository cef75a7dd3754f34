-- Tables are equal where all that is read from them is, and what is read from tables that are all zero. Assumes nothing.
use mathlib.Core.Path.{◌≡◌, refl, sym, ap, ◌∙◌}
use mathlib.Core.Bool.{true}
use mathlib.Core.List.{List}
use Prim.Native.Nat.{ℕ, ◌+◌, ◌-◌, ◌*◌, ◌/◌, ◌%◌, ◌<◌}
use native.Mathlib.Omega.{arith}
use native.Mathlib.Decide.{dec_lt, ℕ_discrete}
use borrow.Author.Tests.{lt-ltb}
use lib.IntN.{ℤ, pos}
use lib.ListN.{length}
use lib.Seq.{ext_get_or}
use Rattle.words.specs.Words.{word_at, number_at}
use Rattle.tables.specs.Sizes.{no_number, field_location, count_word, label_word, field_word}
use Rattle.tables.specs.Values.{absent}
use Rattle.tables.specs.Cells.{Cells, cells, Sized, pair_at, cell_at}
use Rattle.tables.specs.Records.{record_count, count_at, field_count, label_at, blank_place}
use Rattle.tables.specs.declared.Cell.{Cell}
use Rattle.tables.proofs.WordLaws.{number-of, word-of}
use Rattle.tables.proofs.FindLaws.{fields-are, no_fields}
use Rattle.tables.proofs.CellLaws.{Located, a-variable, a-field, nowhere, located, variable-cell, field-cell, no_cell}
use Rattle.tables.proofs.ClearLaws.{place-blank}

-- all counts and labels of a heap are numbers
pub record Numbered (h : List ℤ) : Type 0 where
  pub records : record_count h < no_number
  pub counts : (r : ℕ) → r < 64 → count_at h r < no_number
  pub labels : (r f : ℕ) → r < 64 → f < 8 → label_at h r f < no_number

-- ---- the words of a heap, by what is read from it

module _ (h : List ℤ) (long : length h ≡ 1601) (numbered : Numbered h) where
  records-word : word_at h 0 ≡ pos (record_count h)
  unfolding record_count
  records-word = word-of h 0 (record_count h) (omega arith) refl numbered.records

  counts-word : (r : ℕ) → r < 64 → word_at h (count_word r) ≡ pos (count_at h r)
  unfolding count_at count_word
  counts-word r a =
      let e : count_at h r ≡ number_at h (count_word r) = rw (lt-ltb r 64 a) in
      word-of h (count_word r) (count_at h r) (omega arith) (sym e) (numbered.counts r a)

  labels-word : (r f : ℕ) → r < 64 → f < 8 → word_at h (label_word r f) ≡ pos (label_at h r f)
  unfolding label_at label_word
  labels-word r f a b =
      let e : label_at h r f ≡ number_at h (label_word r f) = rw (lt-ltb r 64 a, lt-ltb f 8 b) in
      word-of h (label_word r f) (label_at h r f) (omega arith) (sym e) (numbered.labels r f a b)

module _ (S Z : Cells) (sized : Sized S) (sized' : Sized Z) (numbered : Numbered S.heap) (numbered' : Numbered Z.heap) (same-cells : (l : ℕ) → cell_at S l ≡ cell_at Z l)
    (records : record_count S.heap ≡ record_count Z.heap) (counts : (r : ℕ) → r < 64 → count_at S.heap r ≡ count_at Z.heap r)
    (labels : (r f : ℕ) → r < 64 → f < 8 → label_at S.heap r f ≡ label_at Z.heap r f) where
  abbrev SameWord : List ℤ → List ℤ → ℕ → Type 0
  SameWord s t i = word_at s i ≡ word_at t i

  variable-word : (i : ℕ) → i < 128 → SameWord S.environment Z.environment i
  variable-word i h = go (ℕ_discrete (i % 2) 0)
    where
      pair : pair_at S.environment (2 * (i / 2)) ≡ pair_at Z.environment (2 * (i / 2))
      pair = sym (variable-cell S (i / 2) (omega arith)) ∙ same-cells (i / 2) ∙ variable-cell Z (i / 2) (omega arith)

      go : Dec (i % 2 ≡ 0) → SameWord S.environment Z.environment i
      go (yes e) = let q : 2 * (i / 2) ≡ i = omega arith in rw q at (ap (λ (c : Cell). c.kind) pair)
      go (no n) = let q : 2 * (i / 2) + 1 ≡ i = omega arith in rw q at (ap (λ (c : Cell). c.payload) pair)

  -- the three words of a field place, the 25 of a record, and all of the heap's
  field-word : (r f j k : ℕ) → r < 64 → f < 8 → j < 3 → label_word r f + j ≡ k → SameWord S.heap Z.heap k
  unfolding label_word field_word
  field-word r f j k a b c e = go (ℕ_discrete j 0) (ℕ_discrete j 1)
    where
      label : SameWord S.heap Z.heap (label_word r f)
      label = labels-word S.heap sized.heap numbered r f a b ∙ ap pos (labels r f a b) ∙ sym (labels-word Z.heap sized'.heap numbered' r f a b)

      pair : pair_at S.heap (field_word r f) ≡ pair_at Z.heap (field_word r f)
      pair = sym (field-cell S r f a b) ∙ same-cells (field_location r f) ∙ field-cell Z r f a b

      go : Dec (j ≡ 0) → Dec (j ≡ 1) → SameWord S.heap Z.heap k
      go (yes z) d = let q : label_word r f ≡ k = omega arith in rw q at label
      go (no z) (yes y) = let q : field_word r f ≡ k = omega arith in rw q at (ap (λ (x : Cell). x.kind) pair)
      go (no z) (no y) = let q : field_word r f + 1 ≡ k = omega arith in rw q at (ap (λ (x : Cell). x.payload) pair)

  record-word : (r o k : ℕ) → r < 64 → o < 25 → count_word r + o ≡ k → SameWord S.heap Z.heap k
  unfolding count_word label_word
  record-word r o k a b e = go (ℕ_discrete o 0)
    where
      count : SameWord S.heap Z.heap (count_word r)
      count = counts-word S.heap sized.heap numbered r a ∙ ap pos (counts r a) ∙ sym (counts-word Z.heap sized'.heap numbered' r a)

      go : Dec (o ≡ 0) → SameWord S.heap Z.heap k
      go (yes z) = let q : count_word r ≡ k = omega arith in rw q at count
      go (no z) = field-word r ((o - 1) / 3) ((o - 1) % 3) k a (omega arith) (omega arith) (omega arith)

  heap-word : (k : ℕ) → k < 1601 → SameWord S.heap Z.heap k
  unfolding count_word
  heap-word k h = go (ℕ_discrete k 0)
    where
      go : Dec (k ≡ 0) → SameWord S.heap Z.heap k
      go (yes e) = rw e (records-word S.heap sized.heap numbered ∙ ap pos records ∙ sym (records-word Z.heap sized'.heap numbered'))
      go (no n) = record-word ((k - 1) / 25) ((k - 1) % 25) k (omega arith) (omega arith) (omega arith)

  -- tables of the right lengths are equal where all that is read from them is, and counts and labels are numbers
  pub tables-same : S ≡ Z
  tables-same =
      let a : S.environment ≡ Z.environment = ext_get_or (pos 0) S.environment Z.environment (sized.environment ∙ sym sized'.environment) (λ i h. variable-word i (omega (arith, sized.environment))) in
      let b : S.heap ≡ Z.heap = ext_get_or (pos 0) S.heap Z.heap (sized.heap ∙ sym sized'.heap) (λ i h. heap-word i (omega (arith, sized.heap))) in
      ap (λ e. cells e S.heap) a ∙ ap (λ h. cells Z.environment h) b

-- ---- tables that are all zero

module _ (S : Cells) (sized : Sized S) (blank-environment : (k : ℕ) → word_at S.environment k ≡ pos 0) (blank-heap : (k : ℕ) → word_at S.heap k ≡ pos 0) where
  zero-located : {l : ℕ} → Located l → cell_at S l ≡ absent
  zero-located {l} (a-variable a) = rw (variable-cell S l a, blank-environment (2 * l), blank-environment (2 * l + 1))
  zero-located (a-field r f a b) = rw (field-cell S r f a b, blank-heap (field_word r f), blank-heap (field_word r f + 1))
  zero-located {l} (nowhere a) = no_cell S l a

  pub zero-cell : (l : ℕ) → cell_at S l ≡ absent
  zero-cell l = zero-located (located l)

  zero_number : (k : ℕ) → k < 1601 → number_at S.heap k ≡ 0
  zero_number k h = number-of S.heap k (pos 0) (omega (arith, sized.heap)) (blank-heap k)

  pub zero-records : record_count S.heap ≡ 0
  unfolding record_count
  zero-records = zero_number 0 (omega arith)

  pub zero-count : (r : ℕ) → r < 64 → count_at S.heap r ≡ 0
  unfolding count_at count_word
  zero-count r a = rw (lt-ltb r 64 a) (zero_number (count_word r) (omega arith))

  pub zero-fields : (r : ℕ) → field_count S.heap r ≡ 0
  zero-fields r = go (dec_lt r 64)
    where
      go : Dec (r < 64) → field_count S.heap r ≡ 0
      go (yes a) = let e = zero-count r a in fields-are S.heap r (rw e (omega arith)) ∙ e
      go (no a) = no_fields S.heap r (omega arith)

  pub zero-place : (r f : ℕ) → r < 64 → f < 8 → blank_place S.heap r f ≡ true
  zero-place r f a b = place-blank S r f a b (blank-heap (label_word r f)) (zero-cell (field_location r f))
