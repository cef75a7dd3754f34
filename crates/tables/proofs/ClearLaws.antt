-- What is all zero: a part of a table, unused records, unused positions. Assumes nothing.
use mathlib.Core.Path.{◌≡◌, refl, sym, ap, ◌∙◌}
use mathlib.Core.Bool.{Bool, true, false, ◌&&◌}
use mathlib.Core.List.{List}
use Prim.Native.Nat.{ℕ, ◌+◌, ◌-◌, ◌*◌, ◌/◌, ◌%◌, ◌≤◌, ◌<◌}
use native.Mathlib.Omega.{arith}
use native.Mathlib.Decide.{dec_lt, ℕ_discrete}
use native.Mathlib.Numerals.{add-one}
use borrow.Author.Tests.{lt-ltb, ltb-true}
use lib.Dec.{ltb, eqb}
use lib.IntN.{ℤ, pos}
use lib.ListN.{length, drop, take, length-take, get_or-eq_default}
use lib.Seq.{get_or-drop, get_or-take}
use mir.Syntax.{w32}
use mir.Val.{SFits, of_z}
use Rattle.words.specs.Words.{word_at, number_at, eq_z}
use Rattle.words.proofs.Signed.{same_bits}
use Rattle.tables.specs.Sizes.{heap_words, field_location, count_word, label_word, field_word}
use Rattle.tables.specs.Search.{every}
use Rattle.tables.specs.Values.{absent}
use Rattle.tables.specs.Cells.{Cells, pair_at, cell_at, put_cell, zeros}
use Rattle.tables.specs.Records.{count_at, label_at, blank_place, blank_record, blank_from}
use Rattle.tables.specs.Kept.{most_kept, first_kept, blank_position, blank_positions}
use Rattle.tables.specs.declared.Cell.{Cell}
use Rattle.tables.specs.declared.Sort.{Sort}
use Rattle.tables.proofs.SearchLaws.{cases, and_left, and_right, every-at, every-all, every-same}
use Rattle.tables.proofs.WordLaws.{number-of, word-of}
use Rattle.tables.proofs.CellLaws.{field-cell, read-other, put_word, label-no-cell}
use Rattle.tables.proofs.RecordLaws.{zeros-at, zeros-all, zeros-same}

-- two tests, each of which passes where the other does
pub agree : (a b : Bool) → (a ≡ true → b ≡ true) → (b ≡ true → a ≡ true) → a ≡ b
agree true b f g = sym (f refl)
agree false true f g = g refl
agree false false f g = refl

-- the first n words of the part that begins at `at`, where words past the end are 0
module _ (s : List ℤ) (at n : ℕ) where
  abbrev part : List ℤ
  part = take n (drop at s)

  part-long : length part ≤ n
  part-long = rw (length-take n (drop at s)) (omega arith)

  part-word : (i : ℕ) → i < n → word_at part i ≡ word_at s (at + i)
  part-word i h = get_or-take n (drop at s) i (pos 0) h ∙ get_or-drop at s i (pos 0)

  part-zero : zeros part 0 (length part) ≡ true → (i : ℕ) → i < n → Dec (i < length part) → word_at s (at + i) ≡ pos 0
  part-zero e i h (yes l) = let z : 0 + i ≡ i = omega arith in sym (part-word i h) ∙ rw z at (zeros-at part 0 (length part) e i l)
  part-zero e i h (no l) = sym (part-word i h) ∙ get_or-eq_default part (pos 0) (omega arith)

  pub zeros-part : zeros part 0 (length part) ≡ zeros s at n
  zeros-part =
      agree (zeros part 0 (length part)) (zeros s at n)
      (λ e. zeros-all s at n (λ i h. part-zero e i h (dec_lt i (length part))))
      (λ e. zeros-all part 0 (length part) (λ i h.
      let z : 0 + i ≡ i = omega arith in
      let l : i < n = omega (arith, part-long, h) in
      rw z (part-word i l ∙ zeros-at s at n e i l)))

-- what `is_clear` answers for such a part
pub clear-part : {r : Bool} {p q : List ℤ} (s : List ℤ) (at n : ℕ) → p ≡ drop at s → q ≡ take n p → r ≡ zeros q 0 (length q) → r ≡ zeros s at n
clear-part s at n a b e = (rw (b, a) at e) ∙ zeros-part s at n

-- ---- field places that are blank

module _ (S : Cells) (r f : ℕ) (row : r < 64) (place : f < 8) where
  pub blank-is : blank_place S.heap r f ≡ zeros S.heap (label_word r f) 3
  unfolding blank_place
  blank-is = rw (lt-ltb r 64 row, lt-ltb f 8 place)

  -- a place is blank where its label and its cell are
  pub place-blank : word_at S.heap (label_word r f) ≡ pos 0 → cell_at S (field_location r f) ≡ absent → blank_place S.heap r f ≡ true
  unfolding label_word field_word
  place-blank a b = blank-is ∙ zeros-all S.heap (label_word r f) 3 (λ i h. go i (ℕ_discrete i 0) (ℕ_discrete i 1) h)
    where
      e : pair_at S.heap (field_word r f) ≡ absent
      e = sym (field-cell S r f row place) ∙ b

      go : (i : ℕ) → Dec (i ≡ 0) → Dec (i ≡ 1) → i < 3 → word_at S.heap (label_word r f + i) ≡ pos 0
      go i (yes z) d h = let q : label_word r f + i ≡ label_word r f = omega arith in rw q a
      go i (no z) (yes y) h = let q : label_word r f + i ≡ field_word r f = omega arith in rw q (ap (λ c. c.kind) e)
      go i (no z) (no y) h = let q : label_word r f + i ≡ field_word r f + 1 = omega arith in rw q (ap (λ c. c.payload) e)

  module _ (blank : blank_place S.heap r f ≡ true) where
    pub blank-cell : cell_at S (field_location r f) ≡ absent
    unfolding label_word field_word
    blank-cell =
        let z = zeros-at S.heap (label_word r f) 3 (sym blank-is ∙ blank) in
        let k : label_word r f + 1 ≡ field_word r f = omega arith in
        let p : label_word r f + 2 ≡ field_word r f + 1 = omega arith in
        rw (field-cell S r f row place, rw k at (z 1 (omega arith)), rw p at (z 2 (omega arith)))

    blank-label-word : word_at S.heap (label_word r f) ≡ pos 0
    blank-label-word =
        let e : label_word r f + 0 ≡ label_word r f = omega arith in
        rw e at (zeros-at S.heap (label_word r f) 3 (sym blank-is ∙ blank) 0 (omega arith))

    pub blank-label : length S.heap ≡ heap_words → label_at S.heap r f ≡ 0
    unfolding label_at label_word
    blank-label long = rw (lt-ltb r 64 row, lt-ltb f 8 place) (number-of S.heap (label_word r f) (pos 0) (omega arith) blank-label-word)

-- a place whose cell is not the one that is put is as blank as it was
pub put-blank : (S : Cells) (l : ℕ) (c : Cell) (r f : ℕ) → (field_location r f ≡ l → ⊥) → blank_place (put_cell S l c).heap r f ≡ blank_place S.heap r f
unfolding blank_place label_word field_word
put-blank S l c r f n = cases (ltb r 64 && ltb f 8)
    (λ e.
    let a : r < 64 = ltb-true r 64 (and_left (ltb r 64) (ltb f 8) e) in
    let b : f < 8 = ltb-true f 8 (and_right (ltb r 64) (ltb f 8) e) in
    rw e (zeros-same (put_cell S l c).heap S.heap (label_word r f) 3 (λ i h. go a b i (ℕ_discrete i 0) (ℕ_discrete i 1) h)))
    (λ e. rw e)
  where
    pair : r < 64 → f < 8 → pair_at (put_cell S l c).heap (field_word r f) ≡ pair_at S.heap (field_word r f)
    pair a b = sym (field-cell (put_cell S l c) r f a b) ∙ read-other S l (field_location r f) c n ∙ field-cell S r f a b

    go : r < 64 → f < 8 → (i : ℕ) → Dec (i ≡ 0) → Dec (i ≡ 1) → i < 3 → word_at (put_cell S l c).heap (label_word r f + i) ≡ word_at S.heap (label_word r f + i)
    go a b i (yes z) d h = let q : label_word r f + i ≡ label_word r f = omega arith in rw q (put_word S l c (label_word r f) (pos 0) (label-no-cell r f b))
    go a b i (no z) (yes y) h = let q : label_word r f + i ≡ field_word r f = omega arith in rw q (ap (λ (x : Cell). x.kind) (pair a b))
    go a b i (no z) (no y) h = let q : label_word r f + i ≡ field_word r f + 1 = omega arith in rw q (ap (λ (x : Cell). x.payload) (pair a b))

-- ---- records that are blank

module _ (h : List ℤ) (long : length h ≡ heap_words) (r : ℕ) (row : r < 64) where
  count-is : count_at h r ≡ number_at h (count_word r)
  unfolding count_at
  count-is = rw (lt-ltb r 64 row)

  count-zero : count_at h r ≡ 0 → word_at h (count_word r) ≡ pos 0
  unfolding count_word
  count-zero e = word-of h (count_word r) 0 (omega arith) (sym count-is ∙ e) (omega arith)

  place-zeros : (f : ℕ) → f < 8 → blank_place h r f ≡ zeros h (label_word r f) 3
  unfolding blank_place
  place-zeros f l = rw (lt-ltb r 64 row, lt-ltb f 8 l)

  -- a record is blank where its count and its places are
  pub record-blank : count_at h r ≡ 0 → ((f : ℕ) → f < 8 → blank_place h r f ≡ true) → blank_record h r ≡ true
  unfolding blank_record count_word label_word
  record-blank e b = zeros-all h (count_word r) 25 (λ o l. go o (ℕ_discrete o 0) l)
    where
      go : (o : ℕ) → Dec (o ≡ 0) → o < 25 → word_at h (count_word r + o) ≡ pos 0
      go o (yes z) l = let q : count_word r + o ≡ count_word r = omega arith in rw q (count-zero e)
      go o (no z) l =
          let q : label_word r ((o - 1) / 3) + (o - 1) % 3 ≡ count_word r + o = omega arith in
          let m : (o - 1) / 3 < 8 = omega arith in
          rw q at (zeros-at h (label_word r ((o - 1) / 3)) 3 (sym (place-zeros ((o - 1) / 3) m) ∙ b ((o - 1) / 3) m) ((o - 1) % 3) (omega arith))

  module _ (blank : blank_record h r ≡ true) where
    -- the word o of a blank record
    blank-word : (o k : ℕ) → o < 25 → count_word r + o ≡ k → word_at h k ≡ pos 0
    unfolding blank_record
    blank-word o k b e = rw e at (zeros-at h (count_word r) 25 blank o b)

    pub blank-count : count_at h r ≡ 0
    unfolding count_word
    blank-count = count-is ∙ number-of h (count_word r) (pos 0) (omega arith) (blank-word 0 (count_word r) (omega arith) (omega arith))

    pub blank-place : (f : ℕ) → f < 8 → blank_place h r f ≡ true
    unfolding label_word count_word
    blank-place f l = place-zeros f l ∙ zeros-all h (label_word r f) 3 (λ i m. blank-word (3 * f + 1 + i) (label_word r f + i) (omega arith) (omega arith))

-- every record from n on, by the words after the first n records
module _ (h : List ℤ) (n : ℕ) (small : n ≤ 64) where
  records-zeros : zeros h (count_word n) (1600 - 25 * n) ≡ true → (i : ℕ) → i < 64 - n → blank_record h (n + i) ≡ true
  unfolding blank_record count_word
  records-zeros e i a = zeros-all h (count_word (n + i)) 25 (λ o b.
      let q : count_word n + (25 * i + o) ≡ count_word (n + i) + o = omega arith in
      rw q at (zeros-at h (count_word n) (1600 - 25 * n) e (25 * i + o) (omega arith)))

  zeros-records : every (λ i. blank_record h (n + i)) (64 - n) ≡ true → (i : ℕ) → i < 1600 - 25 * n → word_at h (count_word n + i) ≡ pos 0
  unfolding blank_record count_word
  zeros-records e i l =
      let z = every-at (λ j. blank_record h (n + j)) (64 - n) e (i / 25) (omega arith) in
      let q : count_word (n + i / 25) + i % 25 ≡ count_word n + i = omega arith in
      rw q at (zeros-at h (count_word (n + i / 25)) 25 z (i % 25) (omega arith))

  pub from-clear : zeros h (count_word n) (1600 - 25 * n) ≡ blank_from h n
  unfolding blank_from
  from-clear =
      agree (zeros h (count_word n) (1600 - 25 * n)) (every (λ i. blank_record h (n + i)) (64 - n))
      (λ e. every-all (λ i. blank_record h (n + i)) (64 - n) (records-zeros e))
      (λ e. zeros-all h (count_word n) (1600 - 25 * n) (zeros-records e))

pub from-full : (h : List ℤ) (n : ℕ) → 64 ≤ n → true ≡ blank_from h n
unfolding blank_from every
from-full h n l = let e : 64 - n ≡ 0 = omega arith in rw e

pub from_at : (h : List ℤ) (n : ℕ) → blank_from h n ≡ true → (r : ℕ) → n ≤ r → r < 64 → blank_record h r ≡ true
unfolding blank_from
from_at h n e r l a = let q : n + (r - n) ≡ r = omega arith in rw q at (every-at (λ i. blank_record h (n + i)) (64 - n) e (r - n) (omega arith))

pub from_all : (h : List ℤ) (n : ℕ) → ((r : ℕ) → n ≤ r → r < 64 → blank_record h r ≡ true) → blank_from h n ≡ true
unfolding blank_from
from_all h n f = every-all (λ i. blank_record h (n + i)) (64 - n) (λ i l. f (n + i) (omega arith) (omega arith))

-- ---- positions that are blank

module _ (c : List ℤ) (s : Sort) (n : ℕ) where
  pub positions-clear : zeros c (first_kept s + n) (most_kept s - n) ≡ blank_positions c s n
  unfolding zeros blank_positions blank_position
  positions-clear = every-same (λ i. eq_z (word_at c (first_kept s + n + i)) (pos 0)) (λ i. eq_z (word_at c (first_kept s + (n + i))) (pos 0)) (most_kept s - n)
      (λ i l. let q : first_kept s + n + i ≡ first_kept s + (n + i) = omega arith in rw q)

  pub positions-full : most_kept s ≤ n → true ≡ blank_positions c s n
  unfolding blank_positions every
  positions-full l = let e : most_kept s - n ≡ 0 = omega arith in rw e

  pub positions-at : blank_positions c s n ≡ true → (i : ℕ) → n ≤ i → i < most_kept s → blank_position c s i ≡ true
  unfolding blank_positions
  positions-at e i l a = let q : n + (i - n) ≡ i = omega arith in rw q at (every-at (λ j. blank_position c s (n + j)) (most_kept s - n) e (i - n) (omega arith))

  pub positions-all : ((i : ℕ) → n ≤ i → i < most_kept s → blank_position c s i ≡ true) → blank_positions c s n ≡ true
  unfolding blank_positions
  positions-all f = every-all (λ j. blank_position c s (n + j)) (most_kept s - n) (λ j l. f (n + j) (omega arith) (omega arith))

-- ---- the loop that tests every word, at the word i

pub record Clearing (s : List ℤ) (clear : Bool) (i : ℕ) : Type 0 where
  pub inside : i ≤ length s
  pub done : clear ≡ zeros s 0 i

pub clearing-starts : {s : List ℤ} → Clearing s true 0
unfolding zeros every
clearing-starts = record { inside = omega arith; done = refl }

module _ {s : List ℤ} {clear : Bool} {i : ℕ} (inv : Clearing s clear i) where
  pub clearing-goes-on : i < length s → SFits w32 (word_at s i) → Clearing s (clear && eqb (of_z w32 (word_at s i)) 0) (i + 1)
  unfolding zeros every
  clearing-goes-on h f =
      let z : 0 + i ≡ i = omega arith in
      record { inside = omega arith; done = rw (add-one i, z, same_bits (word_at s i) (pos 0) f (record { sfits = omega arith }), inv.done) }

  pub clearing-ends : length s ≤ i → clear ≡ zeros s 0 (length s)
  clearing-ends h = let e : length s ≡ i = omega (arith, inv.inside) in rw e inv.done
