-- Which tables are fit (01, "Lent tables"; outcomes 1 and 3). Assumes nothing: these are definitions.
use Rattle.std.specs.Prelude.{ℕ, ◌*◌, ◌<◌, ◌≡◌, Bool, true, false, not, cond, ◌&&◌, ◌||◌, List, ltb, leb, eqb, ℤ, pos, negsuc, length}
use Rattle.words.specs.Words.{word_at, number_of, eq_z}
use Rattle.tables.specs.declared.Cell.{Cell}
use Rattle.tables.specs.declared.Sort.{Sort}
use Rattle.tables.specs.declared.Sort.TheVariants.{Values, Identities}
use Rattle.tables.specs.Sizes.{variables, environment_words, heap_words, constraints_words, most_records, most_fields, labels, no_number}
use Rattle.tables.specs.Search.{every}
use Rattle.tables.specs.Cells.{Cells, Sized, pair_at, cell_at}
use Rattle.tables.specs.Records.{record_count, count_at, label_at, field_at, blank_place, blank_record, new_label, new_cell}
use Rattle.tables.specs.Kept.{most_kept, kept_number, position_at, blank_position}

unfoldable pub sized : List ℤ → List ℤ → List ℤ → Bool
sized e h c = eqb (length e) environment_words && eqb (length h) heap_words && eqb (length c) constraints_words

-- "reference (a record number below the heap's count word)"
abbrev pub admits : ℤ → ℤ → Bool
admits (pos count) (pos r) = ltb r count
admits (pos count) (negsuc r) = false
admits (negsuc count) p = false

-- "0 absent (payload 0), 1 nil (0), 2 boolean (0 or 1), 3 integer, 4 reference"
unfoldable pub cell_fits : ℤ → Cell → Bool
cell_fits count c =
    cond (eqb (number_of c.kind) 0) (eq_z c.payload (pos 0))
    (cond (eqb (number_of c.kind) 1) (eq_z c.payload (pos 0))
    (cond (eqb (number_of c.kind) 2) (eq_z c.payload (pos 0) || eq_z c.payload (pos 1))
    (cond (eqb (number_of c.kind) 3) true
    (cond (eqb (number_of c.kind) 4) (admits count c.payload)
    false))))

-- "variables 0 to 63", where the heap has this count word
unfoldable pub environment_fits : ℤ → List ℤ → Bool
environment_fits count e = every (λ x. cell_fits count (pair_at e (2 * x))) variables

-- "label (0 to 31)", "Labels in a record differ; used fields are not absent"
unfoldable pub label_fits : List ℤ → ℕ → ℕ → Bool
label_fits h r f = ltb (label_at h r f) labels && every (λ g. not (eqb (label_at h r g) (label_at h r f))) f

unfoldable pub field_fits : List ℤ → ℕ → ℕ → Bool
field_fits h r f =
    label_fits h r f && not (eqb (number_of (field_at h r f).kind) 0) && cell_fits (word_at h 0) (field_at h r f)

-- field place f of record r, where the record has n fields; "Unused fields and records are all zero"
unfoldable pub place_fits : List ℤ → ℕ → ℕ → ℕ → Bool
place_fits h r n f = cond (ltb f n) (field_fits h r f) (blank_place h r f)

unfoldable pub record_fits : List ℤ → ℕ → Bool
record_fits h r = leb (count_at h r) most_fields && every (place_fits h r (count_at h r)) most_fields

-- record number r, where the heap has n records
unfoldable pub number_fits : List ℤ → ℕ → ℕ → Bool
number_fits h n r = cond (ltb r n) (record_fits h r) (blank_record h r)

unfoldable pub heap_fits : List ℤ → Bool
heap_fits h = leb (record_count h) most_records && every (number_fits h (record_count h)) most_records

-- "unused words are 0", "none occurs twice"; which words of the program are always-statements is no matter of the table
unfoldable pub position_fits : List ℤ → Sort → ℕ → Bool
position_fits c s i = ltb (position_at c s i) no_number && every (λ j. not (eqb (position_at c s j) (position_at c s i))) i

-- the word for position number i, where n positions of the sort are kept
unfoldable pub room_fits : List ℤ → Sort → ℕ → ℕ → Bool
room_fits c s n i = cond (ltb i n) (position_fits c s i) (blank_position c s i)

unfoldable pub sort_fits : List ℤ → Sort → Bool
sort_fits c s = leb (kept_number c s) (most_kept s) && every (room_fits c s (kept_number c s)) (most_kept s)

unfoldable pub constraints_fit : List ℤ → Bool
constraints_fit c = sort_fits c Values && sort_fits c Identities

-- ---- fit environments and heaps

unfoldable pub cells_fit : Cells → Bool
cells_fit S = environment_fits (word_at S.heap 0) S.environment && heap_fits S.heap

pub record Fit (S : Cells) : Type 0 where
  pub sized : Sized S
  pub fits : cells_fit S ≡ true

-- a cell may be put into every variable; into a field only where the field is used, and then it may not be absent
pub data MayHold (S : Cells) (l : ℕ) (c : Cell) : Type 0 where
  in_variable : l < variables → MayHold S l c
  in_field : (number_of (cell_at S l).kind ≡ 0 → ⊥) → (number_of c.kind ≡ 0 → ⊥) → MayHold S l c

-- n fields for a new record, where the heap has this count word
pub record FieldsFit (count : ℤ) (fs : List ℤ) (n : ℕ) : Type 0 where
  pub small : (f : ℕ) → f < n → number_of (new_label fs f) < labels
  pub differ : (g f : ℕ) → g < f → f < n → number_of (new_label fs g) ≡ number_of (new_label fs f) → ⊥
  pub fits : (f : ℕ) → f < n → cell_fits count (new_cell fs f) ≡ true
  pub used : (f : ℕ) → f < n → number_of (new_cell fs f).kind ≡ 0 → ⊥
