-- Records of the heap (01, "Lent tables"): counts, labels, the field with a label, a record more and a record less.
-- Assumes nothing: these are definitions.
use Rattle.std.specs.Prelude.{ℕ, ◌+◌, ◌-◌, ◌*◌, Bool, true, cond, ◌&&◌, List, ◌∷◌, ltb, leb, eqb, ℤ, pos, set, drop, None, Option, Some}
use Rattle.words.specs.Words.{word_at, number_at, copied, cleared}
use Rattle.tables.specs.Sizes.{most_records, most_fields, record_words, count_word, label_word, field_word, field_location, no_number}
use Rattle.tables.specs.Search.{every, first}
use Rattle.tables.specs.Values.{absent}
use Rattle.tables.specs.Cells.{pair_at, zeros}
use Rattle.tables.specs.declared.Cell.{Cell}

-- the count word, as a number
unfoldable pub record_count : List ℤ → ℕ
record_count h = number_at h 0

-- the field count of record r as it is written; no number where there is no such record
unfoldable pub count_at : List ℤ → ℕ → ℕ
count_at h r = cond (ltb r most_records) (number_at h (count_word r)) no_number

-- the fields of record r; none where its count is no number from 0 to 8
unfoldable pub field_count : List ℤ → ℕ → ℕ
field_count h r = cond (leb (count_at h r) most_fields) (count_at h r) 0

-- the label of field place f of record r
unfoldable pub label_at : List ℤ → ℕ → ℕ → ℕ
label_at h r f = cond (ltb r most_records && ltb f most_fields) (number_at h (label_word r f)) no_number

-- the cell of field place f of record r; absent where there is no such place
unfoldable pub field_at : List ℤ → ℕ → ℕ → Cell
field_at h r f = cond (ltb r most_records && ltb f most_fields) (pair_at h (field_word r f)) absent

-- "Unused fields and records are all zero": the words of field place f of record r, those of record r, and those of every record from number n on
unfoldable pub blank_place : List ℤ → ℕ → ℕ → Bool
blank_place h r f = cond (ltb r most_records && ltb f most_fields) (zeros h (label_word r f) 3) true

unfoldable pub blank_record : List ℤ → ℕ → Bool
blank_record h r = zeros h (count_word r) record_words

unfoldable pub blank_from : List ℤ → ℕ → Bool
blank_from h n = every (λ i. blank_record h (n + i)) (most_records - n)

-- the first field place of record r that has the label; the field count where none has
unfoldable pub place_with : List ℤ → ℕ → ℕ → ℕ
place_with h r label = first (λ f. eqb (label_at h r f) label) 0 (field_count h r)

-- the location of the field of record r that has the label
unfoldable pub field_with : List ℤ → ℕ → ℕ → Option ℕ
field_with h r label = cond (ltb (place_with h r label) (field_count h r)) (Some (field_location r (place_with h r label))) None

-- the fields of a new record, each its label, kind and payload: the label and the cell of field f, and a field before others
unfoldable pub new_label : List ℤ → ℕ → ℤ
new_label fs f = word_at fs (3 * f)

unfoldable pub new_cell : List ℤ → ℕ → Cell
new_cell fs f = pair_at fs (3 * f + 1)

abbrev pub field_then : ℤ → Cell → List ℤ → List ℤ
field_then label c fs = label ∷ c.kind ∷ c.payload ∷ fs

-- "New first adds a record, numbered by the old count, with fields in the order written": n fields, whose words are fs.
-- Nothing is added where there is no room.
unfoldable pub with_record : List ℤ → List ℤ → ℕ → List ℤ
with_record h fs n =
    cond (ltb (record_count h) most_records && leb n most_fields)
    (set (set (copied fs (count_word (record_count h) + 1) (3 * n) h) (count_word (record_count h)) (pos n)) 0 (pos (record_count h + 1)))
    h

-- the heap without its last record, whose words are all zero again
unfoldable pub without_record : List ℤ → List ℤ
without_record h =
    cond (ltb 0 (record_count h) && leb (record_count h) most_records)
    (set (cleared (count_word (record_count h - 1)) record_words h) 0 (pos (record_count h - 1)))
    h

-- the words that a record more may change, laid by in `saved`: the count word, and those of the first record that is not used
unfoldable pub laid_by : List ℤ → List ℤ → List ℤ
laid_by h saved =
    cond (ltb (record_count h) most_records)
    (copied (drop (count_word (record_count h)) h) 1 record_words (set saved 0 (word_at h 0)))
    (set saved 0 (word_at h 0))

-- the heap with the words that were laid by
unfoldable pub brought_back : List ℤ → List ℤ → List ℤ
brought_back saved h =
    cond (ltb (number_at saved 0) most_records)
    (copied (drop 1 saved) (count_word (number_at saved 0)) record_words (set h 0 (word_at saved 0)))
    (set h 0 (word_at saved 0))
