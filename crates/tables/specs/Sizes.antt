-- The sizes, offsets and limits of the lent tables (01, "Lent tables"), named once. Assumes nothing: these are definitions.
use Rattle.std.specs.Prelude.{ℕ, ◌+◌, ◌*◌}

-- "Environment, 128 words: variables 0 to 63." A cell is two words.
abbrev pub variables : ℕ
variables = 64

abbrev pub environment_words : ℕ
environment_words = 128

-- "Heap, 1,601 words: record count 0 to 64, then 64 records of 25 words: field count 0 to 8, then 8 times label (0 to 31), kind, payload."
abbrev pub heap_words : ℕ
heap_words = 1601

abbrev pub most_records : ℕ
most_records = 64

abbrev pub most_fields : ℕ
most_fields = 8

abbrev pub labels : ℕ
labels = 32

abbrev pub record_words : ℕ
record_words = 25

-- the words that a record more may change: the count word and those of one record
abbrev pub saved_words : ℕ
saved_words = 26

-- the word of the field count of record r
unfoldable pub count_word : ℕ → ℕ
count_word r = 25 * r + 1

-- the words of the label and of the cell of field place f of record r
unfoldable pub label_word : ℕ → ℕ → ℕ
label_word r f = 25 * r + 3 * f + 2

unfoldable pub field_word : ℕ → ℕ → ℕ
field_word r f = 25 * r + 3 * f + 3

-- "Locations: 0 to 63 variables; 64 + 8r + f for field place f of record r."
abbrev pub locations : ℕ
locations = 576

unfoldable pub field_location : ℕ → ℕ → ℕ
field_location r f = 64 + 8 * r + f

-- "Constraints, 98 words: value count, identity count, 64 value positions, 32 identity positions."
abbrev pub constraints_words : ℕ
constraints_words = 98

-- what no word is, read as a number (crates/words)
abbrev pub no_number : ℕ
no_number = 2147483648
