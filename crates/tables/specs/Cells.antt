-- The cells of the environment and the heap, by location (01, "Lent tables", "Proposal"). Assumes nothing: these are definitions.
use Rattle.std.specs.Prelude.{ℕ, ◌+◌, ◌-◌, ◌*◌, ◌/◌, ◌%◌, ◌≡◌, Bool, cond, List, ltb, ℤ, pos, length, set, replicate}
use Rattle.words.specs.Words.{word_at, eq_z}
use Rattle.tables.specs.declared.Cell.{Cell}
use Rattle.tables.specs.Sizes.{variables, locations, environment_words, heap_words, field_word}
use Rattle.tables.specs.Search.{every}
use Rattle.tables.specs.Values.{cell, absent}

-- the two tables that hold cells
pub record Cells : Type 0 where
  pub environment : List ℤ
  pub heap : List ℤ

abbrev pub cells : List ℤ → List ℤ → Cells
cells e h = record { environment = e; heap = h }

pub record Sized (S : Cells) : Type 0 where
  pub environment : length S.environment ≡ environment_words
  pub heap : length S.heap ≡ heap_words

-- the cell whose two words begin at the word i, and the table with another cell there
abbrev pub pair_at : List ℤ → ℕ → Cell
pair_at s i = cell (word_at s i) (word_at s (i + 1))

abbrev pub put_pair : List ℤ → ℕ → Cell → List ℤ
put_pair s i c = set (set s i c.kind) (i + 1) c.payload

-- the heap's word where the cell of a location from 64 on begins
unfoldable pub location_word : ℕ → ℕ
location_word l = field_word ((l - 64) / 8) ((l - 64) % 8)

-- the cell at a location; absent where there is no such location
unfoldable pub cell_at : Cells → ℕ → Cell
cell_at S l =
    cond (ltb l variables) (pair_at S.environment (2 * l))
    (cond (ltb l locations) (pair_at S.heap (location_word l)) absent)

-- the tables with another cell at a location
unfoldable pub put_cell : Cells → ℕ → Cell → Cells
put_cell S l c =
    cond (ltb l variables) (cells (put_pair S.environment (2 * l) c) S.heap)
    (cond (ltb l locations) (cells S.environment (put_pair S.heap (location_word l) c)) S)

-- "Fresh means all zero."
abbrev pub fresh : ℕ → List ℤ
fresh words = replicate words (pos 0)

-- n words from the word `at` on are all zero; words past the end are 0
unfoldable pub zeros : List ℤ → ℕ → ℕ → Bool
zeros s at n = every (λ i. eq_z (word_at s (at + i)) (pos 0)) n
