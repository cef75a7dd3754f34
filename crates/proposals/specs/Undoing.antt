-- Payloads put in a row, and put back in the other order. Assumes nothing: these are definitions.
use Rattle.std.specs.Prelude.{ℕ, zero, suc, ◌*◌, ◌≡◌, List, ℤ}
use Rattle.words.specs.Words.{word_at, number_at}
use Rattle.tables.specs.Values.{cell}
use Rattle.tables.specs.Cells.{Cells, cell_at, put_cell}
use Rattle.rules.specs.Proposals.{applied}
use Rattle.proposals.specs.Told.{entries_in}

-- the tables where the cell at l has the payload w and the kind that it had
abbrev pub with_payload : Cells → ℕ → ℤ → Cells
with_payload S l w = put_cell S l (cell (cell_at S l).kind w)

-- the n payloads that were laid by are put back, the last first; the first word of a pair is the location
unfoldable pub undone : List ℤ → List ℤ → ℕ → Cells → Cells
undone pairs saved zero S = S
undone pairs saved (suc n) S = undone pairs saved n (with_payload S (number_at pairs (2 * n)) (word_at saved n))

-- one cell takes a payload, and the one that it had is told
pub record Swaps (S Z : Cells) (l : ℕ) (new old : ℤ) : Type 0 where
  pub puts : Z ≡ with_payload S l new
  pub was : old ≡ (cell_at S l).payload

-- n pairs are applied, and can be undone
pub record Applies (S Z : Cells) (pairs saved : List ℤ) (n : ℕ) : Type 0 where
  pub is : Z ≡ applied S (entries_in pairs n)
  pub back : undone pairs saved n Z ≡ S
