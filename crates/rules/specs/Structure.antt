-- The structure of a state (000, 6.1.3): its records, labels, references, kinds and kept positions.
-- It is everything but the payloads of booleans and integers. Assumes nothing: these are definitions.
use Rattle.std.specs.Prelude.{◌≡◌, ℕ, ◌<◌}
use Rattle.words.specs.Words.{number_of}
use Rattle.tables.specs.Sizes.{most_fields}
use Rattle.tables.specs.Cells.{Cells, cell_at}
use Rattle.tables.specs.Records.{record_count, field_count, label_at}
use Rattle.rules.specs.State.{State}

-- an environment and a heap of one structure: at every location cells of one kind, and of one payload unless they are booleans (2) or integers (3);
-- and the same records with the same labels
pub record Same (S Z : Cells) : Type 0 where
  pub kinds : (l : ℕ) → (cell_at S l).kind ≡ (cell_at Z l).kind
  pub payloads : (l : ℕ) → (number_of (cell_at S l).kind ≡ 2 → ⊥) → (number_of (cell_at S l).kind ≡ 3 → ⊥) → (cell_at S l).payload ≡ (cell_at Z l).payload
  pub labels : (r f : ℕ) → f < most_fields → label_at S.heap r f ≡ label_at Z.heap r f
  pub fields : (r : ℕ) → field_count S.heap r ≡ field_count Z.heap r
  pub records : record_count S.heap ≡ record_count Z.heap

-- and the same kept positions
pub record SameState (S Z : State) : Type 0 where
  pub cells : Same S.cells Z.cells
  pub kept : S.kept ≡ Z.kept
