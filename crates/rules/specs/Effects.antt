-- What a proposal may do to the tables (01, "Proposal"). Assumes nothing: these are definitions.
use Rattle.std.specs.Prelude.{ℕ, ◌≡◌, ◌⊎◌, Bool, cond, ℤ, pos, length, Some}
use Rattle.tables.specs.declared.Cell.{Cell}
use Rattle.tables.specs.Values.{cell}
use Rattle.tables.specs.Cells.{Cells, cell_at}
use Rattle.tables.specs.Records.{record_count, field_count, label_at}
use Rattle.fit.specs.Fit.{Fit}
use Rattle.rules.specs.Proposals.{Asked}

-- a payload of the kind of a cell, which is a boolean or an integer: 0 or 1, or any word
pub data OfKind : Cell → ℤ → Type 0 where
  a_boolean : {p : ℤ} (b : Bool) → OfKind (cell (pos 2) p) (cond b (pos 1) (pos 0))
  an-integer : {p n : ℤ} → OfKind (cell (pos 3) p) n

-- the state Z after a proposal, and S before it: "Each names an integer or boolean cell and gives a different payload of the same kind";
-- "the target cell itself may not be changed by it"
pub record Effect (asked : Asked) (S Z : Cells) : Type 0 where
  pub cells : (l : ℕ) → (cell_at Z l ≡ cell_at S l) ⊎ ((n : ℤ) × (OfKind (cell_at S l) n × (cell_at Z l ≡ cell (cell_at S l).kind n)))
  pub target : (l : ℕ) → asked.target ≡ Some l → cell_at Z l ≡ cell_at S l
  pub records : record_count Z.heap ≡ record_count S.heap
  pub fields : (r : ℕ) → field_count Z.heap r ≡ field_count S.heap r
  pub labels : (r f : ℕ) → label_at Z.heap r f ≡ label_at S.heap r f
  pub environment : length Z.environment ≡ length S.environment
  pub heap : length Z.heap ≡ length S.heap
  pub fit : Fit S → Fit Z
