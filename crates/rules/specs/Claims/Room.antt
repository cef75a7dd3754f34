-- "No room is given back" (01, "Lent tables"): records and kept positions, once made, stay. Assumes nothing: these are statements.
use Rattle.std.specs.Prelude.{ℕ, ◌≤◌, ◌<◌, ◌≡◌, List, ℤ, length}
use Rattle.tables.specs.declared.Sort.{Sort}
use Rattle.tables.specs.Sizes.{constraints_words}
use Rattle.tables.specs.Cells.{Sized}
use Rattle.tables.specs.Records.{record_count, field_count, label_at}
use Rattle.tables.specs.Kept.{kept_count, position_at}
use Rattle.rules.specs.State.{State}
use Rattle.rules.specs.Statements.{Left}
use Rattle.rules.specs.Rules.Statements.{Steps}
use Rattle.rules.specs.Start.{Ended}
use Rattle.rules.specs.Rules.Answers.{Answered}

-- every record of S is in Z, under its number, with its field count and labels, whatever its fields hold; and every kept position at its place in the order
pub record Stays (S Z : State) : Type 0 where
  pub records : record_count S.cells.heap ≤ record_count Z.cells.heap
  pub fields : (r : ℕ) → r < record_count S.cells.heap → field_count Z.cells.heap r ≡ field_count S.cells.heap r
  pub labels : (r f : ℕ) → r < record_count S.cells.heap → label_at Z.cells.heap r f ≡ label_at S.cells.heap r f
  pub kept : (s : Sort) → kept_count S.kept s ≤ kept_count Z.kept s
  pub places : (s : Sort) (i : ℕ) → i < kept_count S.kept s → position_at Z.kept s i ≡ position_at S.kept s i

-- an accepted statement, and a run wherever it stops
abbrev pub StepsStay : Type 0
StepsStay = (program p : List ℤ) (S : State) (ws : List ℤ) (l : Left) → Sized S.cells → length S.kept ≡ constraints_words → Steps program S ws p l → Stays S l.state

abbrev pub RunsStay : Type 0
RunsStay = (program ws : List ℤ) (budget : ℤ) (S : State) (e : Ended) → Answered program ws budget S e → Stays S e.state
