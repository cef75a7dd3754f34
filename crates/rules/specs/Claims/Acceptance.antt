-- Every proposal is accepted, or one number refuses it: a good one is not turned down. Assumes nothing: these are statements.
use Rattle.std.specs.Prelude.{◌≡◌, ◌⊎◌, true, List, ℤ}
use Rattle.tables.specs.Cells.{Cells, Sized}
use Rattle.rules.specs.State.{Fault}
use Rattle.rules.specs.Constraints.{Part}
use Rattle.rules.specs.Proposals.{Asked}
use Rattle.rules.specs.Rules.Constraints.{CountedAre}
use Rattle.rules.specs.Rules.Proposals.{Settles, Unsettled}

-- where the parts that count read and there is room for the position: one or the other, never both, one number with its word, and one state with its unread words
pub record Judged (program kept : List ℤ) (asked : Asked) (word : List ℤ) (S : Cells) (ws : List ℤ) : Type 0 where
  pub some : ((Z : Cells) × ((rest : List ℤ) × Settles program kept asked S ws Z rest)) ⊎ ((f : Fault) × Unsettled program kept asked word S ws f)
  pub never_both : {f : Fault} {Z : Cells} {rest : List ℤ} → Settles program kept asked S ws Z rest → Unsettled program kept asked word S ws f → ⊥
  pub one_number : {f g : Fault} → Unsettled program kept asked word S ws f → Unsettled program kept asked word S ws g → f ≡ g
  pub one_state : {Z Y : Cells} {rest left : List ℤ} → Settles program kept asked S ws Z rest → Settles program kept asked S ws Y left → (Z ≡ Y) × (rest ≡ left)

abbrev pub EveryJudged : Type 0
EveryJudged = (program kept : List ℤ) (asked : Asked) (word : List ℤ) (S : Cells) (before : List Part) (ws : List ℤ)
    → Sized S → CountedAre program kept S asked.own before → asked.room ≡ true → Judged program kept asked word S ws
