-- What a proposal does to the tables, however it was found. Assumes nothing: this is a statement.
use Rattle.std.specs.Prelude.{List, ℤ}
use Rattle.tables.specs.Cells.{Cells, Sized}
use Rattle.rules.specs.Proposals.{Asked}
use Rattle.rules.specs.Rules.Proposals.{Settles}
use Rattle.rules.specs.Effects.{Effect}

-- every accepted proposal
abbrev pub ProposalsMove : Type 0
ProposalsMove = (program kept : List ℤ) (asked : Asked) (S : Cells) (ws : List ℤ) (Z : Cells) (rest : List ℤ) → Sized S → Settles program kept asked S ws Z rest → Effect asked S Z
