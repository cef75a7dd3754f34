-- Wherever a run stops, what is kept holds: the solver need not be trusted. Assumes nothing: these are statements.
use Rattle.std.specs.Prelude.{◌≤◌, List, ℤ}
use Rattle.program.specs.Grammar.{Program}
use Rattle.rules.specs.State.{State}
use Rattle.rules.specs.Statements.{Left}
use Rattle.rules.specs.Start.{Ended}
use Rattle.rules.specs.Rules.Kept.{AtStatement, Stands}
use Rattle.rules.specs.Rules.Statements.{Steps}
use Rattle.rules.specs.Rules.Answers.{Answered}

-- an accepted statement takes a state in which all that is kept holds to such a state, whatever the proposals say
abbrev pub StatementsStand : Type 0
StatementsStand = (program p : List ℤ) (S : State) (ws : List ℤ) (l : Left) → Program program → AtStatement program p → Stands program S → Steps program S ws p l → Stands program l.state

-- and so does a run whose outcome is 0, or from 5 on: wherever it stops
abbrev pub RunsStand : Type 0
RunsStand = (program ws : List ℤ) (budget : ℤ) (S : State) (e : Ended) → (1 ≤ e.outcome → 5 ≤ e.outcome) → Answered program ws budget S e → Stands program e.state
