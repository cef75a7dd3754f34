-- A run gives exactly what the rules derive: the outcome, whichever it is, its place, the counts, the tables and the unread words. Assumes nothing: this is a statement.
use Rattle.std.specs.Prelude.{◌≡◌, ◌↔◌, List, ℤ}
use Rattle.rules.specs.State.{State}
use Rattle.rules.specs.Start.{Ended, run}
use Rattle.rules.specs.Rules.Answers.{Answered}

abbrev pub Rules : Type 0
Rules = (program ws : List ℤ) (budget : ℤ) (S : State) (e : Ended) → (run program ws budget S ≡ e) ↔ Answered program ws budget S e
