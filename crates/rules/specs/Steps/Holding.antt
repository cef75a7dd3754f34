-- Each accepted statement keeps what holds, by the definitions. Assumes nothing: this is a statement.
use Rattle.std.specs.Prelude.{◌≡◌, List, ℤ}
use Rattle.words.specs.Words.{number_at}
use Rattle.words.specs.Answer.{got}
use Rattle.program.specs.Forms.{verb_of}
use Rattle.rules.specs.State.{State}
use Rattle.rules.specs.Statements.{Left, do_simple}
use Rattle.rules.specs.Steps.Holds.{Holds, StatementThere}

abbrev pub StatementsHold : Type 0
StatementsHold = (program p : List ℤ) (S : State) (proposals : List ℤ) (l : Left)
    → StatementThere program p → Holds program S → do_simple program p S proposals (verb_of (number_at p 0)) ≡ got l → Holds program l.state
