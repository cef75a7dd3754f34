-- What is kept stands after every accepted statement, and wherever a run stops. Assumes nothing.
use mathlib.Core.List.{List}
use native.Mathlib.Omega.{arith}
use lib.IntN.{ℤ}
use Rattle.words.specs.Words.{number_of}
use Rattle.program.specs.Forms.{block_depth}
use Rattle.rules.specs.State.{State}
use Rattle.rules.specs.Running.{Out, on, end}
use Rattle.rules.specs.Rules.Runs.{block, Runs}
use Rattle.rules.specs.Rules.Answers.{Passes, first_tally, unstarted, finished, stopped}
use Rattle.rules.specs.Steps.Holds.{Holds}
use Rattle.rules.specs.Claims.Holding.{StatementsStand, RunsStand}
use Rattle.rules.proofs.ProgramCode.{statement-there}
use Rattle.rules.proofs.WalkLaws.{tally_of}
use Rattle.rules.proofs.Holding.{statements-hold}
use Rattle.rules.proofs.StepRules.{steps-rule}
use Rattle.rules.proofs.StandRules.{stands-iff}
use Rattle.rules.proofs.AnswerRules.{whole-rule}
use Rattle.rules.proofs.RunFacts.{unstarted-low, whole-reached}

pub statements-stand : StatementsStand
statements-stand program p S ws l reads found stands s =
    let here = statement-there reads found in
    let holds = (stands-iff program S).1 stands in
    (stands-iff program l.state).0 (statements-hold program p S ws l here holds ((steps-rule program p S ws here.statement holds l).1 s))

-- what holds after a run that passed its start
whole-stands : (program ws : List ℤ) (budget : ℤ) (S : State) (o : Out) → Passes program budget S
    → Runs program (number_of budget) (block block_depth program) (first_tally S ws) o → Holds program (tally_of o).state
whole-stands program ws budget S o p r =
    rw ((whole-rule program ws budget S o p).1 r) at (whole-reached program ws budget S p).holds

pub runs-stand : RunsStand
runs-stand program ws budget S e started (unstarted u) = let low = unstarted-low u in absurd (let five = started low.0 in omega (arith, low.1))
runs-stand program ws budget S e started (finished {u = u} p r) = (stands-iff program u.state).0 (whole-stands program ws budget S (on u) p r)
runs-stand program ws budget S e started (stopped {n = n} {place = place} {u = u} p r) = (stands-iff program u.state).0 (whole-stands program ws budget S (end n place u) p r)
