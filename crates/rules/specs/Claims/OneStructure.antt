-- What proposals and budgets cannot change. Assumes nothing: this is a statement.
use Rattle.std.specs.Prelude.{◌≡◌, List, ℤ}
use Rattle.rules.specs.State.{State}
use Rattle.rules.specs.Start.{Ended}
use Rattle.rules.specs.Structure.{SameState}
use Rattle.rules.specs.Rules.Answers.{Answered}

-- Two runs of one program from one start that both finish, with the same results of their tests, end with the same
-- records, labels, references, kinds and kept positions, whatever was proposed and whatever the budgets were.
abbrev pub OneStructure : Type 0
OneStructure = (program ws us : List ℤ) (budget budget' : ℤ) (S : State) (a b : Ended) → Answered program ws budget S a → Answered program us budget' S b
    → a.outcome ≡ 0 → b.outcome ≡ 0 → a.tests ≡ b.tests → SameState a.state b.state
