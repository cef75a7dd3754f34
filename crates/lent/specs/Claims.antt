-- What is claimed of the statement with the tally lent. Assumes nothing: these are statements.
use Rattle.std.specs.Prelude.{◌≡◌, false, List, ℕ, ℤ}
use Rattle.words.specs.Words.{number_at}
use Rattle.program.specs.Forms.{verb_of}
use Rattle.rules.specs.State.{State}
use Rattle.rules.specs.Running.{Out, do_statement}
use Rattle.rules.specs.Running.{Tally as Carries}
use Rattle.lent.specs.declared.Tally.{Tally}
use Rattle.lent.specs.Tallied.{Runs}
use Rattle.lent.specs.Lending.{holds_blocks, one_statement, Steps}

-- a statement that holds no block comes to what it comes to in a run, in whatever block it stands
abbrev pub AsInARun : Type 0
AsInARun = (block : List ℤ → Carries → Out) (past : List ℤ → List ℤ) (program : List ℤ) (budget : ℕ) (p : List ℤ) (u : Carries)
    → holds_blocks (verb_of (number_at p 0)) ≡ false → one_statement program budget p u ≡ do_statement block past program budget p u

-- any two tallies, with their tables, that a piece may leave are equal
abbrev pub OneTally : Type 0
OneTally = (ws : List ℤ) (Z Z' : State) (r r' : Tally) (o : Out) → Runs ws Z r o → Runs ws Z' r' o → (r ≡ r') × (Z ≡ Z')

-- so are any two that a statement may leave of a lent tally, whatever it was
abbrev pub OneStep : Type 0
OneStep = (ws : List ℤ) (S Z Z' : State) (t r r' : Tally) (o : Out) → Steps ws S Z t r o → Steps ws S Z' t r' o → (r ≡ r') × (Z ≡ Z')
