-- What the code answers of one statement with two proposals. Assumes nothing: these are definitions.
use Rattle.std.specs.Prelude.{◌≡◌, ◌-◌, cond, List, [], ◌∷◌, ℤ, pos, length, take, Result, Ok, Err}
use Rattle.words.specs.Answer.{Answer, got, stop, want}
use Rattle.fit.specs.Fit.{sized}
use Rattle.program.specs.Reading.{read_program}
use Rattle.rules.specs.State.{State}
use Rattle.rules.specs.Start.{Early, early, tables_at_start}
use Rattle.rules.specs.Solvers.{Given, accepting, refusing, is_named}
use Rattle.rules.specs.Claims.Solvers.{slice_of}
use Rattle.program.specs.declared.Refusal.{Refusal}
use Rattle.solvers.specs.declared.Solver.{Solver}
use Rattle.solvers.specs.declared.Solver.TheVariants.{First, Second}
use Rattle.solvers.specs.declared.Early.{Early as Stopped}

-- what is given for whom the code accepts, with the tables Z
abbrev pub given_by : List ℤ → ℤ → List ℤ → List ℤ → State → Result Solver Refusal → Given
given_by program word first second Z (Ok First) = accepting word 1 first Z
given_by program word first second Z (Ok Second) = accepting word 2 second Z
given_by program word first second Z (Err f) = refusing Z f.number (pos (length program - f.word))

-- the statement may begin; or the refusal's number and place
abbrev pub opened_by : Answer Early (Unit {0}) → Result (Unit {0}) Stopped → Result (Unit {0}) Stopped
opened_by (got u) next = next
opened_by (stop e) next = Err (record { number = e.number; place = pos e.place })

-- what is tried before the statement
abbrev pub opening : List ℤ → ℤ → State → Result (Unit {0}) Stopped
opening program word S =
    opened_by (early 1 (want 0 (sized S.cells.environment S.cells.heap S.kept)))
    (opened_by (early 2 (read_program program))
    (cond (is_named program word) (opened_by (tables_at_start program S) (Ok tt)) (Err (record { number = 2; place = word }))))

-- "It gives outcome, place" and the solver
abbrev pub answer_of : Given → List ℤ
answer_of e = pos e.outcome ∷ e.place ∷ pos e.solver ∷ []

-- What the call leaves and hands back is the rules' answer, whole: the three words, the three tables, and the accepted words, which are the start of the slice of the solver that is
-- told; where none is, the empty start of the first.
pub record Hands (first second : List ℤ) (Z : State) (answer words : List ℤ) (e : Given) : Type 0 where
  pub answers : answer ≡ answer_of e
  pub leaves : Z ≡ e.state
  pub hands_back : words ≡ e.words
  pub start : words ≡ take (length words) (slice_of e.solver first second)
