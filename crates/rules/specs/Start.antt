-- The start, outcomes 1 to 4, and the whole run (01, "What comes back"). Assumes nothing: these are definitions.
use Rattle.std.specs.Prelude.{ℕ, ◌+◌, Bool, ◌&&◌, List, [], ◌∷◌, leb, ℤ, length, drop}
use Rattle.words.specs.Words.{word_at, number_of}
use Rattle.words.specs.Answer.{Answer, got, stop, ◌>>◌, want}
use Rattle.tables.specs.declared.Sort.TheVariants.{Values, Identities}
use Rattle.tables.specs.Cells.{Cells}
use Rattle.fit.specs.Fit.{sized, environment_fits, heap_fits}
use Rattle.program.specs.Forms.{block_depth}
use Rattle.program.specs.Reading.{read_program}
use Rattle.program.specs.Where.{constraints_stand}
use Rattle.rules.specs.State.{State, positions}
use Rattle.rules.specs.Constraints.{kept_at, required_hold}
use Rattle.rules.specs.Identities.{same_now}
use Rattle.rules.specs.Running.{Tally, Out, on, end, do_block}

-- a refusal at the start: its number and its place
pub record Early : Type 0 where
  pub number : ℕ
  pub place : ℕ

-- "a budget of 0 to 1,000,000"
unfoldable pub budget_fits : ℤ → Bool
budget_fits b = leb (number_of b) 1000000

-- "a kept constraint does not read, or a required part .. does not hold": its position
unfoldable pub values_hold : List ℤ → Cells → List ℕ → Answer ℕ (Unit {0})
values_hold program S [] = got tt
values_hold program S (position ∷ more) =
    elim (kept_at program S position) [
      | got parts ↦ want position (required_hold parts) >> values_hold program S more
      | stop f ↦ stop position
    ]

-- ".. or identity does not hold, at the start"
unfoldable pub identities_hold : List ℤ → Cells → List ℕ → Answer ℕ (Unit {0})
identities_hold program S [] = got tt
identities_hold program S (position ∷ more) =
    elim (same_now S (drop position program) (drop (position + 1) program)) [
      | got u ↦ identities_hold program S more
      | stop f ↦ stop position
    ]

unfoldable pub early : ℕ → Answer ℕ (Unit {0}) → Answer Early (Unit {0})
early n (got u) = got tt
early n (stop place) = stop (record { number = n; place = place })

-- outcome 4, "values before identities, in kept order", and outcomes 3 and 4
abbrev pub kept_at_start : List ℤ → State → Answer Early (Unit {0})
kept_at_start program S = do
  early 4 (values_hold program S.cells (positions S.kept Values))
  early 4 (identities_hold program S.cells (positions S.kept Identities))

abbrev pub tables_at_start : List ℤ → State → Answer Early (Unit {0})
tables_at_start program S = do
  early 3 (want 0 (environment_fits (word_at S.cells.heap 0) S.cells.environment))
  early 3 (want 1 (heap_fits S.cells.heap))
  early 3 (want 2 (constraints_stand program S.kept))
  kept_at_start program S

-- "Outcomes 1 to 4 are tried in that order"
unfoldable pub starts : List ℤ → ℤ → State → Answer Early (Unit {0})
starts program budget S = do
  early 1 (want 0 (sized S.cells.environment S.cells.heap S.kept && budget_fits budget))
  early 2 (read_program program)
  tables_at_start program S

-- "It gives outcome, place, steps, proposals accepted, and hands back the unread words of the proposals"; the tests are told besides
pub record Ended : Type 0 where
  pub outcome : ℕ
  pub place : ℕ
  pub steps : ℕ
  pub accepted : ℕ
  pub state : State
  pub unread : List ℤ
  pub tests : List Bool

-- what is given for a tally, by outcome and place
abbrev pub given_by : ℕ → ℕ → Tally → Ended
given_by n place t = record { outcome = n; place = place; steps = t.steps; accepted = t.accepted; state = t.state; unread = t.unread; tests = t.tests }

unfoldable pub ended : List ℤ → Out → Ended
ended program (on t) = given_by 0 (length program) t
ended program (end n place t) = given_by n place t

-- what goes on where a program may start; 1 to 4 "cost no steps, accept no proposal and change no table"
abbrev pub from_start : Answer Early (Unit {0}) → Tally → (Tally → Ended) → Ended
from_start (got u) t goes = goes t
from_start (stop e) t goes = given_by e.number e.place t

-- the tally before the first statement
abbrev pub tally_from : State → List ℤ → Tally
tally_from S ws = record { state = S; unread = ws; steps = 0; accepted = 0; tests = [] }

-- "A run takes program, tables, proposals and a budget"
unfoldable pub run : List ℤ → List ℤ → ℤ → State → Ended
run program ws budget S = from_start (starts program budget S) (tally_from S ws) λ t. ended program (do_block block_depth program (number_of budget) program t)
