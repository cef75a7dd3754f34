-- The run lister, whole (01, "The run lister"): the text's reading, the rules' run from fresh tables, and the text of its answer.
-- Assumes nothing: these are definitions.
use Rattle.std.specs.Prelude.{List, ℕ, Result, Ok, Err}
use Rattle.tables.specs.Sizes.{environment_words, heap_words, constraints_words}
use Rattle.tables.specs.Cells.{fresh}
use Rattle.rules.specs.State.{State}
use Rattle.rules.specs.Start.{Ended, run}
use Rattle.phases.specs.Told.{tables}
use Rattle.lister.specs.declared.Input.{Input}
use Rattle.lister.specs.Reading.{Given, input_in}
use Rattle.lister.specs.Listing.{listing, unfit_text}

-- "starts fresh"
abbrev pub fresh_tables : State
fresh_tables = tables (fresh environment_words) (fresh heap_words) (fresh constraints_words)

-- the listing of what a run ended with
abbrev pub ended_text : Ended → List ℕ
ended_text e = listing e.outcome e.place e.steps e.accepted e.state.cells e.state.kept

-- the numbers of a text that reads are run; of another its first unfit line is told
abbrev pub answer_by : Given → Result Input ℕ → List ℕ
answer_by g (Ok input) = ended_text (run g.program g.proposals input.budget fresh_tables)
answer_by g (Err line) = unfit_text line

-- the whole output for a text
unfoldable pub answer_to : List ℕ → List ℕ
answer_to t = answer_by (input_in t) (input_in t).answer
