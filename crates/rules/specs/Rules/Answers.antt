-- What a run gives (01, "What comes back"): refused at the start with 1 to 4, finished, or refused at a statement. Assumes nothing: these are definitions.
use Rattle.std.specs.Prelude.{◌≡◌, ℕ, zero, suc, ◌≤◌, true, List, [], ◌∷◌, ℤ, length}
use Rattle.words.specs.Words.{word_at, number_of}
use Rattle.words.specs.Answer.{stop}
use Rattle.tables.specs.declared.Sort.{Sort}
use Rattle.tables.specs.Sizes.{environment_words, heap_words, constraints_words}
use Rattle.fit.specs.Fit.{environment_fits, heap_fits}
use Rattle.program.specs.Forms.{block_depth}
use Rattle.program.specs.Grammar.{Program}
use Rattle.program.specs.Reading.{read_program}
use Rattle.program.specs.Where.{constraints_stand}
use Rattle.rules.specs.State.{State}
use Rattle.rules.specs.Running.{Tally, on, end}
use Rattle.rules.specs.Start.{Ended}
use Rattle.rules.specs.Rules.Constraints.{FirstNot}
use Rattle.rules.specs.Rules.Proposals.{Each}
use Rattle.rules.specs.Rules.Runs.{block, Runs}
use Rattle.rules.specs.Rules.Kept.{KeptStands, in_order, Stands}

-- the lengths of the tables, and "a budget of 0 to 1,000,000"
pub record Measured (budget : ℤ) (S : State) : Type 0 where
  pub environment : length S.cells.environment ≡ environment_words
  pub heap : length S.cells.heap ≡ heap_words
  pub constraints : length S.kept ≡ constraints_words
  pub few : number_of budget ≤ 1000000

-- "0 environment, 1 heap, 2 constraints"
abbrev pub TableFits : List ℤ → State → ℕ → Type 0
TableFits program S zero = environment_fits (word_at S.cells.heap 0) S.cells.environment ≡ true
TableFits program S (suc zero) = heap_fits S.cells.heap ≡ true
TableFits program S (suc (suc k)) = constraints_stand program S.kept ≡ true

-- "Outcomes 1 to 4 are tried in that order (in 4, values before identities, in kept order)": the number and the place
pub data Unstarted (program : List ℤ) (budget : ℤ) (S : State) : ℕ → ℕ → Type 0 where
  wrong : (Measured budget S → ⊥) → Unstarted program budget S 1 0
  unreadable : {k : ℕ} → Measured budget S → read_program program ≡ stop k → Unstarted program budget S 2 k
  unfit : {k : ℕ} → Measured budget S → Program program → FirstNot (TableFits program S) (0 ∷ 1 ∷ 2 ∷ []) k → Unstarted program budget S 3 k
  broken : {s : Sort} {k : ℕ} → Measured budget S → Program program → Each (TableFits program S) (0 ∷ 1 ∷ 2 ∷ [])
      → FirstNot (KeptStands program S.cells) (in_order S.kept) (s, k) → Unstarted program budget S 4 k

-- none of them
abbrev pub Passes : List ℤ → ℤ → State → Type 0
Passes program budget S = Measured budget S × (Program program × Stands program S)

-- the tally before the first statement, and what is given for a tally, by outcome and place
abbrev pub first_tally : State → List ℤ → Tally
first_tally S ws = record { state = S; unread = ws; steps = 0; accepted = 0; tests = [] }

abbrev pub given : ℕ → ℕ → Tally → Ended
given n place u = record { outcome = n; place = place; steps = u.steps; accepted = u.accepted; state = u.state; unread = u.unread; tests = u.tests }

-- a run gives this: 1 to 4 "cost no steps, accept no proposal and change no table"; "finished; place is the program's length"; or refused on the way
pub data Answered (program ws : List ℤ) (budget : ℤ) (S : State) : Ended → Type 0 where
  unstarted : {n place : ℕ} → Unstarted program budget S n place → Answered program ws budget S (given n place (first_tally S ws))
  finished : {u : Tally} → Passes program budget S → Runs program (number_of budget) (block block_depth program) (first_tally S ws) (on u)
      → Answered program ws budget S (given 0 (length program) u)
  stopped : {n place : ℕ} {u : Tally} → Passes program budget S
      → Runs program (number_of budget) (block block_depth program) (first_tally S ws) (end n place u) → Answered program ws budget S (given n place u)
