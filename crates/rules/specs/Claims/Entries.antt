-- What is claimed of a list of entries (02, W3), as of runs. Assumes nothing: these are statements.
use Rattle.std.specs.Prelude.{◌≡◌, ◌↔◌, ℕ, suc, ◌≤◌, true, ℤ, pos, length, None, Some}
use mathlib.Core.List.{List, [], ◌∷◌, ◌++◌, Memᴰ as OneOf}
use Rattle.words.specs.Words.{number_of, last_of}
use Rattle.tables.specs.declared.Value.{Value}
use Rattle.tables.specs.Cells.{Cells, Sized}
use Rattle.program.specs.Grammar.{Takes}
use Rattle.rules.specs.State.{State}
use Rattle.rules.specs.Statements.{Left}
use Rattle.rules.specs.Running.{Tally, on, end}
use Rattle.rules.specs.Start.{Ended}
use Rattle.rules.specs.Entries.{assigns}
use Rattle.rules.specs.Effects.{Effect}
use Rattle.rules.specs.Structure.{SameState}
use Rattle.rules.specs.Rules.Identities.{Phase}
use Rattle.rules.specs.Rules.Proposals.{Each}
use Rattle.rules.specs.Rules.Statements.{asking, Gives, Steps}
use Rattle.rules.specs.Rules.Runs.{statements, Runs}
use Rattle.rules.specs.Rules.Kept.{Stands}
use Rattle.rules.specs.Rules.Answers.{Unstarted, Answered, first_tally, given}
use Rattle.rules.specs.Rules.Entries.{Entry, Sets, Listed}
use Rattle.rules.specs.Claims.Room.{Stays}

-- demand 2: the call gives exactly what the rules derive
abbrev pub EntriesRules : Type 0
EntriesRules = (program entries ws : List ℤ) (budget : ℤ) (S : State) (e : Ended) → (assigns program entries ws budget S ≡ e) ↔ Listed program entries ws budget S e

-- ---- a list and the program of its assignments

-- the words of the list, and of its assignments as statements in a row
abbrev pub words_of : List (List ℤ) → List ℤ
words_of [] = []
words_of (x ∷ xs) = x ++ words_of xs

abbrev pub row_of : List (List ℤ) → List ℤ
row_of [] = []
row_of (x ∷ xs) = (pos 1 ∷ x) ++ row_of xs

-- from one tally, these statements in a row, whatever follows them in the program, and the list go through alike, or are refused alike:
-- the same number, tables, steps, accepted proposals and unread words
pub record Alike (program : List ℤ) (budget d : ℕ) (xs : List (List ℤ)) (r : List ℤ) (t : Tally) : Type 0 where
  pub through : (u : Tally) → Runs program budget (statements d (length xs) (row_of xs ++ r)) t (on u) ↔ Sets program budget 0 (words_of xs) t (given 0 (length xs) u)
  pub refused : (n : ℕ) (u : Tally) → 1 ≤ n
      → ((place : ℕ) × Runs program budget (statements d (length xs) (row_of xs ++ r)) t (end n place u)) ↔ ((i : ℕ) × Sets program budget 0 (words_of xs) t (given n i u))

abbrev pub AsAProgram : Type 0
AsAProgram = (program : List ℤ) (budget d : ℕ) (xs : List (List ℤ)) (r : List ℤ) (t : Tally) → Each Entry xs → Alike program budget d xs r t

-- the program of these assignments and nothing else, and what an answer has beside its outcome and its place
abbrev pub program_of : List (List ℤ) → List ℤ
program_of xs = pos (length xs) ∷ row_of xs

abbrev pub tally_in : Ended → Tally
tally_in e = record { state = e.state; unread = e.unread; steps = e.steps; accepted = e.accepted; tests = e.tests }

-- a run of that program and the list over it, from the same state, give the same outcome, tables, steps, accepted proposals and unread words
abbrev pub AsItsProgram : Type 0
AsItsProgram = (xs : List (List ℤ)) (ws : List ℤ) (budget : ℤ) (S : State) (a b : Ended) → Each Entry xs
    → Answered (program_of xs) ws budget S a → Listed (program_of xs) (words_of xs) ws budget S b → (a.outcome ≡ b.outcome) × (tally_in a ≡ tally_in b)

-- ---- demand 1: what every answer of the call keeps to

-- the first n entries of the list, accepted one after the other, lead from S and ws to these tables and unread words
pub data Went (program : List ℤ) : ℕ → List ℤ → State → List ℤ → State → List ℤ → Type 0 where
  no_more : {p ws : List ℤ} {S : State} → Went program 0 p S ws S ws
  next : {n : ℕ} {p q ws us : List ℤ} {S Z : State} {l : Left} → (x : Takes Entry p q)
      → Steps program S ws (pos 1 ∷ x.words) l → Went program n q l.state l.unread Z us → Went program (suc n) p S ws Z us

pub record Kept (program entries ws : List ℤ) (budget : ℤ) (S : State) (e : Ended) : Type 0 where
  -- "Refusals: those of 01, and 23"; 10, 11 and 14 are other statements', 8 and 9 other expressions'
  pub known : OneOf e.outcome (0 ∷ 1 ∷ 2 ∷ 3 ∷ 4 ∷ 5 ∷ 6 ∷ 7 ∷ 12 ∷ 13 ∷ 15 ∷ 16 ∷ 17 ∷ 18 ∷ 19 ∷ 23 ∷ [])
  pub early : 1 ≤ e.outcome → e.outcome ≤ 4 → Unstarted program budget S e.outcome e.place × (e ≡ given e.outcome e.place (first_tally S ws))
  -- the place is the index, or the number of all: so many entries went through, each with a proposal and a step
  pub went : (1 ≤ e.outcome → 5 ≤ e.outcome) → (e.accepted ≡ e.place) × Went program e.place entries S ws e.state e.unread
  -- a refused one too costs a step, but for 5 and 23
  pub counted : OneOf e.outcome (0 ∷ 5 ∷ 23 ∷ []) → e.steps ≡ e.accepted
  pub begun : 6 ≤ e.outcome → e.outcome ≤ 19 → e.steps ≡ suc e.accepted
  pub steps : e.steps ≤ number_of budget
  pub accepted : e.accepted ≤ e.steps
  pub unread : e.unread ≡ last_of (length e.unread) ws

abbrev pub EntriesAnswers : Type 0
EntriesAnswers = (program entries ws : List ℤ) (budget : ℤ) (S : State) (e : Ended) → Listed program entries ws budget S e → Kept program entries ws budget S e

-- ---- demand 3

-- what is kept holds wherever a list stops
abbrev pub EntriesStand : Type 0
EntriesStand = (program entries ws : List ℤ) (budget : ℤ) (S : State) (e : Ended)
    → (1 ≤ e.outcome → 5 ≤ e.outcome) → Listed program entries ws budget S e → Stands program e.state

-- an accepted entry gives its value to the target's class, and then its proposal moves integers and booleans, each to its own kind, and nothing else
pub record Moved (program : List ℤ) (S : State) (p : List ℤ) (Z : State) : Type 0 where
  pub target : ℕ
  pub prefix : List ℕ
  pub value : Value
  pub now : Cells
  pub gives : Gives S.cells p target prefix value S.cells
  pub phase : Phase program S.kept S.cells S.cells target prefix value now
  pub proposed : Effect (asking None (Some target) true) now Z.cells
  pub kept : Z.kept ≡ S.kept

abbrev pub EntriesMove : Type 0
EntriesMove = (program x ws : List ℤ) (S : State) (l : Left) → Entry x → Sized S.cells → Steps program S ws (pos 1 ∷ x) l → Moved program S (pos 1 ∷ x) l.state

-- two lists of the same entries from one start that both go through leave one structure, whatever was proposed and whatever the budgets were
abbrev pub EntriesStructure : Type 0
EntriesStructure = (program entries ws us : List ℤ) (budget budget' : ℤ) (S : State) (a b : Ended) → Listed program entries ws budget S a → Listed program entries us budget' S b
    → a.outcome ≡ 0 → b.outcome ≡ 0 → SameState a.state b.state

-- "No room is given back."
abbrev pub EntriesStay : Type 0
EntriesStay = (program entries ws : List ℤ) (budget : ℤ) (S : State) (e : Ended) → Listed program entries ws budget S e → Stays S e.state
