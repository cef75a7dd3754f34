-- What is claimed of one statement with two proposals (02, W6), as of runs. Assumes nothing: these are statements.
use Rattle.std.specs.Prelude.{◌≡◌, ◌↔◌, ◌⊎◌, ℕ, zero, suc, ◌≤◌, true, ℤ, pos, length, take, None, Some}
use mathlib.Core.List.{List, [], ◌∷◌, Memᴰ as OneOf}
use Rattle.tables.specs.declared.Value.{Value}
use Rattle.tables.specs.declared.Sort.TheVariants.{Values}
use Rattle.tables.specs.Cells.{Cells}
use Rattle.rules.specs.State.{State, Fault}
use Rattle.rules.specs.Statements.{Left, position_of}
use Rattle.rules.specs.Solvers.{Given, ask}
use Rattle.rules.specs.Effects.{Effect}
use Rattle.rules.specs.Structure.{SameState}
use Rattle.rules.specs.Rules.Identities.{Phase}
use Rattle.rules.specs.Rules.Statements.{Keeps, asking, Gives, Refused}
use Rattle.rules.specs.Rules.Kept.{Stands}
use Rattle.rules.specs.Rules.Answers.{Unstarted, Passes}
use Rattle.rules.specs.Rules.Solvers.{Named, Accepts, Asks, turning, TurnsDown, accepted, turned_down, Asked}
use Rattle.rules.specs.Claims.Answers.{Inside}
use Rattle.rules.specs.Claims.Room.{Stays}

-- demand 2: the call gives exactly what the rules derive
abbrev pub SolversRules : Type 0
SolversRules = (program : List ℤ) (word : ℤ) (first second : List ℤ) (S : State) (e : Given) → (ask program word first second S ≡ e) ↔ Asked program word first second S e

-- ---- one of the two alone

abbrev pub Alone : List ℤ → State → List ℤ → List ℤ → Type 0
Alone program S p ws = (l : Left) × Accepts program S p ws l

-- accepted exactly when one of the two alone would be, the first before the second; the tables are those of the statement with the accepted proposal alone
pub record OneOfTwo (program : List ℤ) (word : ℤ) (first second : List ℤ) (S : State) (p : List ℤ) (e : Given) : Type 0 where
  pub either : (e.outcome ≡ 0) ↔ (Alone program S p first ⊎ Alone program S p second)
  pub by_first : (l : Left) → Accepts program S p first l → e ≡ accepted word 1 first l.state
  pub by_second : (l : Left) → (Alone program S p first → ⊥) → Accepts program S p second l → e ≡ accepted word 2 second l.state

abbrev pub SolversAlone : Type 0
SolversAlone = (program : List ℤ) (word : ℤ) (first second : List ℤ) (S : State) (p : List ℤ) (e : Given)
    → Passes program (pos 0) S → Named program word p → Asked program word first second S e → OneOfTwo program word first second S p e

-- ---- demand 1: what every answer of the call keeps to

-- of two, that of a solver; where none is told, the first
abbrev pub slice_of : {A : Type 0} → ℕ → A → A → A
slice_of zero first second = first
slice_of (suc zero) first second = first
slice_of (suc (suc k)) first second = second

pub record Kept (program : List ℤ) (word : ℤ) (first second : List ℤ) (S : State) (e : Given) : Type 0 where
  -- "Refusals: no new number"; there is no budget (5), and 11 is the identities'
  pub known : OneOf e.outcome (0 ∷ 1 ∷ 2 ∷ 3 ∷ 4 ∷ 6 ∷ 7 ∷ 8 ∷ 9 ∷ 10 ∷ 12 ∷ 13 ∷ 14 ∷ 15 ∷ 16 ∷ 17 ∷ 18 ∷ 19 ∷ [])
  pub accepts : e.outcome ≡ 0 → (e.place ≡ word) × (OneOf e.solver (1 ∷ 2 ∷ []) × (e.words ≡ slice_of e.solver first second))
  -- refused: no solver, no word, and every word of the tables as before
  pub refuses : 1 ≤ e.outcome → e ≡ turned_down S e.outcome e.place
  -- "as a part of whichever slice they came from", "the empty start of the first slice"
  pub part : e.words ≡ take (length e.words) (slice_of e.solver first second)
  -- 1 to 4: the first thing that is wrong, as in a run; or 2 for a word that names no statement
  pub early : 1 ≤ e.outcome → e.outcome ≤ 4
      → ((k : ℕ) × ((e.place ≡ pos k) × Unstarted program (pos 0) S e.outcome k)) ⊎ ((e.outcome ≡ 2) × ((e.place ≡ word) × ((p : List ℤ) → Named program word p → ⊥)))
  -- from 5 on the place is a run's: the statement's word, but for 7, 8, 9 and 15
  pub at_statement : 5 ≤ e.outcome → (OneOf e.outcome (7 ∷ 8 ∷ 9 ∷ 15 ∷ []) → ⊥) → e.place ≡ word
  pub inside : OneOf e.outcome (7 ∷ 8 ∷ 9 ∷ 15 ∷ []) → (p : List ℤ) × (Named program word p × ((k : ℕ) × ((e.place ≡ pos k) × Inside program S p k e.outcome)))

abbrev pub SolversAnswers : Type 0
SolversAnswers = (program : List ℤ) (word : ℤ) (first second : List ℤ) (S : State) (e : Given) → Asked program word first second S e → Kept program word first second S e

-- ---- demand 3

-- what is kept holds after it, whatever was proposed
abbrev pub SolversStand : Type 0
SolversStand = (program : List ℤ) (word : ℤ) (first second : List ℤ) (S : State) (e : Given)
    → (1 ≤ e.outcome → 5 ≤ e.outcome) → Asked program word first second S e → Stands program e.state

-- the accepted proposal moves integers and booleans, each to its own kind, and nothing else: after the target's class has its value, or in the state before the constraint, of which an
-- always keeps the position
pub data Moves (program : List ℤ) (S : State) : List ℤ → State → Type 0 where
  given : {target : ℕ} {prefix : List ℕ} {v : Value} {N Y Z : Cells} {p : List ℤ}
      → Gives S.cells p target prefix v N → Phase program S.kept S.cells N target prefix v Y → Effect (asking None (Some target) true) Y Z → Moves program S p (record { cells = Z; kept = S.kept })
  always : {Z : Cells} {p kept : List ℤ}
      → Effect (asking (Some p) None true) S.cells Z → Keeps S.kept Values (position_of program (pos 3 ∷ p)) kept → Moves program S (pos 3 ∷ p) (record { cells = Z; kept = kept })
  once : {Z : Cells} {p : List ℤ} → Effect (asking (Some p) None true) S.cells Z → Moves program S (pos 4 ∷ p) (record { cells = Z; kept = S.kept })

abbrev pub SolversMove : Type 0
SolversMove = (program : List ℤ) (word : ℤ) (first second : List ℤ) (S : State) (e : Given)
    → e.outcome ≡ 0 → Asked program word first second S e → (p : List ℤ) × (Named program word p × Moves program S p e.state)

-- where the statement comes to its proposal, a slice is accepted or one number turns it down; any other refusal is the same whatever is proposed
pub record Judged (program : List ℤ) (S : State) (p ws : List ℤ) : Type 0 where
  pub some : Asks program S p → Alone program S p ws ⊎ ((f : Fault) × TurnsDown program S p ws f)
  pub never_both : {l : Left} {f : Fault} → Accepts program S p ws l → TurnsDown program S p ws f → ⊥
  pub one_number : {f g : Fault} → TurnsDown program S p ws f → TurnsDown program S p ws g → f ≡ g
  pub by_itself : {f : Fault} → Refused program S ws p f → (OneOf f.number turning → ⊥) → (us : List ℤ) → Refused program S us p f

abbrev pub SolversJudged : Type 0
SolversJudged = (program : List ℤ) (word : ℤ) (S : State) (p ws : List ℤ) → Passes program (pos 0) S → Named program word p → Judged program S p ws

-- two calls for one statement from one start, both accepted, leave one structure, whatever was proposed
abbrev pub SolversStructure : Type 0
SolversStructure = (program : List ℤ) (word : ℤ) (first second third fourth : List ℤ) (S : State) (a b : Given)
    → Asked program word first second S a → Asked program word third fourth S b → a.outcome ≡ 0 → b.outcome ≡ 0 → SameState a.state b.state

-- "No room is given back."
abbrev pub SolversStay : Type 0
SolversStay = (program : List ℤ) (word : ℤ) (first second : List ℤ) (S : State) (e : Given) → Asked program word first second S e → Stays S e.state
