-- What a host may rely on: the claims of the rules on two proposals, said of what ask leaves and hands back. Assumes nothing: these are statements.
use Rattle.std.specs.Prelude.{◌≡◌, ◌≤◌, ℤ, pos, length}
use mathlib.Core.List.{List, [], ◌∷◌, Memᴰ as OneOf}
use Rattle.words.specs.Words.{word_at, number_at}
use Rattle.rules.specs.State.{State}
use Rattle.rules.specs.Statements.{Left}
use Rattle.rules.specs.Solvers.{Given, ask}
use Rattle.rules.specs.Structure.{SameState}
use Rattle.rules.specs.Claims.Answers.{Inside}
use Rattle.rules.specs.Claims.Solvers.{slice_of, Alone, Moves}
use Rattle.rules.specs.Rules.Answers.{Passes}
use Rattle.rules.specs.Rules.Kept.{Stands}
use Rattle.rules.specs.Rules.Solvers.{Named, Accepts, Asked}
use Rattle.solvers.specs.Told.{Hands}

-- any two answers that the promise allows are equal: the tables, the three words, and the accepted words
abbrev pub OneAnswer : Type 0
OneAnswer = (first second : List ℤ) (e : Given) (Z Y : State) (a b u w : List ℤ) → Hands first second Z a u e → Hands first second Y b w e → (Z ≡ Y) × ((a ≡ b) × (u ≡ w))

-- demand 1: the three words are outcome, place and solver
pub record Keeps (program : List ℤ) (word : ℤ) (first second : List ℤ) (S Z : State) (answer words : List ℤ) : Type 0 where
  pub three : length answer ≡ 3
  pub known : OneOf (number_at answer 0) (0 ∷ 1 ∷ 2 ∷ 3 ∷ 4 ∷ 6 ∷ 7 ∷ 8 ∷ 9 ∷ 10 ∷ 12 ∷ 13 ∷ 14 ∷ 15 ∷ 16 ∷ 17 ∷ 18 ∷ 19 ∷ [])
  pub accepts : number_at answer 0 ≡ 0 → (word_at answer 1 ≡ word) × (OneOf (number_at answer 2) (1 ∷ 2 ∷ []) × (words ≡ slice_of (number_at answer 2) first second))
  -- refused: every word of the tables as before
  pub untouched : 1 ≤ number_at answer 0 → (Z ≡ S) × ((words ≡ []) × (number_at answer 2 ≡ 0))
  pub at_statement : 5 ≤ number_at answer 0 → (OneOf (number_at answer 0) (7 ∷ 8 ∷ 9 ∷ 15 ∷ []) → ⊥) → word_at answer 1 ≡ word
  pub inside : OneOf (number_at answer 0) (7 ∷ 8 ∷ 9 ∷ 15 ∷ []) → (p : List ℤ) × (Named program word p × Inside program S p (number_at answer 1) (number_at answer 0))

abbrev pub EveryAnswer : Type 0
EveryAnswer = (program : List ℤ) (word : ℤ) (first second : List ℤ) (S Z : State) (a u : List ℤ)
    → Hands first second Z a u (ask program word first second S) → Keeps program word first second S Z a u

-- demand 2: the rules derive an answer, and the three words, the tables and the accepted words are those of every answer that they derive, whatever its outcome
abbrev pub AnswersExactly : Type 0
AnswersExactly = (program : List ℤ) (word : ℤ) (first second : List ℤ) (S Z : State) (a u : List ℤ) → Hands first second Z a u (ask program word first second S)
    → ((e : Given) × Asked program word first second S e) × ((e : Given) → Asked program word first second S e → Hands first second Z a u e)

-- where the start passes and the word is a statement's, the first slice is accepted if it would be alone, else the second if it would be, with the tables that it leaves alone; else neither
pub record FirstOrSecond (program : List ℤ) (word : ℤ) (first second : List ℤ) (S : State) (p : List ℤ) (Z : State) (answer : List ℤ) : Type 0 where
  pub by_first : (l : Left) → Accepts program S p first l → (number_at answer 0 ≡ 0) × ((number_at answer 2 ≡ 1) × (Z ≡ l.state))
  pub by_second : (l : Left) → (Alone program S p first → ⊥) → Accepts program S p second l → (number_at answer 0 ≡ 0) × ((number_at answer 2 ≡ 2) × (Z ≡ l.state))
  pub by_neither : (Alone program S p first → ⊥) → (Alone program S p second → ⊥) → 1 ≤ number_at answer 0

abbrev pub EitherAlone : Type 0
EitherAlone = (program : List ℤ) (word : ℤ) (first second : List ℤ) (S Z : State) (a u p : List ℤ) → Hands first second Z a u (ask program word first second S)
    → Passes program (pos 0) S → Named program word p → FirstOrSecond program word first second S p Z a

-- demand 3: where the outcome is 0 or from 5 on, the tables are fit and what is kept holds, whatever was proposed
abbrev pub StandsAfter : Type 0
StandsAfter = (program : List ℤ) (word : ℤ) (first second : List ℤ) (S Z : State) (a u : List ℤ)
    → Hands first second Z a u (ask program word first second S) → (1 ≤ number_at a 0 → 5 ≤ number_at a 0) → Stands program Z

-- what an accepted proposal moves
abbrev pub MovesOnly : Type 0
MovesOnly = (program : List ℤ) (word : ℤ) (first second : List ℤ) (S Z : State) (a u : List ℤ)
    → Hands first second Z a u (ask program word first second S) → number_at a 0 ≡ 0 → (p : List ℤ) × (Named program word p × Moves program S p Z)

-- two accepted calls for one statement leave one structure
abbrev pub OneStructure : Type 0
OneStructure = (program : List ℤ) (word : ℤ) (first second third fourth : List ℤ) (S Z Y : State) (a b u w : List ℤ)
    → Hands first second Z a u (ask program word first second S) → Hands third fourth Y b w (ask program word third fourth S)
    → number_at a 0 ≡ 0 → number_at b 0 ≡ 0 → SameState Z Y
