-- What a host may rely on: the claims of the rules on lists, said of what assign leaves and hands back. Assumes nothing: these are statements.
use Rattle.std.specs.Prelude.{◌≡◌, suc, ◌≤◌, ℤ, length}
use mathlib.Core.List.{List, [], ◌∷◌, Memᴰ as OneOf}
use Rattle.words.specs.Words.{number_of, number_at, last_of}
use Rattle.rules.specs.State.{State}
use Rattle.rules.specs.Start.{Ended}
use Rattle.rules.specs.Entries.{assigns}
use Rattle.rules.specs.Structure.{SameState}
use Rattle.rules.specs.Claims.Entries.{Went}
use Rattle.rules.specs.Rules.Kept.{Stands}
use Rattle.rules.specs.Rules.Entries.{Listed}
use Rattle.run.specs.Told.{Meets}

-- demand 1: the four words are outcome, place, steps and accepted proposals
pub record Keeps (program entries ws : List ℤ) (budget : ℤ) (S Z : State) (answer unread : List ℤ) : Type 0 where
  pub four : length answer ≡ 4
  pub known : OneOf (number_at answer 0) (0 ∷ 1 ∷ 2 ∷ 3 ∷ 4 ∷ 5 ∷ 6 ∷ 7 ∷ 12 ∷ 13 ∷ 15 ∷ 16 ∷ 17 ∷ 18 ∷ 19 ∷ 23 ∷ [])
  pub untouched : 1 ≤ number_at answer 0 → number_at answer 0 ≤ 4 → (Z ≡ S) × ((unread ≡ ws) × ((number_at answer 2 ≡ 0) × (number_at answer 3 ≡ 0)))
  -- the place is the index of the refused entry, or the number of all: so many went through, each with a proposal and a step; a refused one too costs a step, but for 5 and 23
  pub went : (1 ≤ number_at answer 0 → 5 ≤ number_at answer 0) → (number_at answer 3 ≡ number_at answer 1) × Went program (number_at answer 1) entries S ws Z unread
  pub counted : OneOf (number_at answer 0) (0 ∷ 5 ∷ 23 ∷ []) → number_at answer 2 ≡ number_at answer 3
  pub begun : 6 ≤ number_at answer 0 → number_at answer 0 ≤ 19 → number_at answer 2 ≡ suc (number_at answer 3)
  pub steps : number_at answer 2 ≤ number_of budget
  pub part : unread ≡ last_of (length unread) ws

abbrev pub EveryAnswer : Type 0
EveryAnswer = (program entries ws : List ℤ) (budget : ℤ) (S Z : State) (a u : List ℤ) → Meets Z a u (assigns program entries ws budget S) → Keeps program entries ws budget S Z a u

-- demand 2: the rules derive an answer, and the four words, the tables and the unread words are those of every answer that they derive, whatever its outcome
abbrev pub AnswersExactly : Type 0
AnswersExactly = (program entries ws : List ℤ) (budget : ℤ) (S Z : State) (a u : List ℤ) → Meets Z a u (assigns program entries ws budget S)
    → ((e : Ended) × Listed program entries ws budget S e) × ((e : Ended) → Listed program entries ws budget S e → Meets Z a u e)

-- demand 3: wherever a list stops whose outcome is 0 or from 5 on, the tables are fit and what is kept holds, whatever the proposals said
abbrev pub StandsAfter : Type 0
StandsAfter = (program entries ws : List ℤ) (budget : ℤ) (S Z : State) (a u : List ℤ)
    → Meets Z a u (assigns program entries ws budget S) → (1 ≤ number_at a 0 → 5 ≤ number_at a 0) → Stands program Z

-- two lists of the same entries that go through leave one structure
abbrev pub OneStructure : Type 0
OneStructure = (program entries ws us : List ℤ) (budget budget' : ℤ) (S Z Y : State) (a b u w : List ℤ)
    → Meets Z a u (assigns program entries ws budget S) → Meets Y b w (assigns program entries us budget' S)
    → number_at a 0 ≡ 0 → number_at b 0 ≡ 0 → SameState Z Y
