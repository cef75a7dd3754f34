-- What a host may rely on: the claims of the rules, said of what run leaves and hands back. Assumes nothing: these are statements.
use Rattle.std.specs.Prelude.{◌≡◌, ◌≤◌, ℤ, length, None}
use mathlib.Core.List.{List, [], ◌∷◌, Memᴰ as OneOf}
use Rattle.words.specs.Words.{number_of, number_at, last_of}
use Rattle.program.specs.Where.{statement_at}
use Rattle.rules.specs.State.{State}
use Rattle.rules.specs.Start.{Ended, run}
use Rattle.rules.specs.Claims.Answers.{Inside, Reached}
use Rattle.rules.specs.Structure.{SameState}
use Rattle.rules.specs.Rules.Kept.{AtStatement, Stands}
use Rattle.rules.specs.Rules.Answers.{Answered}
use Rattle.run.specs.Told.{Meets}

-- any two answers that a promise to meet the rules' answer allows, as that of run, are equal: the tables, the four words, and the unread words
abbrev pub OneAnswer : Type 0
OneAnswer = (e : Ended) (Z Y : State) (a b u w : List ℤ) → Meets Z a u e → Meets Y b w e → (Z ≡ Y) × ((a ≡ b) × (u ≡ w))

-- demand 1: the four words are outcome, place, steps and accepted proposals
pub record Keeps (program ws : List ℤ) (budget : ℤ) (S Z : State) (answer unread : List ℤ) : Type 0 where
  pub four : length answer ≡ 4
  pub known : number_at answer 0 ≤ 19
  pub untouched : 1 ≤ number_at answer 0 → number_at answer 0 ≤ 4 → (Z ≡ S) × ((unread ≡ ws) × ((number_at answer 2 ≡ 0) × (number_at answer 3 ≡ 0)))
  pub at_statement : 5 ≤ number_at answer 0 → (OneOf (number_at answer 0) (7 ∷ 8 ∷ 9 ∷ 15 ∷ []) → ⊥) → statement_at program (number_at answer 1) ≡ None → ⊥
  pub inside : OneOf (number_at answer 0) (7 ∷ 8 ∷ 9 ∷ 15 ∷ []) → (p : List ℤ) × (AtStatement program p × Inside program Z p (number_at answer 1) (number_at answer 0))
  pub steps : number_at answer 2 ≤ number_of budget
  pub accepted : number_at answer 3 ≤ number_at answer 2
  pub part : unread ≡ last_of (length unread) ws
  pub reached : Reached program ws S Z unread (number_at answer 3)

abbrev pub EveryAnswer : Type 0
EveryAnswer = (program ws : List ℤ) (budget : ℤ) (S Z : State) (a u : List ℤ) → Meets Z a u (run program ws budget S) → Keeps program ws budget S Z a u

-- demand 2: the rules derive an answer, and the four words, the tables and the unread words are those of every answer that they derive, whatever its outcome
abbrev pub AnswersExactly : Type 0
AnswersExactly = (program ws : List ℤ) (budget : ℤ) (S Z : State) (a u : List ℤ) → Meets Z a u (run program ws budget S)
    → ((e : Ended) × Answered program ws budget S e) × ((e : Ended) → Answered program ws budget S e → Meets Z a u e)

-- demand 3: wherever a run stops whose outcome is 0 or from 5 on, the tables are fit and what is kept holds, whatever the proposals said
abbrev pub StandsAfter : Type 0
StandsAfter = (program ws : List ℤ) (budget : ℤ) (S Z : State) (a u : List ℤ) → Meets Z a u (run program ws budget S) → (1 ≤ number_at a 0 → 5 ≤ number_at a 0) → Stands program Z

-- two runs that finish, with tests that came out alike, leave one structure
abbrev pub OneStructure : Type 0
OneStructure = (program ws us : List ℤ) (budget budget' : ℤ) (S Z Y : State) (a b u w : List ℤ)
    → Meets Z a u (run program ws budget S) → Meets Y b w (run program us budget' S)
    → number_at a 0 ≡ 0 → number_at b 0 ≡ 0 → (run program ws budget S).tests ≡ (run program us budget' S).tests → SameState Z Y
