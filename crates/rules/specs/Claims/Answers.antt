-- What every answer that the rules derive keeps to, whatever the program, the proposals, the budget and the tables are. Assumes nothing: this is a statement.
use Rattle.std.specs.Prelude.{◌≡◌, ◌≢◌, ℕ, ◌+◌, ◌≤◌, ◌<◌, Bool, true, false, ℤ, pos, length, drop, None}
use mathlib.Core.List.{List, [], ◌∷◌, Memᴰ as OneOf}
use Rattle.words.specs.Words.{number_of, last_of}
use Rattle.tables.specs.declared.Value.{Value}
use Rattle.tables.specs.declared.Sort.TheVariants.{Values}
use Rattle.tables.specs.declared.Kind.{Kind}
use Rattle.tables.specs.declared.Kind.TheVariants.{Bool as is_bool}
use Rattle.tables.specs.Cells.{Cells}
use Rattle.program.specs.Forms.{most_words, expression_depth}
use Rattle.program.specs.Grammar.{statement_of, Yields, Expression, Takes}
use Rattle.program.specs.Where.{statement_at}
use Rattle.rules.specs.State.{State, positions}
use Rattle.rules.specs.Start.{Ended}
use Rattle.rules.specs.Statements.{Left, position_of}
use Rattle.rules.specs.Rules.Expressions.{Holds, Lost, Comes, Unmade}
use Rattle.rules.specs.Rules.Constraints.{Reads, FirstNot}
use Rattle.rules.specs.Rules.Identities.{Node, Phase}
use Rattle.rules.specs.Rules.Statements.{Gives, Steps}
use Rattle.rules.specs.Rules.Kept.{AtStatement}
use Rattle.rules.specs.Rules.Answers.{Unstarted, first_tally, given, Answered}

-- tables, unread words and proposals accepted that a chain of accepted statements of the program leads to
pub data Reached (program ws : List ℤ) (S : State) : State → List ℤ → ℕ → Type 0 where
  at_first : Reached program ws S S ws 0
  after_one : {Z : State} {us p : List ℤ} {n : ℕ} {l : Left}
      → Reached program ws S Z us n → AtStatement program p → Steps program Z us p l → Reached program ws S l.state l.unread (n + l.accepted)

-- what 7, 8 or 9 finds at its word, inside C (true) or outside it: an L that leads nowhere; an operator (25) that makes no value; a test, or a part (at its priority), that is no boolean;
-- a side of L == L that is neither a reference nor nil
pub data Wrong (S : Cells) : Bool → ℕ → List ℤ → Type 0 where
  path : {c : Bool} {p : List ℤ} → Lost S p → Wrong S c 7 p
  operator : {c : Bool} {d n : ℕ} {p : List ℤ} → Unmade S c d p n → Wrong S c n (pos 25 ∷ p)
  test : {k : Kind} {p q : List ℤ} → Comes S false expression_depth p k q → k ≢ is_bool → Wrong S false 8 p
  part : {priority : ℕ} {k : Kind} {p q : List ℤ} → Comes S true expression_depth p k q → k ≢ is_bool → Wrong S true 8 (pos priority ∷ p)
  side : {v : Value} {p q : List ℤ} → Holds S p v q → (Node v → ⊥) → Wrong S false 8 p

-- it is found at a place among the words of the statement at p: behind the first of one that holds no block, or in the test of an if or while
pub data Found (program : List ℤ) (S : Cells) (n place : ℕ) : Bool → List ℤ → Type 0 where
  in_statement : {c : Bool} {p q : List ℤ} → Takes (Yields (statement_of 0)) p q → position_of program p < place → place < position_of program q → Wrong S c n (drop place program) → Found program S n place c p
  in_test : {verb : ℕ} {p q : List ℤ}
      → 7 ≤ verb → Takes (Expression false expression_depth) p q → position_of program p ≤ place → place < position_of program q → Wrong S false n (drop place program) → Found program S n place false (pos verb ∷ p)

-- the place of 7, 8 and 9 is a word of the statement at p; that of 15 is a word of the first kept constraint that does not read once the target's class has its value
pub data Inside (program : List ℤ) (S : State) (p : List ℤ) (place : ℕ) : ℕ → Type 0 where
  of_statement : {c : Bool} {n : ℕ} → Found program S.cells n place c p → Inside program S p place n
  of_kept : {n k target : ℕ} {prefix : List ℕ} {v : Value} {N Y : Cells} → Gives S.cells p target prefix v N → Phase program S.kept S.cells N target prefix v Y
      → FirstNot (Reads program Y) (positions S.kept Values) k → Found program Y n place true (drop k program) → Inside program S p place 15

pub record Answer (program ws : List ℤ) (budget : ℤ) (S : State) (e : Ended) : Type 0 where
  -- "No. 0 to 19"
  pub known : e.outcome ≤ 19
  -- "finished; place is the program's length"
  pub finished : e.outcome ≡ 0 → e.place ≡ length program
  -- 1 to 4: the number and the place are those of the first thing that is wrong; they "cost no steps, accept no proposal and change no table"
  pub early : 1 ≤ e.outcome → e.outcome ≤ 4 → Unstarted program budget S e.outcome e.place × (e ≡ given e.outcome e.place (first_tally S ws))
  -- 2: "place is the first unfit word, or the length if words run out; over 4,096 words: always 4096"
  pub unread_place : e.outcome ≡ 2 → (e.place ≤ most_words) × ((e.place ≤ length program) × (most_words < length program → e.place ≡ most_words))
  -- "From 5 on, place is the statement's word", but for 7, 8, 9 and 15 (02, W2)
  pub at_statement : 5 ≤ e.outcome → (OneOf e.outcome (7 ∷ 8 ∷ 9 ∷ 15 ∷ []) → ⊥) → statement_at program e.place ≡ None → ⊥
  pub inside : OneOf e.outcome (7 ∷ 8 ∷ 9 ∷ 15 ∷ []) → (p : List ℤ) × (AtStatement program p × Inside program e.state p e.place e.outcome)
  -- the counts, and the unread words "as a part of that slice"
  pub steps : e.steps ≤ number_of budget
  pub accepted : e.accepted ≤ e.steps
  pub unread : e.unread ≡ last_of (length e.unread) ws
  -- "the tables hold what the last accepted statement left"; a turned-down proposal is unread
  pub reached : Reached program ws S e.state e.unread e.accepted

abbrev pub Answers : Type 0
Answers = (program ws : List ℤ) (budget : ℤ) (S : State) (e : Ended) → Answered program ws budget S e → Answer program ws budget S e
