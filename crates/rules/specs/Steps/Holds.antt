-- What a run must never lose, by the definitions. Assumes nothing: these are definitions.
use Rattle.std.specs.Prelude.{ℕ, ◌+◌, ◌≤◌, ◌≡◌, true, List, ℤ, length, drop}
use Rattle.words.specs.Words.{number_at}
use Rattle.words.specs.Answer.{got}
use Rattle.tables.specs.declared.Sort.TheVariants.{Values, Identities}
use Rattle.tables.specs.Sizes.{constraints_words}
use Rattle.tables.specs.Cells.{Cells}
use Rattle.fit.specs.Fit.{Fit}
use Rattle.program.specs.Forms.{most_words}
use Rattle.program.specs.Reading.{read_statement}
use Rattle.program.specs.Where.{spot_of, statement_at, constraints_stand}
use Rattle.rules.specs.State.{State, positions}
use Rattle.rules.specs.Constraints.{Part, kept_at}
use Rattle.rules.specs.Identities.{same_now}
use Rattle.rules.specs.Statements.{position_of}
use Rattle.rules.specs.Rules.Proposals.{Each, Met}

-- the value constraint at a position reads, and each of its required parts is true
pub record ValueHolds (program : List ℤ) (S : Cells) (position : ℕ) : Type 0 where
  pub parts : List Part
  pub reads : kept_at program S position ≡ got parts
  pub met : Each Met parts

-- both sides of the identity at a position hold the same reference, or nil
abbrev pub IdentityHolds : List ℤ → Cells → ℕ → Type 0
IdentityHolds program S position = same_now S (drop position program) (drop (position + 1) program) ≡ got tt

-- the tables are fit, every kept position is that of an always-statement of its sort, and every kept constraint holds
pub record Holds (program : List ℤ) (S : State) : Type 0 where
  pub fit : Fit S.cells
  pub long : length S.kept ≡ constraints_words
  pub stands : constraints_stand program S.kept ≡ true
  pub values : Each (ValueHolds program S.cells) (positions S.kept Values)
  pub identities : Each (IdentityHolds program S.cells) (positions S.kept Identities)

-- p begins with a statement
pub record StatementReads (p : List ℤ) : Type 0 where
  pub nest : ℕ
  pub rest : List ℤ
  pub reads : read_statement nest p ≡ got rest

-- p is the part of the program that begins at a statement of it
pub record StatementThere (program p : List ℤ) : Type 0 where
  pub short : length program ≤ most_words
  pub part : drop (position_of program p) program ≡ p
  pub statement : StatementReads p
  pub there : statement_at program (position_of program p) ≡ spot_of (number_at p 0) statement.nest
