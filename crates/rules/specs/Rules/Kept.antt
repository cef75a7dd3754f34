-- What a run must never lose: fit tables, and every kept constraint and identity true. Assumes nothing: these are definitions.
use Rattle.std.specs.Prelude.{ℕ, ◌+◌, ◌≡◌, true, List, map, ◌++◌, ℤ, length, drop}
use Rattle.tables.specs.declared.Sort.{Sort}
use Rattle.tables.specs.declared.Sort.TheVariants.{Values, Identities}
use Rattle.tables.specs.Sizes.{constraints_words}
use Rattle.tables.specs.Cells.{Cells}
use Rattle.fit.specs.Fit.{Fit}
use Rattle.program.specs.Where.{spot_of, statement_at, constraints_stand}
use Rattle.rules.specs.State.{State, positions}
use Rattle.rules.specs.Constraints.{Part}
use Rattle.rules.specs.Rules.Constraints.{ConstraintIs}
use Rattle.rules.specs.Rules.Identities.{Same}
use Rattle.rules.specs.Rules.Proposals.{Each, Met}

-- what is kept at a position holds: a value constraint reads, and each of its required parts is true; both sides of an identity hold the same reference, or nil
abbrev pub KeptStands : List ℤ → Cells → Sort × ℕ → Type 0
KeptStands program S (Values, position) = (parts : List Part) × (ConstraintIs S (drop (position + 1) program) parts × Each Met parts)
KeptStands program S (Identities, position) = Same S (drop (position + 1) program)

-- "values before identities, in kept order"
abbrev pub in_order : List ℤ → List (Sort × ℕ)
in_order kept = map (λ k. (Values, k)) (positions kept Values) ++ map (λ k. (Identities, k)) (positions kept Identities)

-- the tables are fit, every kept position is that of an always-statement of its sort, and every kept constraint holds
pub record Stands (program : List ℤ) (S : State) : Type 0 where
  pub fit : Fit S.cells
  pub long : length S.kept ≡ constraints_words
  pub positions-stand : constraints_stand program S.kept ≡ true
  pub constraints : Each (KeptStands program S.cells) (in_order S.kept)

-- p is the part of the program that begins at a statement of it
pub data AtStatement (program : List ℤ) : List ℤ → Type 0 where
  at : (k : ℕ) {verb nest : ℕ} → statement_at program k ≡ spot_of verb nest → AtStatement program (drop k program)
