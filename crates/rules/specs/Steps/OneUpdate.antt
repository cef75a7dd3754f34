-- What the identity phase leaves is one and the same (000, Lemma 7). Assumes nothing.
use Rattle.std.specs.Prelude.{ℕ, ◌≡◌, List}
use Rattle.tables.specs.declared.Value.{Value}
use Rattle.tables.specs.Cells.{Cells}
use Rattle.fit.specs.Fit.{Fit}
use Rattle.rules.specs.Identities.{Tie}
use Rattle.rules.specs.Rules.Identities.{Update}

-- two tables in which the class took the value and nothing else of a fit table moved are equal, word for word
abbrev pub OneUpdate : Type 0
OneUpdate =
    (ts : List Tie) (target : ℕ) (v : Value) (now Y Z : Cells)
    → Fit now → Update ts target v now Y → Update ts target v now Z
    → Y ≡ Z
