-- The claims of the rules about proposals, said of what the code answers and leaves. Assumes nothing: these are statements.
use Rattle.std.specs.Prelude.{◌≡◌, ◌↔◌, List, ℕ, ℤ, length, Result, Ok, Err}
use Rattle.tables.specs.Cells.{Cells, Sized}
use Rattle.rules.specs.Proposals.{Asked, settle}
use Rattle.rules.specs.Effects.{Effect}
use Rattle.rules.specs.Rules.Proposals.{Settles as Accepts}
use Rattle.program.specs.declared.Refusal.{Refusal}
use Rattle.proposals.specs.Told.{Settles}

-- demand 3: what a proposal that is taken changed is the payload of integers and booleans alone, each to its own kind, and not the target
abbrev pub TakenMoves : Type 0
TakenMoves = (program kept : List ℤ) (asked : Asked) (word : List ℤ) (S Z : Cells) (ws : List ℤ) (r : Result ℕ Refusal) (left : ℕ)
    → Sized S → Settles S Z r (settle program kept asked word S ws) → r ≡ Ok left → Effect asked S Z

-- a proposal that is turned down changed nothing
abbrev pub RefusedStays : Type 0
RefusedStays = (program kept : List ℤ) (asked : Asked) (word : List ℤ) (S Z : Cells) (ws : List ℤ) (r : Result ℕ Refusal) (f : Refusal)
    → Settles S Z r (settle program kept asked word S ws) → r ≡ Err f → Z ≡ S

-- it is taken exactly when 01's conditions, written apart from the code's order, all hold
abbrev pub TakenExactly : Type 0
TakenExactly = (program kept : List ℤ) (asked : Asked) (word : List ℤ) (S Z : Cells) (ws : List ℤ) (r : Result ℕ Refusal) (left : ℕ)
    → Settles S Z r (settle program kept asked word S ws)
    → (r ≡ Ok left) ↔ ((rest : List ℤ) × (Accepts program kept asked S ws Z rest × (length rest ≡ left)))
