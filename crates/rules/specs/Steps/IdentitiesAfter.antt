-- Kept identities that hold before an assignment or a new hold after its identity phase. Assumes nothing.
use Rattle.std.specs.Prelude.{ℕ, ◌≡◌, List, ℤ}
use Rattle.words.specs.Answer.{got}
use Rattle.tables.specs.declared.Value.{Value}
use Rattle.tables.specs.declared.Sort.TheVariants.{Identities}
use Rattle.tables.specs.Values.{Sound}
use Rattle.tables.specs.Cells.{Cells}
use Rattle.fit.specs.Fit.{Fit}
use Rattle.rules.specs.State.{positions}
use Rattle.rules.specs.Identities.{identity_phase}
use Rattle.rules.specs.Steps.Phases.{Target, Ready}
use Rattle.rules.specs.Start.{identities_hold}

abbrev pub IdentitiesAfter : Type 0
IdentitiesAfter =
    (program kept : List ℤ) (before now : Cells) (word : List ℤ) (target : ℕ) (prefix : List ℕ) (v : Value) (Z : Cells)
    → Fit before → Ready before now → Target before target prefix → Sound v
    → identities_hold program before (positions kept Identities) ≡ got tt
    → identity_phase program kept before now word target prefix v ≡ got Z
    → identities_hold program Z (positions kept Identities) ≡ got tt
