-- After the identity phase the same L leads to the same cell, through the same prefix cells. Assumes nothing.
use Rattle.std.specs.Prelude.{ℕ, ◌+◌, ◌≡◌, ℤ, drop}
use mathlib.Core.List.{List, Memᴰ as OneOf}
use Rattle.words.specs.Answer.{got}
use Rattle.tables.specs.declared.Value.{Value}
use Rattle.tables.specs.declared.Sort.TheVariants.{Identities}
use Rattle.tables.specs.Values.{Sound}
use Rattle.tables.specs.Cells.{Cells}
use Rattle.fit.specs.Fit.{Fit}
use Rattle.rules.specs.State.{positions}
use Rattle.rules.specs.Paths.{Way, way_at}
use Rattle.rules.specs.Identities.{Tie, ties, identity_phase}
use Rattle.rules.specs.Rules.Identities.{Frozen}
use Rattle.rules.specs.Steps.Phases.{Target, Ready}

pub record PathsAfter (program kept : List ℤ) (before : Cells) (prefix : List ℕ) (ts : List Tie) (Z : Cells) : Type 0 where
  -- every L whose prefix cells are frozen; so the target's
  pub frozen : (p : List ℤ) (w : Way) → way_at before p ≡ got w → ((l : ℕ) → OneOf l w.prefix → Frozen prefix ts l) → way_at Z p ≡ got w
  pub target : (p : List ℤ) (w : Way) → way_at before p ≡ got w → w.prefix ≡ prefix → way_at Z p ≡ got w
  -- both sides of every kept identity
  pub left : (position : ℕ) → OneOf position (positions kept Identities) → way_at Z (drop (position + 1) program) ≡ way_at before (drop (position + 1) program)
  pub right : (position : ℕ) (w : Way) → OneOf position (positions kept Identities) → way_at before (drop (position + 1) program) ≡ got w → way_at Z w.rest ≡ way_at before w.rest
  -- so the kept identities are the same ties
  pub identities : ties program kept Z ≡ got ts

abbrev pub SamePaths : Type 0
SamePaths =
    (program kept : List ℤ) (before now : Cells) (word : List ℤ) (target : ℕ) (prefix : List ℕ) (v : Value) (ts : List Tie) (Z : Cells)
    → Fit before → Ready before now → Target before target prefix → Sound v → ties program kept before ≡ got ts
    → identity_phase program kept before now word target prefix v ≡ got Z
    → PathsAfter program kept before prefix ts Z
