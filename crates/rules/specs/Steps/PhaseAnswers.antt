-- When the identity phase answers, and with what, and when it refuses the statement. Assumes nothing.
use Rattle.std.specs.Prelude.{ℕ, ◌≡◌, ◌↔◌, true, false, List, ℤ}
use Rattle.words.specs.Answer.{got}
use Rattle.tables.specs.declared.Value.{Value}
use Rattle.tables.specs.Values.{Sound}
use Rattle.tables.specs.Cells.{Cells}
use Rattle.fit.specs.Fit.{Fit}
use Rattle.rules.specs.State.{Res, refuse}
use Rattle.rules.specs.Identities.{Tie, ties, is_node, identity_phase}
use Rattle.rules.specs.Rules.Identities.{IsNamed}
use Rattle.rules.specs.Steps.Phases.{Clash, Computed}

-- it answers exactly where neither 13 nor 12 refuses the statement
abbrev pub PhaseAnswers : Type 0
PhaseAnswers =
    (program kept : List ℤ) (before now : Cells) (word : List ℤ) (target : ℕ) (prefix : List ℕ) (v : Value)
    → Fit before → Sound v
    → (Z : Cells) → (identity_phase program kept before now word target prefix v ≡ got Z) ↔ Computed program kept before now target prefix v Z

-- 13 "target of an identity given a boolean or integer", and else 12 "identity clash"
pub record Refuses (phase : Res Cells) (before : Cells) (word : List ℤ) (target : ℕ) (prefix : List ℕ) (v : Value) (ts : List Tie) : Type 0 where
  pub thirteen : (phase ≡ refuse 13 word) ↔ (IsNamed ts target × (is_node v ≡ false))
  pub twelve : (phase ≡ refuse 12 word) ↔ ((IsNamed ts target → is_node v ≡ true) × Clash prefix ts target v before)

abbrev pub PhaseRefuses : Type 0
PhaseRefuses =
    (program kept : List ℤ) (before now : Cells) (word : List ℤ) (target : ℕ) (prefix : List ℕ) (v : Value) (ts : List Tie)
    → Fit before → Sound v → ties program kept before ≡ got ts
    → Refuses (identity_phase program kept before now word target prefix v) before word target prefix v ts
