-- The identity phase changes least (demand 3 (e); 000, Lemma 7). Assumes nothing.
use Rattle.std.specs.Prelude.{ℕ, ◌≡◌, true, List, ℤ, Some}
use Rattle.words.specs.Answer.{got}
use Rattle.tables.specs.declared.Value.{Value}
use Rattle.tables.specs.Values.{Sound}
use Rattle.tables.specs.Cells.{Cells}
use Rattle.fit.specs.Fit.{Fit}
use Rattle.rules.specs.State.{Res, refuse, slot_at}
use Rattle.rules.specs.Identities.{Tie, ties, is_node, identity_phase}
use Rattle.rules.specs.Rules.Identities.{IsNamed}
use Rattle.rules.specs.Steps.Phases.{Relevant, RelevantUpdate, Clash, Satisfies, Solves, Target, Ready}

-- `phase` is what the identity phase comes to, `ts` are the kept identities, followed in the state before the statement
pub record LeastChange (phase : Res Cells) (before now : Cells) (word : List ℤ) (target : ℕ) (prefix : List ℕ) (v : Value) (ts : List Tie) : Type 0 where
  -- a table that keeps the frozen cells, satisfies the identities and has the value at the target has it at every cell of the class
  pub forced : (Y : Cells) → Solves prefix ts target v before Y → (l : ℕ) → Relevant ts target l → slot_at Y l ≡ Some v
  -- so a clash makes such a table impossible, and where the clash refuses the statement there is none
  pub impossible : Clash prefix ts target v before → (Y : Cells) → Solves prefix ts target v before Y → ⊥
  pub refused : phase ≡ refuse 12 word → (Y : Cells) → Solves prefix ts target v before Y → ⊥
  -- and where there is one, the phase answers, unless 13 refuses the value
  pub answers : (Y : Cells) → Solves prefix ts target v before Y → (IsNamed ts target → is_node v ≡ true) → (Z : Cells) × (phase ≡ got Z)
  -- its answer moves the class and nothing else
  pub updates : (Z : Cells) → phase ≡ got Z → RelevantUpdate prefix ts target v before now Z
  -- if the identities held before, they hold in it: it is such a table
  pub solves : (Z : Cells) → phase ≡ got Z → Satisfies before ts → Solves prefix ts target v before Z
  -- and every other changes at least the cells that it changes, in the same way
  pub least : (Z Y : Cells) → phase ≡ got Z → Solves prefix ts target v before Y → (l : ℕ) → (slot_at Z l ≡ slot_at now l → ⊥) → slot_at Y l ≡ slot_at Z l

abbrev pub LeastChanges : Type 0
LeastChanges =
    (program kept : List ℤ) (before now : Cells) (word : List ℤ) (target : ℕ) (prefix : List ℕ) (v : Value) (ts : List Tie)
    → Fit before → Ready before now → Target before target prefix → Sound v → ties program kept before ≡ got ts
    → LeastChange (identity_phase program kept before now word target prefix v) before now word target prefix v ts
