-- The identity phase leaves fit tables. Assumes nothing.
use mathlib.Core.Path.{◌≡◌}
use mathlib.Core.List.{List}
use Prim.Native.Nat.{ℕ, ◌<◌}
use lib.IntN.{ℤ}
use Rattle.words.specs.Answer.{got}
use Rattle.tables.specs.declared.Value.{Value}
use Rattle.tables.specs.declared.Value.TheVariants.{Ref}
use Rattle.tables.specs.Values.{cell_of}
use Rattle.tables.specs.Cells.{Cells}
use Rattle.tables.specs.Records.{record_count}
use Rattle.fit.specs.Fit.{Fit, MayHold, in_variable, in_field}
use Rattle.fit.proofs.CellFits.{cell-fits}
use Rattle.fit.proofs.FitLaws.{fit_count, fit-count-word}
use Rattle.rules.specs.Identities.{Tie, ties, class_of, identity_phase}
use Rattle.rules.specs.Steps.Phases.{Target, Ready}
use Rattle.rules.proofs.ClassLaws.{class-iff}
use Rattle.rules.proofs.PhaseLaws.{small-sound}
use Rattle.rules.proofs.PutAllLaws.{put-all-fit}
use Rattle.rules.proofs.ReadyLaws.{Inside, target-inside, target-holds, tied-inside, tied-holds, ready-cell}
use Rattle.rules.proofs.LeastChange.{phase-written}

-- what a cell that is there may hold, it may hold in the tables that the phase writes
ready-holds : (before now : Cells) → Fit before → Ready before now → (l : ℕ) (v : Value) → Inside before l → MayHold before l (cell_of v) → MayHold now l (cell_of v)
ready-holds before now fit y l v h (in_variable a) = in_variable a
ready-holds before now fit y l v h (in_field a b) = in_field (rw (ready-cell before fit y l h) a) b

-- the phase leaves fit tables where those that it writes are fit and the value is no reference or one to a record that is there
pub phase-fit : (program kept : List ℤ) (before now : Cells) (word : List ℤ) (target : ℕ) (prefix : List ℕ) (v : Value) (ts : List Tie) (Z : Cells)
    → Fit before → Fit now → Ready before now → Target before target prefix → ((r : ℕ) → v ≡ Ref r → r < record_count now.heap)
    → ties program kept before ≡ got ts → identity_phase program kept before now word target prefix v ≡ got Z → Fit Z
phase-fit program kept before now word target prefix v ts Z fit fit-now ready reached small followed answered =
    rw (phase-written program kept before now word target prefix v ts fit ready reached (small-sound v (record_count now.heap) (fit_count now fit-now) small) followed Z answered)
    (put-all-fit v now (class_of ts target) fit-now
    (λ l m.
    let r = (class-iff ts target l).0 m in
    ready-holds before now fit ready l v
    (tied-inside program kept before ts followed fit r (target-inside before fit reached).0)
    (tied-holds program kept before ts followed fit v r (target-holds before fit v reached)))
    (rw (fit-count-word now fit-now) (cell-fits (record_count now.heap) v small)))
