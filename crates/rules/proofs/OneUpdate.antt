-- What the identity phase leaves is one and the same. Assumes nothing.
use mathlib.Core.Path.{◌≡◌, sym, ◌∙◌}
use mathlib.Core.List.{List}
use Prim.Native.Nat.{ℕ}
use Rattle.tables.specs.declared.Value.{Value}
use Rattle.tables.specs.Cells.{Cells, cell_at, Sized}
use Rattle.tables.proofs.SearchLaws.{cases}
use Rattle.tables.proofs.SameLaws.{Numbered, tables-same}
use Rattle.fit.specs.Fit.{Fit}
use Rattle.fit.proofs.FitLaws.{fit-numbered}
use Rattle.rules.specs.Identities.{Tie, member, class_of}
use Rattle.rules.specs.Rules.Identities.{Update}
use Rattle.rules.specs.Steps.OneUpdate.{OneUpdate}
use Rattle.rules.specs.Steps.Phases.{Relevant}
use Rattle.rules.proofs.ClassLaws.{class-iff, false≢true}

module _ (ts : List Tie) (target : ℕ) (v : Value) (now : Cells) (fit : Fit now) where
  update-sized : {Y : Cells} → Update ts target v now Y → Sized Y
  update-sized a = record { environment = a.environment_length ∙ fit.sized.environment; heap = a.heap_length ∙ fit.sized.heap }

  update-numbered : {Y : Cells} → Update ts target v now Y → Numbered Y.heap
  update-numbered a =
      let n = fit-numbered now fit in
      record { records = rw a.records n.records; counts = λ r h. rw (a.counts r) (n.counts r h); labels = λ r f h g. rw (a.labels r f) (n.labels r f h g) }

  -- every cell of an update is known
  update-cell : {Y Z : Cells} → Update ts target v now Y → Update ts target v now Z → (l : ℕ) → cell_at Y l ≡ cell_at Z l
  update-cell a b l = cases (member l (class_of ts target))
      (λ e. let r = (class-iff ts target l).0 e in a.class l r ∙ sym (b.class l r))
      (λ e. let n : Relevant ts target l → ⊥ = λ r. false≢true (sym e ∙ (class-iff ts target l).1 r) in a.others l n ∙ sym (b.others l n))

-- what the phase leaves is one and the same
pub one-update : OneUpdate
one-update ts target v now Y Z fit a b =
    tables-same Y Z (update-sized ts target v now fit a) (update-sized ts target v now fit b) (update-numbered ts target v now fit a) (update-numbered ts target v now fit b)
    (update-cell ts target v now fit a b) (a.records ∙ sym b.records) (λ r h. a.counts r ∙ sym (b.counts r)) (λ r f h g. a.labels r f ∙ sym (b.labels r f))
