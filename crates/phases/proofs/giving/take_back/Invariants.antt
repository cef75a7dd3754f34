use Prim.Native.Nat.{◌-◌}
use Rattle.tables.specs.Lending.{cells_moved, StillMoved}
use Rattle.phases.proofs.PutLaws.{TakingBack}
use Rattle.phases.proofs.giving.take_back.Given as goal

abbrev pub invariant-loop-at : goal.invariant-loop-at
invariant-loop-at l = record { takes : TakingBack (cells_moved l.initial.t) (cells_moved l.t) l.class l.saved l.i l.at; rest : StillMoved l.initial.t l.t }

abbrev pub decreases-loop-at : goal.decreases-loop-at
decreases-loop-at l = 576 - l.at
