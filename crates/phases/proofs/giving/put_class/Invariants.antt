use Prim.Native.Nat.{◌-◌}
use Rattle.tables.specs.Lending.{cells_moved, StillMoved}
use Rattle.phases.proofs.PutLaws.{Giving}
use Rattle.phases.proofs.giving.put_class.Given as goal

abbrev pub invariant-loop-l : goal.invariant-loop-l
invariant-loop-l l = record { gives : Giving (cells_moved l.initial.t) (cells_moved l.t) l.class l.initial.saved l.saved l.v l.i l.l; rest : StillMoved l.initial.t l.t }

abbrev pub decreases-loop-l : goal.decreases-loop-l
decreases-loop-l l = 576 - l.l
