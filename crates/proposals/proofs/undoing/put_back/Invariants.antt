use Rattle.tables.specs.Lending.{cells_moved, StillMoved}
use Rattle.proposals.proofs.UndoLaws.{PuttingBack}
use Rattle.proposals.proofs.undoing.put_back.Given as goal

abbrev pub invariant-loop-i : goal.invariant-loop-i
invariant-loop-i l = PuttingBack (cells_moved l.initial.t) (cells_moved l.t) l.pairs l.saved l.n l.i × StillMoved l.initial.t l.t
