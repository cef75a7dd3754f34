use Rattle.tables.specs.Lending.{cells_moved, StillMoved}
use Rattle.proposals.proofs.ProposalLaws.{Applying}
use Rattle.proposals.proofs.settling.apply.Given as goal

abbrev pub invariant-loop-i : goal.invariant-loop-i
invariant-loop-i l = Applying (cells_moved l.initial.t) (cells_moved l.t) l.pairs l.initial.saved l.saved l.n l.i × StillMoved l.initial.t l.t
