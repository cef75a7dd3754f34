use Rattle.tables.proofs.ClearLaws.{Clearing}
use Rattle.tables.proofs.cells.is_clear.Given as goal

abbrev pub invariant-loop-w : goal.invariant-loop-w
invariant-loop-w l = Clearing l.s l.clear l.w-index
