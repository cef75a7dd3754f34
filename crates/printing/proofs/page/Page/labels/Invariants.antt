use Rattle.printing.proofs.RowLaws.{InLabels}
use Rattle.printing.proofs.page.Page.labels.Given as goal

abbrev pub invariant-loop-i : goal.invariant-loop-i
invariant-loop-i l = InLabels l.initial.self l.n l.p l.i l.self
