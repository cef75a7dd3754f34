use Rattle.entries.proofs.ListLaws.{Entering}
use Rattle.entries.proofs.whole.enter_all.Given as goal

abbrev pub invariant-loop-left : goal.invariant-loop-left
invariant-loop-left l = Entering l.program l.entries l.proposals l.budget l.initial.t l.t l.tally l.left l.i

abbrev pub decreases-loop-left : goal.decreases-loop-left
decreases-loop-left l = l.left
