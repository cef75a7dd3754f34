use Rattle.text.proofs.ToldNames.{Telling}
use Rattle.text.proofs.whole.tell.Given as goal

abbrev pub invariant-loop-i : goal.invariant-loop-i
invariant-loop-i l = Telling l.initial.out l.places l.at l.n l.out l.i
