use Rattle.words.proofs.Laws.{Copying}
use Rattle.words.proofs.copy.Given as goal

abbrev pub invariant-loop-i : goal.invariant-loop-i
invariant-loop-i l = Copying l.initial.s l.t l.s l.at l.n l.i
