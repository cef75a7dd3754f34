use Rattle.program.proofs.ReadLaws.{Labelling}
use Rattle.program.proofs.reading.read_labels.Given as goal

abbrev pub invariant-loop-i : goal.invariant-loop-i
invariant-loop-i l = Labelling l.n l.p l.i
