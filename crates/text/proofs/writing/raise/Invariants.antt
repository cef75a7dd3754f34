use lib.IntN.{pos}
use Rattle.text.proofs.RaisedLaws.{Raising}
use Rattle.text.proofs.writing.raise.Given as goal

abbrev pub invariant-loop-i : goal.invariant-loop-i
invariant-loop-i l = Raising (pos 0) l.from l.k l.end l.initial.words l.words l.i × Raising 0 l.from l.k l.end l.initial.origins l.origins l.i
