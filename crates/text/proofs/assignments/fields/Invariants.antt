use Rattle.text.proofs.FieldCode.{Turns}
use Rattle.text.proofs.assignments.fields.Given as goal

abbrev pub invariant-loop-n : goal.invariant-loop-n
invariant-loop-n l = Turns l.text l.from l.p l.initial.r.lent l.initial.r.carried l.r.lent l.seen l.r.carried l.n
