use Rattle.text.specs.Told.{Ahead}
use Rattle.text.proofs.PartCode.{Parted}
use Rattle.text.proofs.constraints.constraint_on.Given as goal

abbrev pub invariant-loop-m : goal.invariant-loop-m
invariant-loop-m l = Ahead l.text l.initial.r.carried → Ahead l.text l.r.carried × Parted l.text l.from l.p l.initial.r.lent l.initial.r.carried l.m l.r.lent l.r.carried
