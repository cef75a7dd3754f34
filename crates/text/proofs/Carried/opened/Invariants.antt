use Rattle.text.specs.Told.{Ahead}
use Rattle.text.proofs.LiteralCode.{Opening}
use Rattle.text.proofs.Carried.opened.Given as goal

abbrev pub invariant-loop-b : goal.invariant-loop-b
invariant-loop-b l = (Ahead l.text l.initial.self → Opening l.text l.initial.self l.self l.b) × (Ahead l.text l.initial.self → Ahead l.text l.self)
