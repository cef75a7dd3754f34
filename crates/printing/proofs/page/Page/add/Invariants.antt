use lib.ListN.{take}
use Rattle.printing.specs.Page.{Added}
use Rattle.printing.proofs.page.Page.add.Given as goal

abbrev pub invariant-loop-b : goal.invariant-loop-b
invariant-loop-b l = Added l.initial.self (take l.b-index l.s) l.self
