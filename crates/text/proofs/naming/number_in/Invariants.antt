use Rattle.text.proofs.NamingLaws.{Naming}
use Rattle.text.proofs.naming.number_in.Given as goal

abbrev pub invariant-loop-i : goal.invariant-loop-i
invariant-loop-i l = Naming l.text l.names l.from l.count l.t l.i
