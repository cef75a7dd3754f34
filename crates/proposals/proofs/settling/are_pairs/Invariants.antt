use Rattle.proposals.proofs.FormLaws.{PairsLeft}
use Rattle.proposals.proofs.settling.are_pairs.Given as goal

abbrev pub invariant-loop-i : goal.invariant-loop-i
invariant-loop-i l = PairsLeft l.pairs l.n l.i l.low
